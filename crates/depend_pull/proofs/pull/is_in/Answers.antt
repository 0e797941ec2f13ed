use Rattle.std.proofs.Common.{◌≡◌, ap, ◌∙◌}
use Rattle.std.specs.Ordering.{is_eq}
use Rattle.std.specs.List.{list_any}
use Rattle.depend_pull.specs.Seeds.{seed_cmp}
use Rattle.depend_pull.proofs.SeedOrder.{asked_back}
use Rattle.depend_pull.proofs.pull.is_in.Goals as goal

pub returns : goal.returns
returns c = c.contains.ensures ∙ ap (λ p. list_any (λ q. is_eq (seed_cmp p q)) c.args.set.now.keys) c.new.ensures ∙ asked_back c.args.set.now.keys c.args.candidate.now
