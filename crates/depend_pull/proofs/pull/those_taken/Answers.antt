use Rattle.std.proofs.Common.{◌≡◌, IfOk, ap, ◌∙◌, subst}
use Rattle.std.specs.List.{filter}
use Rattle.package_list.specs.Sorted.{has}
use Rattle.depend_pull.specs.Seeds.{seed_cmp}
use Rattle.depend_pull.proofs.SeedOrder.{those_gathered}
use Rattle.depend_pull.proofs.pull.those_taken.Goals as goal

pub returns : goal.returns
returns c =
    subst (λ l. IfOk c.those_in.result (λ list. list ≡ l))
    (ap (λ keys. filter (has seed_cmp keys) c.args.source.now) c.in_ok-set.ensures ∙ those_gathered c.args.source.now c.args.taken.now)
    c.those_in.ensures
