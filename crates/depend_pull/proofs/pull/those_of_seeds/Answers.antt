use Rattle.std.proofs.Common.{◌≡◌, [], IfOk, ap, ◌∙◌, subst}
use Rattle.std.specs.List.{filter}
use Rattle.package_list.specs.Sorted.{has, union}
use Rattle.depend_pull.specs.Seeds.{seed_cmp}
use Rattle.depend_pull.proofs.SeedOrder.{those_either}
use Rattle.depend_pull.proofs.pull.those_of_seeds.Goals as goal

pub returns : goal.returns
returns c =
    subst (λ l. IfOk c.those_in.result (λ list. list ≡ l))
    (ap (λ keys. filter (has seed_cmp keys) c.args.source.now) c.in_ok-set.ensures ∙ those_either c.args.source.now (union seed_cmp [] c.args.seeds.now))
    c.those_in.ensures
