use Rattle.std.proofs.Common.{List, ℕ}
use Rattle.catalogue_lines.proofs.NameLemmas.{follows_last}
use Rattle.catalogue_lines.proofs.names.comes_after.Goals as goal

pub returns-in-Some : goal.returns-in-Some
returns-in-Some c = follows_last (λ (name : List ℕ). name) _ _ c.args.done.now c.in-Some.field-0-1.now c.in-Some.before.now c.args.name.now c.requires c.in-Some.ensures.cases.0 c.is_lt.ensures c.order.ensures
