use Rattle.std.proofs.Common.{ap, ◌∙◌}
use Rattle.std.specs.Ordering.{nat_cmp}
use Rattle.std.specs.Cmp.Lexicographic.{slice_cmp}
use Rattle.catalogue_lines.proofs.NameLemmas.{follows_last}
use Rattle.catalogue_lines.proofs.names.follows.Goals as goal

pub returns-in-Some : goal.returns-in-Some
returns-in-Some g c = follows_last g.T.Named.name_of _ _ c.args.done.now c.in-Some.field-0-1.now c.in-Some.before.now c.args.name.now c.requires c.in-Some.ensures.cases.0 c.is_lt.ensures (c.order.ensures ∙ ap (λ n. slice_cmp nat_cmp n c.args.name.now) c.name.ensures)
