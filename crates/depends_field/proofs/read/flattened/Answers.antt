use Rattle.std.proofs.Common.{List, arith, sym, ap, ◌∙◌}
use Rattle.std.specs.List.{flat_map}
use Rattle.std.proofs.lemmas.List.{map-id}
use Rattle.std.proofs.lemmas.Iterator.Adapters.{YieldsList-from_vec}
use Rattle.std.proofs.lemmas.Iterator.Consumers.{YieldsList-end}
use Rattle.depends_field.specs.declared.alternative.Alternative.{Alternative}
use Rattle.depends_field.proofs.read.flattened.Goals as goal

pub returns : goal.returns
returns c =
    let made = c.into_iter-group-iterator.ensures.into_iter_gives in
    let all = YieldsList-end (YieldsList-from_vec c.args.groups.items made.0 (omega (arith, made.1, c.args.groups.ok.0))) c.loop-group.yielded c.loop-group.group-iterator c.loop-group.yielded_by c.next.result c.next.new.self c.in-None.is c.next.ensures.steps in
    c.loop-group.invariant ∙ ap (flat_map (λ (g : List Alternative). g)) (sym (map-id c.loop-group.yielded) ∙ all.0)
