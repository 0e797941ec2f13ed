use Rattle.std.proofs.Common.{[], ◌∷◌, map, ◌∙◌}
use Rattle.std.proofs.lemmas.Result.{err_from_is_err_and}
use Rattle.depends_field.specs.declared.alternative.Alternative.{Alternative}
use Rattle.depends_field.proofs.Readers.{provides_found, provides_only}
use Rattle.depends_field.proofs.read.read_provides.Goals as goal

pub returns-in_err-groups-clause-only : goal.returns-in_err-groups-clause-only
returns-in_err-groups-clause-only c = λ list is.
    let p = err_from_is_err_and c.from_residual.result c.from_residual.ensures.1 in
    rw p.1 (p.2 ∙ c.in_err-groups.ensures.only (map (λ (a : Alternative). a ∷ []) list) is)

pub returns-clause-found : goal.returns-clause-found
returns-clause-found c = provides_found c.args.text.now c.in_ok-groups.groups.items _ c.in_ok-groups.ensures.found c.in_ok-flattened.ensures

pub returns-clause-only : goal.returns-clause-only
returns-clause-only c = λ list is.
    provides_only c.in_ok-groups.groups.items c.in_ok-flattened.field-0.items list (c.in_ok-groups.ensures.only (map (λ (a : Alternative). a ∷ []) list) is) c.in_ok-flattened.ensures
