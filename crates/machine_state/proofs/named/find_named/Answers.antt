use Rattle.std.proofs.Common.{arith, ap, sym, ◌∙◌, Some}
use Rattle.std.specs.Str.{bytes_eq}
use Rattle.std.proofs.lemmas.Cmp.{nat_list_cmp_total}
use Rattle.std.proofs.lemmas.Map.Text.{is_eq-slice_cmp}
use Rattle.machine_state.proofs.KeyLemmas.{found, nowhere, rises_by_key}
use Rattle.machine_state.proofs.named.find_named.Goals as goal

pub returns-in-Ok : goal.returns-in-Ok
returns-in-Ok g c = λ a. ap Some c.index-items-place.is ∙ sym (found g.T.Named.name_of nat_list_cmp_total bytes_eq is_eq-slice_cmp c.args.items.now c.in-Ok.place c.index-items-place.result c.args.name.now a c.in-Ok.ensures.bound (c.in-Ok.ensures.found c.index-items-place.result))

pub returns-in-Err : goal.returns-in-Err
returns-in-Err g c = λ a.
    let parts = c.in-Err.ensures.found (rises_by_key g.T.Named.name_of nat_list_cmp_total bytes_eq is_eq-slice_cmp c.args.items.now c.args.name.now a) in
    sym (nowhere g.T.Named.name_of nat_list_cmp_total bytes_eq is_eq-slice_cmp c.args.items.now c.in-Err.field-0 c.args.name.now (λ k d lt. parts.0 k d (omega arith) lt) parts.1)
