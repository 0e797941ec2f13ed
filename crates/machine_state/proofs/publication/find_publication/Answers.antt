use Rattle.std.proofs.Common.{arith, ap, sym, ◌∙◌, Some}
use Rattle.machine_state.proofs.KeyLemmas.{found, nowhere, rises_by_key}
use Rattle.machine_state.proofs.PlaceLemmas.{place_of, is_same_place, two_total, two_agrees}
use Rattle.machine_state.proofs.publication.find_publication.Goals as goal

pub returns-in-Ok : goal.returns-in-Ok
returns-in-Ok c = λ a. ap Some c.index-publications-place.is ∙ sym (found place_of two_total is_same_place two_agrees c.args.publications.now c.in-Ok.place c.index-publications-place.result (c.args.prefix.now, c.args.dist.now) a c.in-Ok.ensures.bound (c.in-Ok.ensures.found c.index-publications-place.result))

pub returns-in-Err : goal.returns-in-Err
returns-in-Err c = λ a.
    let parts = c.in-Err.ensures.found (rises_by_key place_of two_total is_same_place two_agrees c.args.publications.now (c.args.prefix.now, c.args.dist.now) a) in
    sym (nowhere place_of two_total is_same_place two_agrees c.args.publications.now c.in-Err.field-0 (c.args.prefix.now, c.args.dist.now) (λ k d lt. parts.0 k d (omega arith) lt) parts.1)
