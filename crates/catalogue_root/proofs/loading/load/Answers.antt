use Rattle.std.proofs.Common.{List, ℕ, Some, Ok, Err, sym, ◌∙◌, ap, subst}
use Rattle.std.proofs.lemmas.Result.{err_from_is_err_and}
use Rattle.ap_host.specs.Disk.{live_of}
use Rattle.catalogue_root.specs.Loads.{IsLoadOf}
use Rattle.catalogue_root.proofs.LoadLemmas.{loads_fault, loads_files}
use Rattle.catalogue_root.proofs.loading.load.Goals as goal

pub returns-in_err-state-in-Some-clause-told : goal.returns-in_err-state-in-Some-clause-told
returns-in_err-state-in-Some-clause-told g c x is =
    let r = c.from_residual-in_err-state-in-Some.result in
    let e = err_from_is_err_and r c.from_residual-in_err-state-in-Some.ensures.1 in
    let there = ap (live_of x) (sym c.in_ok-path.ensures) ∙ sym (c.in_ok-read_whole.ensures.told x is) ∙ c.in-Some.is in
    loads_fault (live_of x) c.in-Some.text c.in_err-state-in-Some.field-0.0 r there (e.1 ∙ ap Err e.2) (subst (λ (t : List ℕ). IsLoadOf t (Err c.in_err-state-in-Some.field-0.0)) c.as_slice.ensures c.in_err-state-in-Some.ensures)

pub returns-in_ok-state-in-Some-clause-told : goal.returns-in_ok-state-in-Some-clause-told
returns-in_ok-state-in-Some-clause-told g c x is =
    let s = c.in_ok-state-in-Some.state in
    let there = ap (live_of x) (sym c.in_ok-path.ensures) ∙ sym (c.in_ok-read_whole.ensures.told x is) ∙ c.in-Some.is in
    let w = subst (λ (t : List ℕ). IsLoadOf t (Ok s)) c.as_slice.ensures c.in_ok-state-in-Some.ensures in
    loads_files (live_of x) s c.with_files.result w.0 (there ∙ ap Some w.1) c.with_files.ensures.same (c.with_files.ensures.told x (c.in_ok-read_whole.ensures.log ∙ is))
