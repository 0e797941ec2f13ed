use Rattle.std.proofs.Common.{List, Err, sym, ◌∙◌, ap, subst}
use Rattle.std.proofs.lemmas.Result.{err_from_is_err_and}
use Rattle.ap_host.specs.Disk.{live_of}
use Rattle.package_core.specs.Card.{Card}
use Rattle.machine_state.specs.Values.{StateView}
use Rattle.catalogue_root.specs.Loads.{AreLookedFor}
use Rattle.catalogue_root.proofs.LoadLemmas.{looked_on}
use Rattle.catalogue_root.proofs.loading.with_files.Goals as goal

pub returns-in_err-look_for_all-clause-told : goal.returns-in_err-look_for_all-clause-told
returns-in_err-look_for_all-clause-told g c x is =
    let e = err_from_is_err_and c.from_residual.result c.from_residual.ensures.1 in
    let fault = c.in_err-look_for_all.field-0.0 in
    let known = c.as_slice.ensures ∙ ap (λ (s : StateView). s.known) c.state.view_is in
    subst (AreLookedFor (live_of x) c.args.state.known) (sym (e.1 ∙ ap Err e.2))
    (looked_on (Unit {0}) StateView (live_of x) c.args.state.known fault (subst (λ (list : List Card). AreLookedFor {T = Unit {0}} (live_of x) list (Err fault)) known (c.in_err-look_for_all.ensures.told x is)))
