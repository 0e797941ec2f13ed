use Rattle.std.proofs.Common.{◌≡◌, Some, slice_get, sym, ◌∙◌, subst, ap}
use Rattle.ap_host.specs.Table.{Entries, files_of, IsOnce}
use Rattle.ap_host.proofs.TableLemmas.{IsOnce-remove, files_of-remove}
use Rattle.aptly_scenes.proofs.files.removed.Goals as goal

pub returns-in-Some-clause-once : goal.returns-in-Some-clause-once
returns-in-Some-clause-once c =
    subst (λ (l : Entries). IsOnce l) (sym c.remove.ensures.items) (IsOnce-remove _ _ c.requires)

pub returns-in-Some-clause-files : goal.returns-in-Some-clause-files
returns-in-Some-clause-files c q =
    let found = c.in-Some.ensures.found in
    let at = subst (λ (l : Entries). slice_get l c.in-Some.i ≡ Some (c.args.path.now, found.0)) c.deref.ensures.value found.1 in
    ap (λ (l : Entries). files_of l q) c.remove.ensures.items ∙ files_of-remove _ _ _ c.requires at q
