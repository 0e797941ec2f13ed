use Rattle.std.proofs.Common.{◌≡◌, Some, None, slice_get, sym, ◌∙◌, subst, ap}
use Rattle.ap_host.specs.Table.{Entries, files_of, IsOnce}
use Rattle.ap_host.proofs.TableLemmas.{once_set, files_set}
use Rattle.aptly_scenes.proofs.FileLemmas.{files_of-insert, IsOnce-insert}
use Rattle.aptly_scenes.proofs.files.placed.Goals as goal

pub returns-in-Some-clause-once : goal.returns-in-Some-clause-once
returns-in-Some-clause-once c =
    let found = c.in-Some.ensures.found in
    let at = subst (λ (l : Entries). slice_get l c.in-Some.i ≡ Some (c.args.path, found.0)) c.deref.ensures.value found.1 in
    once_set _ _ _ _ _ _ c.requires at c.index_mut-entry.ensures.value

pub returns-in-Some-clause-files : goal.returns-in-Some-clause-files
returns-in-Some-clause-files c q =
    let found = c.in-Some.ensures.found in
    let at = subst (λ (l : Entries). slice_get l c.in-Some.i ≡ Some (c.args.path, found.0)) c.deref.ensures.value found.1 in
    files_set _ _ _ _ _ _ c.requires at c.index_mut-entry.ensures.value q

pub returns-in_ok-insert-in-None-clause-once : goal.returns-in_ok-insert-in-None-clause-once
returns-in_ok-insert-in-None-clause-once c =
    let free : files_of c.args.entries.now.items c.args.path ≡ None = ap (λ (l : Entries). files_of l c.args.path) (sym c.deref.ensures.value) ∙ c.in-None.ensures.none in
    subst (λ (l : Entries). IsOnce l) (sym c.in_ok-insert-in-None.ensures.items) (IsOnce-insert _ _ _ _ c.requires free)

pub returns-in_ok-insert-in-None-clause-files : goal.returns-in_ok-insert-in-None-clause-files
returns-in_ok-insert-in-None-clause-files c q =
    let free : files_of c.args.entries.now.items c.args.path ≡ None = ap (λ (l : Entries). files_of l c.args.path) (sym c.deref.ensures.value) ∙ c.in-None.ensures.none in
    ap (λ (l : Entries). files_of l q) c.in_ok-insert-in-None.ensures.items ∙ files_of-insert _ _ _ _ free q
