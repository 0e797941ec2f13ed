-- Something comes of each archive.
use Rattle.std.proofs.Common.{ℕ, List, [], ◌∷◌, ◌++◌, Option, Some, None, Result, Ok, Err, refl, ap}
use Rattle.ap_text.specs.Paths.{below_folder}
use Rattle.ap_host.specs.Disk.{Files, Path}
use Rattle.package_core.specs.Card.{Card}
use Rattle.release_file.specs.declared.listing.Listed.{Listed}
use Rattle.release_file.specs.Release.{ReleaseView}
use Rattle.machine_state.specs.declared.fetched.Fetched.{Fetched}
use Rattle.machine_state.specs.declared.limit.Limit.TheVariants.{ReleaseBytes}
use Rattle.machine_state.specs.declared.refusal.Refusal.{Refusal}
use Rattle.machine_state.specs.declared.refusal.Refusal.TheVariants.{InputAbsent}
use Rattle.machine_state.specs.Values.{MirrorView, StateView}
use Rattle.package_intake.specs.Index.{IndexEntry, IsIndex, bytes_within, or_malformed}
use Rattle.package_intake.specs.Steps.{and_then}
use Rattle.package_intake.proofs.IndexTotal.{index_is}
use Rattle.step_model.specs.Refuses.{IsPick}
use Rattle.step_model.proofs.RefusalLemmas.{some_pick}
use Rattle.mirror_update.specs.Fetch.{IsFetched, IsReleaseText, ReadBy, distribution_folder, release_path}
use Rattle.mirror_update.specs.Wanted.{listed_at, wanted_indexes}
use Rattle.mirror_update.specs.Indexes.{AreAllRead, IsIndexRead, IsReadAll, listed_bytes}
use Rattle.mirror_update.specs.Filter.{conditions_of}
use Rattle.mirror_update.specs.Arrival.{Arrives, dated, entries_arrive}
use Rattle.mirror_update.specs.Answers.{Updates}
use Rattle.mirror_update.proofs.ReleaseTotal.{release_is}

some_read : {X : Type 0} (Says : List ℕ → Result X ℕ → Type 0) → ((bytes : List ℕ) → (said : Result X ℕ) × Says bytes said) → (path : Path) (content : Result (List ℕ) Refusal) → (read : Result X Refusal) × ReadBy Says path content read
some_read Says is path (Ok bytes) = let said = is bytes in (or_malformed path said.0, (said.0, said.1, refl))
some_read Says is path (Err refusal) = (Err refusal, refl)

-- ---- the Release
some_fetched : (files : Files) (mirror : MirrorView) → (fetched : Result ReleaseView Refusal) × IsFetched files mirror fetched
unfolding IsFetched
some_fetched files mirror = some_read IsReleaseText release_is (release_path mirror) (bytes_within ReleaseBytes (release_path mirror) (files (release_path mirror)))

-- ---- the indexes
all_read : {X : Type 0} (IsRead : Path → Result (List X) Refusal → Type 0) → ((name : Path) → (read : Result (List X) Refusal) × IsRead name read) → (names : List Path) → (read : Result (List X) Refusal) × IsReadAll IsRead names read
all_read IsRead one [] = (Ok [], refl)
all_read {X = X} IsRead one (name ∷ names) = by_first (one name) (all_read IsRead one names)
  where
    by_rest : (here : List X) → IsRead name (Ok here) → (read : Result (List X) Refusal) × IsReadAll IsRead names read → (read : Result (List X) Refusal) × IsReadAll IsRead (name ∷ names) read
    by_rest here r (Ok more, h) = (Ok (here ++ more), (here, more, r, h, refl))
    by_rest here r (Err refusal, h) =
        (Err refusal, record { before = name ∷ h.before; name = h.name; behind = h.behind; split = ap (λ (l : List Path). name ∷ l) h.split; said = here ++ h.said; read = (here, h.said, r, h.read, refl); refused = h.refused })

    by_first : (read : Result (List X) Refusal) × IsRead name read → (read : Result (List X) Refusal) × IsReadAll IsRead names read → (read : Result (List X) Refusal) × IsReadAll IsRead (name ∷ names) read
    by_first (Ok here, r) rest = by_rest here r rest
    by_first (Err refusal, r) rest = (Err refusal, record { before = []; name = name; behind = names; split = refl; said = []; read = refl; refused = r })

some_index : (files : Files) (folder : Path) (listed : List Listed) (name : Path) → (read : Result (List IndexEntry) Refusal) × IsIndexRead files folder listed name read
some_index files folder listed name =
    let path = below_folder folder name in
    some_read IsIndex index_is path (listed_bytes path (listed_at listed name) (files path))

some_indexes : (files : Files) (folder : Path) (listed : List Listed) (names : List Path) → (read : Result (List IndexEntry) Refusal) × AreAllRead files folder listed names read
unfolding AreAllRead
some_indexes files folder listed names = all_read (IsIndexRead files folder listed) (some_index files folder listed) names

-- ---- the archive
some_arrives : (files : Files) (known : List Card) (mirror : MirrorView) → (arrived : Result Fetched Refusal) × Arrives files known mirror arrived
unfolding Arrives
some_arrives files known mirror = by_release (some_fetched files mirror)
  where
    by_release : (fetched : Result ReleaseView Refusal) × IsFetched files mirror fetched → (arrived : Result Fetched Refusal) × Arrives files known mirror arrived
    by_release (Ok release, f) =
        let read = some_indexes files (distribution_folder mirror) release.files (wanted_indexes mirror release) in
        (and_then (and_then read.0 (entries_arrive files known mirror release)) (dated release), (Ok release, f, (read.0, read.1, refl)))
    by_release (Err refusal, f) = (Err refusal, (Err refusal, f, refl))

-- ---- the patterns first
pub some_update : (large : Option (List ℕ)) (inbox : Option Files) (state : StateView) (mirror : MirrorView) → (arrived : Result Fetched Refusal) × Updates large inbox state mirror arrived
some_update large inbox state mirror = by_pick (some_pick large (conditions_of mirror)) inbox
  where
    by_pick : (pick : Option Refusal) × IsPick large (conditions_of mirror) pick → (map : Option Files) → (arrived : Result Fetched Refusal) × Updates large map state mirror arrived
    by_pick (Some refusal, legal) map = (Err refusal, record { pick = Some refusal; legal = legal; comes = refl })
    by_pick (None, legal) (Some files) = let some = some_arrives files state.known mirror in (some.0, record { pick = None; legal = legal; comes = some.1 })
    by_pick (None, legal) None = (Err (InputAbsent []), record { pick = None; legal = legal; comes = tt })
