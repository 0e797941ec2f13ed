-- A file of the inbox that is read.
use Rattle.std.proofs.Common.{◌≡◌, ℕ, List, Result, Ok, Err, IfErr, IfOk, refl, sym, subst}
use Rattle.std.specs.Result.{MatchResult}
use Rattle.std.specs.Global.{Vec}
use Rattle.ap_host.specs.Disk.{Path, Files}
use Rattle.release_file.specs.Release.{ReleaseView, IsRelease}
use Rattle.machine_state.specs.declared.limit.Limit.TheVariants.{ReleaseBytes}
use Rattle.machine_state.specs.declared.refusal.Refusal.{Refusal}
use Rattle.machine_state.specs.declared.refusal.Refusal.TheVariants.{InputAbsent, InputMismatch, Limit}
use Rattle.machine_state.specs.declared.arrived.UpdateFault.{UpdateFault}
use Rattle.machine_state.specs.declared.arrived.UpdateFault.TheVariants as faults
use Rattle.machine_state.specs.Values.{MirrorView}
use Rattle.package_intake.specs.Index.{IsUnread, IsUnreadFault, bytes_within}
use Rattle.package_intake.specs.Steps.{FaultGives}
use Rattle.package_intake.specs.Faults.{Tells}
use Rattle.mirror_update.specs.Fetch.{FaultMeets, IsAbsentFault, IsFetched, IsMalformedBy, IsReleaseText, Meets, MeetsItems, ReadBy, release_path}
use Rattle.mirror_update.specs.Answers.{IsReleaseFault, IsReleaseRefusal, IsSomeRelease}

module _ {X : Type 0} (Says : List ℕ → Result X ℕ → Type 0) (path : Path) (content : Result (List ℕ) Refusal) where
  -- the bytes aren't there
  pub read_fault : (fault : UpdateFault) → FaultGives fault content → FaultMeets (ReadBy Says path content) fault
  read_fault (faults.Refused refusal) e = subst (λ r. ReadBy Says path r (Err refusal)) (sym e) refl
  read_fault faults.HostFault e = tt
  read_fault faults.InboxFault e = tt
  read_fault faults.OutOfMemory e = tt

  malformed_meets : (bytes : List ℕ) (fault : UpdateFault) → content ≡ Ok bytes → IsMalformedBy Says path bytes fault → FaultMeets (ReadBy Says path content) fault
  malformed_meets bytes (faults.Refused refusal) e h = subst (λ r. ReadBy Says path r (Err refusal)) (sym e) (Err h.0, h.1, (λ i. Err (h.2 i)))
  malformed_meets bytes faults.OutOfMemory e h = tt
  malformed_meets bytes faults.HostFault e h = tt
  malformed_meets bytes faults.InboxFault e h = tt

  -- the bytes say something, or are malformed
  pub read_said : (bytes : List ℕ) (result : Result X UpdateFault) → content ≡ Ok bytes → MatchResult result (λ x. Says bytes (Ok x)) (IsMalformedBy Says path bytes) → Meets (ReadBy Says path content) result
  read_said bytes (Ok x) e h = subst (λ r. ReadBy Says path r (Ok x)) (sym e) (Ok x, h, refl)
  read_said bytes (Err fault) e h = malformed_meets bytes fault e h

-- ---- what an error that is handed on meets
pub met_err : {X : Type 0} (P : Result X Refusal → Type 0) (r : Result X UpdateFault) (x y : UpdateFault) → r ≡ Err x → x ≡ y → FaultMeets P y → Meets P r
met_err P r x y e s h = subst (Meets P) (sym e) (subst (FaultMeets P) (sym s) h)

pub met_items_err : {X : Type 0} (P : Result (List X) Refusal → Type 0) (r : Result (Vec X) UpdateFault) (x y : UpdateFault) → r ≡ Err x → x ≡ y → FaultMeets P y → MeetsItems P r
met_items_err P r x y e s h = subst (MeetsItems P) (sym e) (subst (FaultMeets P) (sym s) h)

-- want of memory meets anything
pub memory_meets : {X : Type 0} (P : Result X Refusal → Type 0) (fault : UpdateFault) → fault ≡ faults.OutOfMemory → FaultMeets P fault
memory_meets P fault e = subst (FaultMeets P) (sym e) tt

-- ---- the Release
module _ (files : Files) (mirror : MirrorView) where
  pub release_fault : (fault : UpdateFault) → FaultGives fault (bytes_within ReleaseBytes (release_path mirror) (files (release_path mirror))) → FaultMeets (IsFetched files mirror) fault
  unfolding IsFetched
  release_fault fault h = read_fault IsReleaseText (release_path mirror) (bytes_within ReleaseBytes (release_path mirror) (files (release_path mirror))) fault h

  pub release_said : (bytes : List ℕ) (result : Result ReleaseView UpdateFault) → bytes_within ReleaseBytes (release_path mirror) (files (release_path mirror)) ≡ Ok bytes → MatchResult result (IsRelease bytes) (IsMalformedBy IsReleaseText (release_path mirror) bytes) → Meets (IsFetched files mirror) result
  unfolding IsFetched
  release_said bytes result e h = read_said IsReleaseText (release_path mirror) (bytes_within ReleaseBytes (release_path mirror) (files (release_path mirror))) bytes result e (as_says result h)
    where
      as_says : (r : Result ReleaseView UpdateFault) → MatchResult r (IsRelease bytes) (IsMalformedBy IsReleaseText (release_path mirror) bytes) → MatchResult r (λ x. IsReleaseText bytes (Ok x)) (IsMalformedBy IsReleaseText (release_path mirror) bytes)
      as_says (Ok x) h = h
      as_says (Err e) h = h

-- ---- why it isn't fetched, on any inbox
pub absent_release : (mirror : MirrorView) (fault : UpdateFault) → IsAbsentFault fault → IsReleaseFault mirror fault
absent_release mirror (faults.Refused refusal) h = by_refusal refusal h
  where
    by_refusal : (r : Refusal) → IsAbsentFault (faults.Refused r) → IsReleaseRefusal mirror r
    by_refusal (InputAbsent path) h = tt
    by_refusal r h = absurd h
absent_release mirror faults.OutOfMemory h = tt
absent_release mirror faults.HostFault h = absurd h
absent_release mirror faults.InboxFault h = absurd h

pub unread_release : (mirror : MirrorView) (fault : UpdateFault) → IsUnreadFault ReleaseBytes (release_path mirror) fault → IsReleaseFault mirror fault
unread_release mirror (faults.Refused refusal) h = by_refusal refusal h
  where
    by_refusal : (r : Refusal) → IsUnread ReleaseBytes (release_path mirror) r → IsReleaseRefusal mirror r
    by_refusal (InputAbsent path) h = tt
    by_refusal (Limit limit) h = h
    by_refusal (InputMismatch at what said found) h = h
    by_refusal r h = absurd h
unread_release mirror faults.OutOfMemory h = tt
unread_release mirror faults.HostFault h = absurd h
unread_release mirror faults.InboxFault h = tt

pub malformed_release : (mirror : MirrorView) (bytes : List ℕ) (fault : UpdateFault) → IsMalformedBy IsReleaseText (release_path mirror) bytes fault → IsReleaseFault mirror fault
malformed_release mirror bytes (faults.Refused refusal) h = subst (IsReleaseRefusal mirror) (sym h.2) refl
malformed_release mirror bytes faults.OutOfMemory h = tt
malformed_release mirror bytes faults.HostFault h = absurd h
malformed_release mirror bytes faults.InboxFault h = absurd h

pub tells_absent : (path : Path) (fault : UpdateFault) → Tells fault (InputAbsent path) → IsAbsentFault fault
tells_absent path (faults.Refused refusal) h = subst (λ r. IsAbsentFault (faults.Refused r)) (sym h) tt
tells_absent path faults.OutOfMemory h = tt
tells_absent path faults.HostFault h = absurd h
tells_absent path faults.InboxFault h = absurd h

pub malformed_of : (mirror : MirrorView) (bytes : List ℕ) (result : Result ReleaseView UpdateFault) → MatchResult result (IsRelease bytes) (IsMalformedBy IsReleaseText (release_path mirror) bytes) → IfErr result (IsReleaseFault mirror)
malformed_of mirror bytes (Ok release) h = tt
malformed_of mirror bytes (Err fault) h = malformed_release mirror bytes fault h

-- what was read is what some text says
pub some_release : (bytes : List ℕ) (path : Path) (result : Result ReleaseView UpdateFault) → MatchResult result (IsRelease bytes) (IsMalformedBy IsReleaseText path bytes) → IfOk result IsSomeRelease
some_release bytes path (Ok release) h = (bytes, h)
some_release bytes path (Err fault) h = tt
