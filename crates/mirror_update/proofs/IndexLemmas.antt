-- The indexes of an archive, read one after the other.
use Rattle.std.proofs.Common.{◌≡◌, ◌<◌, All, get_or, ℕ, List, [], ◌∷◌, ◌++◌, length, Option, Some, None, Result, Ok, Err, refl, sym, ap, ◌∙◌, subst, append_assoc, append-nil}
use Rattle.std.specs.List.{Contains}
use Rattle.std.specs.Result.{MatchResult}
use Rattle.std.specs.Global.{Vec}
use Rattle.ap_text.specs.Paths.{below_folder}
use Rattle.ap_host.specs.Disk.{Path, Files}
use Rattle.index_text.specs.Index.{Lists}
use Rattle.digest_set.specs.declared.facts.Said.{Said}
use Rattle.release_file.specs.declared.listing.Listed.{Listed}
use Rattle.machine_state.specs.declared.refusal.Refusal.{Refusal}
use Rattle.machine_state.specs.declared.refusal.Refusal.TheVariants.{InputAbsent, InputMismatch}
use Rattle.machine_state.specs.declared.arrived.UpdateFault.{UpdateFault}
use Rattle.machine_state.specs.declared.arrived.UpdateFault.TheVariants as faults
use Rattle.package_intake.specs.Index.{IndexEntry, IsIndex, IsMalformed, stated_bytes}
use Rattle.package_intake.specs.Steps.{FaultGives}
use Rattle.package_intake.specs.Faults.{FaultOfFile, IsInputFault, IsOfFile, IsOtherFault, IsOtherRefusal, IsOwnFault, Tells}
use Rattle.mirror_update.specs.Fetch.{FaultMeets, IsAbsentFault, IsMalformedBy, Meets, MeetsItems}
use Rattle.mirror_update.specs.Wanted.{listed_at, stated_of}
use Rattle.mirror_update.specs.Indexes.{AreAllRead, AreRead, FaultOfListed, FaultOfOne, IsIndexRead, IsOfListed, IsOfOne, IsReadAll, listed_bytes}
use Rattle.mirror_update.proofs.FetchLemmas.{read_fault, read_said}

-- ---- one index
module _ (files : Files) (folder : Path) (listed : List Listed) (name : Path) where
  abbrev path : Path
  path = below_folder folder name

  abbrev there : Option Listed → Result (List ℕ) Refusal
  there o = listed_bytes path o (files path)

  pub one_unlisted : (fault : UpdateFault) → listed_at listed name ≡ None → Tells fault (InputAbsent path) → FaultMeets (IsIndexRead files folder listed name) fault
  one_unlisted (faults.Refused refusal) e h = read_fault IsIndex path (there (listed_at listed name)) (faults.Refused refusal) (ap there e ∙ ap Err (sym h))
  one_unlisted faults.OutOfMemory e h = tt
  one_unlisted faults.HostFault e h = tt
  one_unlisted faults.InboxFault e h = tt

  pub one_fault : (file : Listed) (said : Said) (fault : UpdateFault) → listed_at listed name ≡ Some file → said ≡ stated_of file → FaultGives fault (stated_bytes path said (files path)) → FaultMeets (IsIndexRead files folder listed name) fault
  one_fault file said fault e s h =
      read_fault IsIndex path (there (listed_at listed name)) fault (subst (λ (o : Option Listed). FaultGives fault (there o)) (sym e) (subst (λ (x : Said). FaultGives fault (stated_bytes path x (files path))) s h))

  as_malformed : (bytes : List ℕ) (fault : UpdateFault) → IsMalformed path bytes fault → IsMalformedBy IsIndex path bytes fault
  as_malformed bytes (faults.Refused refusal) h = h
  as_malformed bytes faults.OutOfMemory h = tt
  as_malformed bytes faults.HostFault h = h
  as_malformed bytes faults.InboxFault h = h

  said_so : (file : Listed) (said : Said) (bytes : List ℕ) (result : Result (List IndexEntry) UpdateFault) → listed_at listed name ≡ Some file → said ≡ stated_of file → stated_bytes path said (files path) ≡ Ok bytes → MatchResult result (λ x. IsIndex bytes (Ok x)) (IsMalformedBy IsIndex path bytes) → Meets (IsIndexRead files folder listed name) result
  said_so file said bytes result e s g h =
      read_said IsIndex path (there (listed_at listed name)) bytes result (ap there e ∙ ap (λ (x : Said). stated_bytes path x (files path)) (sym s) ∙ g) h

  pub one_said : (file : Listed) (said : Said) (bytes : List ℕ) (result : Result (Vec IndexEntry) UpdateFault) → listed_at listed name ≡ Some file → said ≡ stated_of file → stated_bytes path said (files path) ≡ Ok bytes → MatchResult result (λ v. Lists bytes v.items) (IsMalformed path bytes) → MeetsItems (IsIndexRead files folder listed name) result
  one_said file said bytes (Ok v) e s g h = said_so file said bytes (Ok v.items) e s g h
  one_said file said bytes (Err fault) e s g h = said_so file said bytes (Err fault) e s g (as_malformed bytes fault h)

-- ---- all of them
module _ {X : Type 0} (IsRead : Path → Result (List X) Refusal → Type 0) where
  pub read_more : (names : List Path) (name : Path) (all here : List X) → AreRead IsRead names all → IsRead name (Ok here) → AreRead IsRead (names ++ name ∷ []) (all ++ here)
  read_more [] name all here h r = (here, [], r, refl, ap (λ (xs : List X). xs ++ here) h ∙ sym (append-nil here))
  read_more (n ∷ ns) name all here h r =
      (h.0, h.1 ++ here, h.2, read_more ns name h.1 here h.3 r, ap (λ (xs : List X). xs ++ here) h.4 ∙ append_assoc h.0 h.1 here)

  first_refused : (names before behind : List Path) (name : Path) (all : List X) (fault : UpdateFault) → before ++ name ∷ behind ≡ names → AreRead IsRead before all → FaultMeets (IsRead name) fault → FaultMeets (IsReadAll IsRead names) fault
  first_refused names before behind name all (faults.Refused refusal) e h r = record { before = before; name = name; behind = behind; split = sym e; said = all; read = h; refused = r }
  first_refused names before behind name all faults.OutOfMemory e h r = tt
  first_refused names before behind name all faults.HostFault e h r = tt
  first_refused names before behind name all faults.InboxFault e h r = tt

module _ (files : Files) (folder : Path) (listed : List Listed) where
  pub all_refused : (names before behind : List Path) (name : Path) (all : List IndexEntry) (fault : UpdateFault) → before ++ name ∷ behind ≡ names → AreRead (IsIndexRead files folder listed) before all → FaultMeets (IsIndexRead files folder listed name) fault → FaultMeets (AreAllRead files folder listed names) fault
  unfolding AreAllRead
  all_refused names before behind name all fault e h r = first_refused (IsIndexRead files folder listed) names before behind name all fault e h r

  pub all_read : (names : List Path) (all : List IndexEntry) → AreRead (IsIndexRead files folder listed) names all → AreAllRead files folder listed names (Ok all)
  unfolding AreAllRead
  all_read names all h = h

-- ---- the name at a place
pub member : (P : Path → Type 0) (names : List Path) (i : ℕ) (name : Path) → All P names → i < length names → name ≡ get_or names i name → P name
member P names i name all l at = subst P (sym at) (all i name l)

-- ---- of what a mismatch is told
pub of_one : (folder : Path) (listed : List Listed) (name : Path) (file : Listed) (said : Said) (fault : UpdateFault) → listed_at listed name ≡ Some file → said ≡ stated_of file → FaultOfFile (below_folder folder name) said fault → FaultOfOne folder listed name fault
of_one folder listed name file said (faults.Refused refusal) e s h = by_refusal refusal (subst (λ (x : Said). IsOfFile (below_folder folder name) x refusal) s h)
  where
    by_refusal : (r : Refusal) → IsOfFile (below_folder folder name) (stated_of file) r → IsOfOne folder listed name r
    by_refusal (InputMismatch at what said found) h = (file, e, h)
    by_refusal r h = tt
of_one folder listed name file said faults.OutOfMemory e s h = tt
of_one folder listed name file said faults.HostFault e s h = tt
of_one folder listed name file said faults.InboxFault e s h = tt

pub other_one : (folder : Path) (listed : List Listed) (name : Path) (fault : UpdateFault) → IsOtherFault fault → FaultOfOne folder listed name fault
other_one folder listed name (faults.Refused refusal) h = by_refusal refusal h
  where
    by_refusal : (r : Refusal) → IsOtherRefusal r → IsOfOne folder listed name r
    by_refusal (InputMismatch at what said found) h = absurd h
    by_refusal r h = tt
other_one folder listed name faults.OutOfMemory h = tt
other_one folder listed name faults.HostFault h = tt
other_one folder listed name faults.InboxFault h = tt

pub of_listed : (folder : Path) (listed : List Listed) (names : List Path) (name : Path) (fault : UpdateFault) → Contains names name → FaultOfOne folder listed name fault → FaultOfListed folder listed names fault
of_listed folder listed names name (faults.Refused refusal) c h = by_refusal refusal h
  where
    by_refusal : (r : Refusal) → IsOfOne folder listed name r → IsOfListed folder listed names r
    by_refusal (InputMismatch at what said found) h = (name, c, h)
    by_refusal r h = tt
of_listed folder listed names name faults.OutOfMemory c h = tt
of_listed folder listed names name faults.HostFault c h = tt
of_listed folder listed names name faults.InboxFault c h = tt

pub absent_listed : (folder : Path) (listed : List Listed) (names : List Path) (fault : UpdateFault) → IsAbsentFault fault → FaultOfListed folder listed names fault
absent_listed folder listed names (faults.Refused refusal) h = by_refusal refusal h
  where
    by_refusal : (r : Refusal) → IsAbsentFault (faults.Refused r) → IsOfListed folder listed names r
    by_refusal (InputMismatch at what said found) h = absurd h
    by_refusal r h = tt
absent_listed folder listed names faults.OutOfMemory h = tt
absent_listed folder listed names faults.HostFault h = tt
absent_listed folder listed names faults.InboxFault h = tt

pub absent_input : (fault : UpdateFault) → IsAbsentFault fault → IsInputFault fault
absent_input (faults.Refused refusal) h = by_refusal refusal h
  where
    by_refusal : (r : Refusal) → IsAbsentFault (faults.Refused r) → IsInputFault (faults.Refused r)
    by_refusal (InputAbsent _) h = tt
    by_refusal r h = absurd h
absent_input faults.OutOfMemory h = tt
absent_input faults.HostFault h = absurd h
absent_input faults.InboxFault h = absurd h

pub own_input : (fault : UpdateFault) → IsOwnFault fault → IsInputFault fault
own_input (faults.Refused refusal) h = h
own_input faults.OutOfMemory h = tt
own_input faults.HostFault h = absurd h
own_input faults.InboxFault h = absurd h
