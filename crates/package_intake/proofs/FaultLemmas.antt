-- The faults of an arrival.
use Rattle.std.proofs.Common.{◌≡◌, ◌<◌, ℕ, List, [], Some, None, Result, Ok, Err, IfErr, refl, sym, subst, subst₂, arith}
use Rattle.std.specs.Fmt.{decimal}
use Rattle.ap_host.specs.Disk.{Path}
use Rattle.digest_set.specs.declared.facts.Digests.{Digests}
use Rattle.digest_set.specs.declared.facts.Said.{Said}
use Rattle.digest_set.specs.declared.facts.What.{What}
use Rattle.digest_set.specs.declared.facts.What.TheVariants.{Size}
use Rattle.hash_pool.specs.declared.fault.PoolFault.{PoolFault}
use Rattle.hash_pool.specs.declared.fault.PoolFault.TheVariants as pool_faults
use Rattle.hash_pool.specs.Answers.{IsDifference}
use Rattle.hash_pool.proofs.AnswerLemmas.{other_size}
use Rattle.machine_state.specs.declared.limit.Limit.{Limit as LimitKind}
use Rattle.machine_state.specs.declared.refusal.Refusal.{Refusal}
use Rattle.machine_state.specs.declared.refusal.Refusal.TheVariants.{InputAbsent, InputMismatch, Limit as OverLimit}
use Rattle.machine_state.specs.declared.limit.Limit.TheVariants.{Index}
use Rattle.package_core.specs.Card.{Card}
use Rattle.package_list.specs.declared.fault.ListFault.{ListFault}
use Rattle.package_list.specs.declared.fault.ListFault.TheVariants as list_faults
use Rattle.ap_text.specs.Paths.{below_folder}
use Rattle.std.specs.List.{Contains}
use Rattle.digest_set.specs.Difference.{difference}
use Rattle.machine_state.specs.declared.arrived.UpdateFault.{UpdateFault}
use Rattle.machine_state.specs.declared.arrived.UpdateFault.TheVariants as faults
use Rattle.package_intake.specs.Faults.{AreDifferent, FaultOfFile, FaultOfFiles, IsAnyFault, IsInputFault, IsInputLimit, IsOfFile, IsOfFiles, IsOtherFault, IsOtherRefusal, IsOwnFault, Tells, list_tells, pool_tells}
use Rattle.package_intake.specs.Index.{EndsEarlyIf, IsUnread, IsUnreadFault, OfIndex}

-- a mismatch of a file, as a fault
pub differs_own : (path : Path) (what : What) (said found : List ℕ) (fault : UpdateFault) → Tells fault (InputMismatch path what said found) → AreDifferent what said found → IsOwnFault fault
differs_own path what said found (faults.Refused refusal) is differ = subst (λ r. IsOwnFault (faults.Refused r)) (sym is) differ
differs_own path what said found faults.OutOfMemory is differ = tt
differs_own path what said found faults.HostFault is differ = absurd is
differs_own path what said found faults.InboxFault is differ = absurd is

-- why the pool didn't take a file, as a fault
pub pool_any : (path : Path) (said : Said) (cause : PoolFault) (fault : UpdateFault) → pool_tells path cause fault → IsDifference said cause → IsAnyFault fault
pool_any path said pool_faults.Absent (faults.Refused refusal) is differs = subst (λ r. IsAnyFault (faults.Refused r)) (sym is) tt
pool_any path said (pool_faults.Mismatch what s f) (faults.Refused refusal) is differs = subst (λ r. IsAnyFault (faults.Refused r)) (sym is) (said, differs.0, differs.1)
pool_any path said pool_faults.HostFault fault is differs = subst IsAnyFault (sym is) tt
pool_any path said pool_faults.InboxFault fault is differs = subst IsAnyFault (sym is) tt
pool_any path said pool_faults.OutOfMemory fault is differs = subst IsAnyFault (sym is) tt
pool_any path said cause faults.OutOfMemory is differs = tt
pool_any path said cause faults.HostFault is differs = tt
pool_any path said cause faults.InboxFault is differs = tt

-- ---- the index
lengths_differ : (n m : ℕ) → (n ≡ m → ⊥) → AreDifferent Size (decimal n) (decimal m)
lengths_differ n m differ = (said, found, other_size said found differ)
  where
    said : Said
    said = record { size = n; sha256 = []; sha1 = None; md5 = None }

    found : Digests
    found = record { size = m; md5 = []; sha1 = []; sha256 = [] }

-- of which file a mismatch is told
pub differs_file : (path : Path) (told : Said) (what : What) (said found : List ℕ) (fault : UpdateFault) → Tells fault (InputMismatch path what said found) → (is : Digests) → difference told is ≡ Some (what, said, found) → FaultOfFile path told fault
differs_file path told what said found (faults.Refused refusal) t is d = subst (IsOfFile path told) (sym t) (refl, is, d)
differs_file path told what said found faults.OutOfMemory t is d = tt
differs_file path told what said found faults.HostFault t is d = tt
differs_file path told what said found faults.InboxFault t is d = tt

-- a file of another size than is stated
pub sizes_input : (path : Path) (n m : ℕ) (fault : UpdateFault) → (n ≡ m → ⊥) → Tells fault (InputMismatch path Size (decimal n) (decimal m)) → IsInputFault fault
sizes_input path n m (faults.Refused refusal) differ is = subst (λ r. IsInputFault (faults.Refused r)) (sym is) (lengths_differ n m differ)
sizes_input path n m faults.OutOfMemory differ is = tt
sizes_input path n m faults.HostFault differ is = absurd is
sizes_input path n m faults.InboxFault differ is = absurd is

pub sizes_file : (path : Path) (told : Said) (m : ℕ) (fault : UpdateFault) → (told.size ≡ m → ⊥) → Tells fault (InputMismatch path Size (decimal told.size) (decimal m)) → FaultOfFile path told fault
sizes_file path told m fault differ is = differs_file path told Size (decimal told.size) (decimal m) fault is found (other_size told found differ)
  where
    found : Digests
    found = record { size = m; md5 = []; sha1 = []; sha256 = [] }

-- what holds of an error and follows
pub if_err : {X : Type 0} (r : Result X UpdateFault) (P Q : UpdateFault → Type 0) → ((fault : UpdateFault) → P fault → Q fault) → IfErr r P → IfErr r Q
if_err (Ok x) P Q f h = tt
if_err (Err fault) P Q f h = f fault h

-- what ends early differs
pub early_differ : (path at : Path) (what : What) (said found : List ℕ) → EndsEarlyIf path (InputMismatch at what said found) → AreDifferent what said found
early_differ path at what said found h =
    subst (λ (w : What). AreDifferent w said found) (sym h.1) (subst₂ (AreDifferent Size) (sym h.5) (sym h.6) (lengths_differ h.2 h.3 (λ e. omega (arith, e, h.4))))

-- a file that isn't read within a limit
pub unread_early : (limit : LimitKind) (path : Path) (n m : ℕ) (fault : UpdateFault) → m < n → Tells fault (InputMismatch path Size (decimal n) (decimal m)) → IsUnreadFault limit path fault
unread_early limit path n m (faults.Refused refusal) lt is = subst (IsUnread limit path) (sym is) (refl, refl, n, m, lt, refl, refl)
unread_early limit path n m faults.OutOfMemory lt is = tt
unread_early limit path n m faults.HostFault lt is = absurd is
unread_early limit path n m faults.InboxFault lt is = absurd is

pub unread_index : (path : Path) (fault : UpdateFault) → IsUnreadFault Index path fault → IsInputFault fault
unread_index path (faults.Refused refusal) h = by_refusal refusal h
  where
    by_refusal : (r : Refusal) → IsUnread Index path r → IsInputFault (faults.Refused r)
    by_refusal (InputAbsent at) h = tt
    by_refusal (OverLimit passed) h = subst IsInputLimit (sym h) tt
    by_refusal (InputMismatch at what said found) h = early_differ path at what said found h
    by_refusal r h = absurd h
unread_index path faults.OutOfMemory h = tt
unread_index path faults.HostFault h = absurd h
unread_index path faults.InboxFault h = tt

pub unread_ends : (limit : LimitKind) (path : Path) (fault : UpdateFault) → IsUnreadFault limit path fault → OfIndex path fault
unread_ends limit path (faults.Refused refusal) h = by_refusal refusal h
  where
    by_refusal : (r : Refusal) → IsUnread limit path r → EndsEarlyIf path r
    by_refusal (InputMismatch at what said found) h = h
    by_refusal r h = tt
unread_ends limit path faults.OutOfMemory h = tt
unread_ends limit path faults.HostFault h = absurd h
unread_ends limit path faults.InboxFault h = tt

pub pool_file : (path : Path) (told : Said) (cause : PoolFault) (fault : UpdateFault) → pool_tells path cause fault → IsDifference told cause → FaultOfFile path told fault
pool_file path told pool_faults.Absent (faults.Refused refusal) is d = subst (IsOfFile path told) (sym is) tt
pool_file path told (pool_faults.Mismatch what s f) (faults.Refused refusal) is d = subst (IsOfFile path told) (sym is) (refl, d.0, d.1)
pool_file path told pool_faults.HostFault fault is d = subst (FaultOfFile path told) (sym is) tt
pool_file path told pool_faults.InboxFault fault is d = subst (FaultOfFile path told) (sym is) tt
pool_file path told pool_faults.OutOfMemory fault is d = subst (FaultOfFile path told) (sym is) tt
pool_file path told cause faults.OutOfMemory is d = tt
pool_file path told cause faults.HostFault is d = tt
pool_file path told cause faults.InboxFault is d = tt

pub among_files : (folder : Path) (path : Card → Path) (packages : List Card) (p : Card) (fault : UpdateFault) → Contains packages p → FaultOfFile (below_folder folder (path p)) p.said fault → FaultOfFiles folder path packages fault
among_files folder path packages p (faults.Refused refusal) c h = by_refusal refusal h
  where
    by_refusal : (r : Refusal) → IsOfFile (below_folder folder (path p)) p.said r → IsOfFiles folder path packages r
    by_refusal (InputMismatch at what said found) h = (p, c, h)
    by_refusal r h = tt
among_files folder path packages p faults.OutOfMemory c h = tt
among_files folder path packages p faults.HostFault c h = tt
among_files folder path packages p faults.InboxFault c h = tt

-- a mismatch of files that are among more
pub files_among : (folder : Path) (path : Card → Path) (few many : List Card) (fault : UpdateFault) → ((p : Card) → Contains few p → Contains many p) → FaultOfFiles folder path few fault → FaultOfFiles folder path many fault
files_among folder path few many (faults.Refused refusal) within h = by_refusal refusal h
  where
    by_refusal : (r : Refusal) → IsOfFiles folder path few r → IsOfFiles folder path many r
    by_refusal (InputMismatch at what said found) h = (h.0, within h.0 h.1, h.2)
    by_refusal r h = tt
files_among folder path few many faults.OutOfMemory within h = tt
files_among folder path few many faults.HostFault within h = tt
files_among folder path few many faults.InboxFault within h = tt

-- where nothing is told of a mismatch, nothing is told of one of these files
pub other_files : (folder : Path) (path : Card → Path) (packages : List Card) (fault : UpdateFault) → IsOtherFault fault → FaultOfFiles folder path packages fault
other_files folder path packages (faults.Refused refusal) h = by_refusal refusal h
  where
    by_refusal : (r : Refusal) → IsOtherRefusal r → IsOfFiles folder path packages r
    by_refusal (InputMismatch at what said found) h = absurd h
    by_refusal r h = tt
other_files folder path packages faults.OutOfMemory h = tt
other_files folder path packages faults.HostFault h = tt
other_files folder path packages faults.InboxFault h = tt

-- an absent file, a full list or a conflict tells of no mismatch
pub tells_other : (refusal : Refusal) (fault : UpdateFault) → IsOtherRefusal refusal → Tells fault refusal → IsOtherFault fault
tells_other refusal (faults.Refused told) h t = subst IsOtherRefusal (sym t) h
tells_other refusal faults.OutOfMemory h t = tt
tells_other refusal faults.HostFault h t = tt
tells_other refusal faults.InboxFault h t = tt

pub list_other : (limit : LimitKind) (cause : ListFault) (fault : UpdateFault) → list_tells limit cause fault → IsOtherFault fault
list_other limit (list_faults.Conflict triple) fault t = subst IsOtherFault (sym t) tt
list_other limit list_faults.Full fault t = subst IsOtherFault (sym t) tt
list_other limit list_faults.OutOfMemory fault t = subst IsOtherFault (sym t) tt

-- and nothing of one file
pub other_file : (path : Path) (told : Said) (fault : UpdateFault) → IsOtherFault fault → FaultOfFile path told fault
other_file path told (faults.Refused refusal) h = by_refusal refusal h
  where
    by_refusal : (r : Refusal) → IsOtherRefusal r → IsOfFile path told r
    by_refusal (InputMismatch at what said found) h = absurd h
    by_refusal r h = tt
other_file path told faults.OutOfMemory h = tt
other_file path told faults.HostFault h = tt
other_file path told faults.InboxFault h = tt

-- what holds of an error holds where it is handed on
pub handed_on : {X : Type 0} (r : Result X UpdateFault) (P : UpdateFault → Type 0) (x y : UpdateFault) → r ≡ Err x → x ≡ y → P y → IfErr r P
handed_on {X = X} r P x y e s h = subst (λ (z : Result X UpdateFault). IfErr z P) (sym e) (subst P (sym s) h)
