-- What an intake refuses, and with which fault.
use Rattle.std.specs.Prelude.{◌≡◌, ℕ, List, Some}
use Rattle.std.specs.List.{Contains}
use Rattle.ap_text.specs.Paths.{below_folder}
use Rattle.ap_host.specs.Disk.{Path}
use Rattle.package_core.specs.Card.{Card}
use Rattle.digest_set.specs.declared.facts.Digests.{Digests}
use Rattle.digest_set.specs.declared.facts.What.{What}
use Rattle.digest_set.specs.Difference.{difference}
use Rattle.package_list.specs.declared.fault.ListFault.{ListFault}
use Rattle.machine_state.specs.declared.limit.Limit.{Limit as LimitKind}
use Rattle.machine_state.specs.declared.limit.Limit.TheVariants.{Packages, Known, Catalogue, Index, File}
use Rattle.machine_state.specs.declared.refusal.Refusal.{Refusal}
use Rattle.machine_state.specs.declared.refusal.Refusal.TheVariants.{InputAbsent, InputMalformed, InputMismatch, Conflict, Limit}
use Rattle.ap_host.specs.declared.inbox.InboxErr.{InboxErr}
use Rattle.ap_host.specs.declared.inbox.InboxErr.TheVariants.{Failed, OutOfMemory as NoMemory}
use Rattle.digest_set.specs.declared.facts.Said.{Said}
use Rattle.hash_pool.specs.declared.fault.PoolFault.{PoolFault}
use Rattle.machine_state.specs.declared.arrived.UpdateFault.{UpdateFault}
use Rattle.package_list.specs.declared.fault.ListFault.TheVariants as list_faults
use Rattle.hash_pool.specs.declared.fault.PoolFault.TheVariants as pool_faults
use Rattle.machine_state.specs.declared.arrived.UpdateFault.TheVariants as faults

-- a limit that an arrival can pass
abbrev pub IsInputLimit : LimitKind → Type 0
IsInputLimit Index = Unit {0}
IsInputLimit Packages = Unit {0}
IsInputLimit File = Unit {0}
IsInputLimit Known = Unit {0}
IsInputLimit Catalogue = Unit {0}
IsInputLimit _ = ⊥

-- these are the texts of a fact that was said of a file and of what was found otherwise
abbrev pub AreDifferent : What → List ℕ → List ℕ → Type 0
AreDifferent what said found = (told : Said) × (is : Digests) × (difference told is ≡ Some (what, said, found))

-- What is told of a mismatch is told of the file at this path, of which this was said: the first fact that was said and isn't what was
-- found. Of a size these are the length in bytes that was stated and another one.
abbrev pub IsOfFile : Path → Said → Refusal → Type 0
IsOfFile path told (InputMismatch at what said found) = (at ≡ path) × (is : Digests) × (difference told is ≡ Some (what, said, found))
IsOfFile path told refusal = Unit {0}

abbrev pub FaultOfFile : Path → Said → UpdateFault → Type 0
FaultOfFile path told (faults.Refused refusal) = IsOfFile path told refusal
FaultOfFile path told fault = Unit {0}

-- What is told of a mismatch is told of the file of one of these packages, which stand at these paths below this folder.
abbrev pub IsOfFiles : Path → (Card → Path) → List Card → Refusal → Type 0
IsOfFiles folder path packages (InputMismatch at what said found) =
    (p : Card) × Contains packages p × IsOfFile (below_folder folder (path p)) p.said (InputMismatch at what said found)
IsOfFiles folder path packages refusal = Unit {0}

abbrev pub FaultOfFiles : Path → (Card → Path) → List Card → UpdateFault → Type 0
FaultOfFiles folder path packages (faults.Refused refusal) = IsOfFiles folder path packages refusal
FaultOfFiles folder path packages fault = Unit {0}

-- nothing is told of a mismatch
abbrev pub IsOtherRefusal : Refusal → Type 0
IsOtherRefusal (InputMismatch at what said found) = ⊥
IsOtherRefusal refusal = Unit {0}

abbrev pub IsOtherFault : UpdateFault → Type 0
IsOtherFault (faults.Refused refusal) = IsOtherRefusal refusal
IsOtherFault fault = Unit {0}

-- a refusal of some step of an arrival
abbrev pub IsInputRefusal : Refusal → Type 0
IsInputRefusal (InputAbsent path) = Unit {0}
IsInputRefusal (InputMalformed path line) = Unit {0}
IsInputRefusal (InputMismatch path what said found) = AreDifferent what said found
IsInputRefusal (Conflict triple) = Unit {0}
IsInputRefusal (Limit limit) = IsInputLimit limit
IsInputRefusal _ = ⊥

-- a refusal of an arrival, or a fault, but not of the host
abbrev pub IsInputFault : UpdateFault → Type 0
IsInputFault (faults.Refused refusal) = IsInputRefusal refusal
IsInputFault faults.OutOfMemory = Unit {0}
IsInputFault faults.HostFault = ⊥
IsInputFault faults.InboxFault = Unit {0}

-- the same, and no call has failed
abbrev pub IsOwnFault : UpdateFault → Type 0
IsOwnFault (faults.Refused refusal) = IsInputRefusal refusal
IsOwnFault faults.OutOfMemory = Unit {0}
IsOwnFault faults.HostFault = ⊥
IsOwnFault faults.InboxFault = ⊥

-- a refusal of an arrival, or any fault
abbrev pub IsAnyFault : UpdateFault → Type 0
IsAnyFault (faults.Refused refusal) = IsInputRefusal refusal
IsAnyFault fault = Unit {0}

-- no refusal
abbrev pub IsNoRefusal : UpdateFault → Type 0
IsNoRefusal (faults.Refused refusal) = ⊥
IsNoRefusal fault = Unit {0}

-- this refusal, or want of memory
abbrev pub Tells : UpdateFault → Refusal → Type 0
Tells (faults.Refused told) refusal = told ≡ refusal
Tells faults.OutOfMemory refusal = Unit {0}
Tells faults.HostFault refusal = ⊥
Tells faults.InboxFault refusal = ⊥

-- the fault of a call of the inbox that gave this error
abbrev pub inbox_tells : InboxErr → UpdateFault → Type 0
inbox_tells Failed fault = fault ≡ faults.InboxFault
inbox_tells NoMemory fault = fault ≡ faults.OutOfMemory

-- the fault of a list that gave this error, where this limit is passed
abbrev pub list_tells : LimitKind → ListFault → UpdateFault → Type 0
list_tells limit (list_faults.Conflict triple) fault = fault ≡ faults.Refused (Conflict triple)
list_tells limit list_faults.Full fault = fault ≡ faults.Refused (Limit limit)
list_tells limit list_faults.OutOfMemory fault = fault ≡ faults.OutOfMemory

-- the fault of a file at this path that the pool didn't take for this cause
abbrev pub pool_tells : Path → PoolFault → UpdateFault → Type 0
pool_tells path pool_faults.Absent fault = Tells fault (InputAbsent path)
pool_tells path (pool_faults.Mismatch what said found) fault = Tells fault (InputMismatch path what said found)
pool_tells path pool_faults.HostFault fault = fault ≡ faults.HostFault
pool_tells path pool_faults.InboxFault fault = fault ≡ faults.InboxFault
pool_tells path pool_faults.OutOfMemory fault = fault ≡ faults.OutOfMemory
