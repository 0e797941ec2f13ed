-- What the calls answer.
use Rattle.std.specs.Prelude.{◌≡◌, ℕ, List, Option, Some, None, Result, Ok, Err, IfOk}
use Rattle.std.specs.Option.{ForSome}
use Rattle.ap_host.specs.Disk.{Path, Content, Files}
use Rattle.digest_set.specs.declared.facts.Digests.{Digests}
use Rattle.digest_set.specs.declared.facts.Said.{Said}
use Rattle.digest_set.specs.Facts.{digests_of}
use Rattle.digest_set.specs.Difference.{difference}
use Rattle.hash_pool.specs.declared.fault.PoolFault.{PoolFault}
use Rattle.hash_pool.specs.declared.fault.PoolFault.TheVariants.{Absent, Mismatch, HostFault, InboxFault, OutOfMemory}

-- Why a file isn't put into the pool. The causes exclude each other, so each comes exactly where its cause holds, but for the
-- faults of the outside and want of memory.
abbrev pub IsRefused : Content → Said → PoolFault → Type 0
IsRefused file said Absent = file ≡ None
IsRefused file said (Mismatch what s f) = (bytes : List ℕ) × (file ≡ Some bytes) × (difference said (digests_of bytes) ≡ Some (what, s, f))
IsRefused file said HostFault = (bytes : List ℕ) × (file ≡ Some bytes) × (difference said (digests_of bytes) ≡ None)
IsRefused file said InboxFault = Unit {0}
IsRefused file said OutOfMemory = Unit {0}

-- the answer of a file that is to be put into the pool: its facts, which don't differ from what is said, or why it isn't
abbrev pub IsAnswer : Content → Said → Result Digests PoolFault → Type 0
IsAnswer file said (Ok digests) = (bytes : List ℕ) × (file ≡ Some bytes) × (digests ≡ digests_of bytes) × (difference said digests ≡ None)
IsAnswer file said (Err fault) = IsRefused file said fault

-- the answer of a file that is to be read: its bytes, or why they aren't to be put into the pool
abbrev pub IsFound : Content → Said → Result (List ℕ) PoolFault → Type 0
IsFound file said (Ok bytes) = file ≡ Some bytes
IsFound file said (Err fault) = IsRefused file said fault

-- On any inbox, told or not, a mismatch is the first difference between what is said and some facts.
abbrev pub IsDifference : Said → PoolFault → Type 0
IsDifference said (Mismatch what s f) = (found : Digests) × (difference said found ≡ Some (what, s, f))
IsDifference said fault = Unit {0}

-- On any inbox the facts are those of some bytes, and don't differ from what is said.
abbrev pub Compares : Said → Result Digests PoolFault → Type 0
Compares said (Ok digests) = (bytes : List ℕ) × (digests ≡ digests_of bytes) × (difference said digests ≡ None)
Compares said (Err fault) = IsDifference said fault

-- the file of the inbox has these bytes, if the inbox tells
abbrev pub IsInput : Option Files → Path → List ℕ → Type 0
IsInput map path bytes = ForSome map (λ f. f path ≡ Some bytes)

-- the bytes that were handed, which don't differ from what is said
abbrev pub IsPut : List ℕ → Said → List ℕ → Type 0
IsPut given said bytes = (bytes ≡ given) × (difference said (digests_of bytes) ≡ None)

-- The bytes that were read: they are the file's, if the inbox tells, they don't differ from what is said, and the facts that are
-- answered are theirs.
pub record IsTaken (map : Option Files) (path : Path) (said : Said) (result : Result Digests PoolFault) (bytes : List ℕ) : Type 0 where
  pub input : IsInput map path bytes
  pub same : difference said (digests_of bytes) ≡ None
  pub facts : IfOk result (λ digests. digests ≡ digests_of bytes)
