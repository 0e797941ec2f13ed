-- What an index says, and where the files of its packages stand.
use Rattle.std.specs.Prelude.{◌≡◌, ℕ, nat_lt, List, [], length, map, Option, Some, None, Result, Ok, Err, find, unwrap_or, if◌then◌else◌, option_map, ◌<◌, ◌≤◌}
use Rattle.std.specs.Ordering.{is_eq}
use Rattle.ap_host.specs.Disk.{Path, Content}
use Rattle.package_core.specs.Card.{Card}
use Rattle.package_core.specs.Order.{package_cmp}
use Rattle.machine_state.specs.declared.limit.Limit.{Limit as LimitKind}
use Rattle.machine_state.specs.declared.limit.Limit.TheVariants.{Index}
use Rattle.machine_state.specs.declared.refusal.Refusal.{Refusal}
use Rattle.machine_state.specs.declared.refusal.Refusal.TheVariants.{InputAbsent, InputMalformed, InputMismatch, Limit}
use Rattle.machine_state.specs.Limits.{limit_number}
use Rattle.index_text.specs.Index.{Lists, IsAt}
use Rattle.std.specs.List.{AllByRecursion}
use Rattle.std.specs.Fmt.{decimal}
use Rattle.digest_set.specs.declared.facts.Said.{Said}
use Rattle.digest_set.specs.declared.facts.What.{What}
use Rattle.digest_set.specs.declared.facts.What.TheVariants.{Size}
use Rattle.digest_set.specs.Facts.{digests_of}
use Rattle.digest_set.specs.Difference.{difference}
use Rattle.machine_state.specs.declared.arrived.UpdateFault.{UpdateFault}
use Rattle.machine_state.specs.declared.arrived.UpdateFault.TheVariants as faults

-- a package that an index describes, and the path of its file below the folder of the index
abbrev pub IndexEntry : Type 0
IndexEntry = Card × List ℕ

-- it is there, and has at most as many bytes as the limit allows
abbrev pub bytes_within : LimitKind → Path → Content → Result (List ℕ) Refusal
bytes_within limit path None = Err (InputAbsent path)
bytes_within limit path (Some bytes) = if nat_lt (limit_number limit) (length bytes) then Err (Limit limit) else Ok bytes

-- it is there, and not too long
abbrev pub index_bytes : Path → Content → Result (List ℕ) Refusal
index_bytes path content = bytes_within Index path content

-- these bytes, or where they differ from what is stated of them
abbrev pub or_differs : Path → List ℕ → Option (What × List ℕ × List ℕ) → Result (List ℕ) Refusal
or_differs path bytes None = Ok bytes
or_differs path bytes (Some (what, said, found)) = Err (InputMismatch path what said found)

-- an index of which this is stated: it is there, the stated size isn't too large, and it doesn't differ from what is stated
abbrev pub stated_bytes : Path → Said → Content → Result (List ℕ) Refusal
stated_bytes path said None = Err (InputAbsent path)
stated_bytes path said (Some bytes) =
    if nat_lt (limit_number Index) said.size then Err (Limit Index) else or_differs path bytes (difference said (digests_of bytes))

-- what an index says: its packages with the paths of their files, or the first line that can't stand there
abbrev pub IsIndex : List ℕ → Result (List IndexEntry) ℕ → Type 0
IsIndex text (Ok entries) = Lists text entries
IsIndex text (Err line) = IsAt text line

abbrev pub or_malformed : {X : Type 0} → Path → Result X ℕ → Result X Refusal
or_malformed path (Ok x) = Ok x
or_malformed path (Err line) = Err (InputMalformed path line)

abbrev pub cards_of : List IndexEntry → List Card
cards_of entries = map (λ e. e.0) entries

-- the path of the first package of the index that is equal to this one, if there is one
abbrev pub entry_for : List IndexEntry → Card → Option Path
entry_for entries p = option_map (λ e. e.1) (find (λ e. is_eq (package_cmp e.0 p)) entries)

abbrev pub path_of : List IndexEntry → Card → Path
path_of entries p = unwrap_or (entry_for entries p) []

-- the paths are of at most 700 bytes
abbrev pub AreShort : List IndexEntry → Type 0
AreShort entries = AllByRecursion (λ e. length e.1 ≤ 700) entries

-- the text isn't readable from some line on, which is told of this path
abbrev pub IsMalformed : Path → List ℕ → UpdateFault → Type 0
IsMalformed path text (faults.Refused refusal) = (line : ℕ) × IsAt text line × (refusal ≡ InputMalformed path line)
IsMalformed path text faults.OutOfMemory = Unit {0}
IsMalformed path text faults.HostFault = ⊥
IsMalformed path text faults.InboxFault = ⊥

-- what is told of an index that differs is that it ends early: its length, and the shorter one that was reached
abbrev pub EndsEarlyIf : Path → Refusal → Type 0
EndsEarlyIf path (InputMismatch at what said found) = (at ≡ path) × (what ≡ Size) × (n m : ℕ) × (m < n) × (said ≡ decimal n) × (found ≡ decimal m)
EndsEarlyIf path refusal = Unit {0}

abbrev pub OfIndex : Path → UpdateFault → Type 0
OfIndex path (faults.Refused refusal) = EndsEarlyIf path refusal
OfIndex path fault = Unit {0}

-- why a file isn't read within a limit, on any inbox: it isn't there, or is too long, or it ends early
abbrev pub IsUnread : LimitKind → Path → Refusal → Type 0
IsUnread limit path (InputAbsent at) = at ≡ path
IsUnread limit path (Limit passed) = passed ≡ limit
IsUnread limit path (InputMismatch at what said found) = EndsEarlyIf path (InputMismatch at what said found)
IsUnread limit path _ = ⊥

abbrev pub IsUnreadFault : LimitKind → Path → UpdateFault → Type 0
IsUnreadFault limit path (faults.Refused refusal) = IsUnread limit path refusal
IsUnreadFault limit path faults.OutOfMemory = Unit {0}
IsUnreadFault limit path faults.InboxFault = Unit {0}
IsUnreadFault limit path faults.HostFault = ⊥
