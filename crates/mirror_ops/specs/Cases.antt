-- The commands of mirrors: what each is in a state.
use Rattle.std.specs.Prelude.{◌≡◌, ℕ, Bool, false, List, [], length, Option, Some, None, Result, IfOk, IfErr, nat_le, unwrap_or, if◌then◌else◌}
use Rattle.std.specs.Option.{is_some}
use Rattle.ap_host.specs.Disk.{Files}
use Rattle.query_eval.specs.declared.patterns.Patterns.{Ghosts as Builder}
use Rattle.command_value.specs.Plain.{MirrorCommand, mirror_create, mirror_update, mirror_list, mirror_show, mirror_rename, mirror_drop}
use Rattle.machine_state.specs.declared.limit.Kind.TheVariants as kinds
use Rattle.machine_state.specs.declared.limit.Limit.TheVariants.{Mirrors}
use Rattle.machine_state.specs.declared.refusal.Refusal.{Refusal}
use Rattle.machine_state.specs.declared.refusal.Refusal.TheVariants.{Exists, Unknown, Limit, NotBuilt}
use Rattle.machine_state.specs.declared.arrived.Arrived.{Arrived}
use Rattle.machine_state.specs.declared.arrived.Arrived.TheVariants as arrivals
use Rattle.machine_state.specs.declared.change.Change.{Change}
use Rattle.machine_state.specs.declared.change.ChangeFault.{ChangeFault}
use Rattle.machine_state.specs.Ascending.{put}
use Rattle.machine_state.specs.Limits.{limit_number}
use Rattle.machine_state.specs.Named.{dropped, renamed}
use Rattle.machine_state.specs.State.{Valid, mirror_cmp, mirror_name, mirror_of}
use Rattle.machine_state.specs.Values.{MirrorView, StateView}
use Rattle.mirror_lists.specs.Mirrors.{unknown_mirror}
use Rattle.reply_text.specs.Mirrors as replies
use Rattle.mirror_update.specs.Answers.{IsArrival}
use Rattle.mirror_update.specs.Fits.{updated}
use Rattle.step_model.specs.declared.reading.Reading.{Reading}
use Rattle.step_model.specs.declared.reading.Reading.TheVariants as readings
use Rattle.step_model.specs.Answers.{ChangesTo, FaultIs, IsRefusedFor, RefusedBy}
use Rattle.step_model.specs.Case.{Case, Came, changes, refuses, or_else, plain_case, asking_case}
use Rattle.step_model.specs.Names.{bad_name}
use Rattle.step_model.specs.Refuses.{reading}
use Rattle.mirror_ops.specs.Settings.{asked, bad_settings, bare_mirror, filtered}

-- ---- what is there

-- a mirror has the name already
abbrev pub taken : List MirrorView → List ℕ → Option Refusal
taken mirrors name = if is_some (mirror_of name mirrors) then Some (Exists kinds.Mirror name) else None

-- the text is no name, or no mirror has it
abbrev pub bad_mirror : StateView → List ℕ → Option Refusal
bad_mirror state name = or_else (bad_name name) (unknown_mirror state.mirrors name)

-- ---- a new mirror

-- the state with one mirror more
abbrev pub with_mirror : StateView → MirrorView → StateView
with_mirror state mirror = record state { mirrors = put mirror_cmp mirror state.mirrors }

-- a mirror more, where there is room for it
abbrev pub created : StateView → MirrorView → Came
created state mirror =
    if nat_le (limit_number Mirrors) (length state.mirrors) then refuses (Limit Mirrors)
    else changes (replies.mirror_created mirror.name) (with_mirror state mirror)

-- the settings are told before a name that is taken
abbrev pub bad_create : StateView → Option (List (List ℕ)) → Option (List ℕ) → List ℕ → List ℕ → List ℕ → List (List ℕ) → Option Refusal
bad_create state architectures filter name archive distribution components = or_else (bad_settings architectures filter name archive distribution components) (taken state.mirrors name)

-- its filter is the only query, and is asked behind that
abbrev pub create_case : StateView → Option (List (List ℕ)) → Option (List ℕ) → Option Bool → List ℕ → List ℕ → List ℕ → List (List ℕ) → Case
create_case state architectures filter with_deps name archive distribution components =
    asking_case (bad_create state architectures filter name archive distribution components) (asked filter)
    (created state (filtered filter with_deps (bare_mirror architectures name archive distribution components)))

-- ---- what is shown

abbrev pub shown : StateView → List ℕ → Bool → Option MirrorView → Came
shown state name packages (Some mirror) = changes (replies.mirror_show mirror packages) state
shown state name packages None = refuses (Unknown kinds.Mirror name)

abbrev pub show_case : StateView → Bool → List ℕ → Case
show_case state packages name = plain_case (bad_mirror state name) (shown state name packages (mirror_of name state.mirrors))

-- ---- names

-- the same mirror under another name
abbrev pub called : MirrorView → List ℕ → MirrorView
called mirror name = record mirror { name = name }

-- a mirror has another name; no publication names one as a source
abbrev pub mirror_renamed_in : StateView → List ℕ → List ℕ → StateView
mirror_renamed_in state before after = record state { mirrors = renamed mirror_name called before after state.mirrors }

abbrev pub bad_rename : StateView → List ℕ → List ℕ → Option Refusal
bad_rename state before after = or_else (bad_name before) (or_else (bad_name after) (or_else (taken state.mirrors after) (unknown_mirror state.mirrors before)))

abbrev pub rename_case : StateView → List ℕ → List ℕ → Case
rename_case state before after = plain_case (bad_rename state before after) (changes (replies.mirror_renamed before after) (mirror_renamed_in state before after))

-- a mirror is no more
abbrev pub without_mirror : StateView → List ℕ → StateView
without_mirror state name = record state { mirrors = dropped mirror_name name state.mirrors }

abbrev pub drop_case : StateView → List ℕ → Case
drop_case state name = plain_case (bad_mirror state name) (changes (replies.mirror_dropped name) (without_mirror state name))

-- ---- an archive

-- what arrived is what the mirror has fetched now
abbrev pub taken_in : StateView → List ℕ → Arrived → Came
taken_in state name (arrivals.List list date) = changes (replies.mirror_updated name (length list)) (updated state name (record { date = date; list = list }))
taken_in state name (arrivals.Refused refusal) = refuses refusal
taken_in state name arrivals.Nothing = refuses NotBuilt

-- A mirror is updated. The patterns of its filter are built where the archive is read, so the command has no conditions of its own.
abbrev pub update_case : StateView → List ℕ → Case
update_case state name = record { early = bad_mirror state name; conditions = []; late = None; reads = readings.Mirror name; comes = taken_in state name }

-- ---- all of them

-- What each command of mirrors is in a state.
unfoldable pub mirror_case : StateView → MirrorCommand → Case
mirror_case state (mirror_create architectures filter with_deps name archive distribution components) = create_case state architectures filter with_deps name archive distribution components
mirror_case state (mirror_update name) = update_case state name
mirror_case state mirror_list = plain_case None (changes (replies.mirror_list state.mirrors) state)
mirror_case state (mirror_show packages name) = show_case state (unwrap_or packages false) name
mirror_case state (mirror_rename before after) = rename_case state before after
mirror_case state (mirror_drop name) = drop_case state name

-- what may arrive of the archive of a mirror, in a call whose pattern builder refused this text for its size; a mirror that isn't there is unknown
abbrev pub MirrorArrives : Option (List ℕ) → Option Files → StateView → List ℕ → Option MirrorView → Arrived → Type 0
MirrorArrives large inbox state name (Some mirror) arrived = IsArrival large inbox state mirror arrived
MirrorArrives large inbox state name None arrived = arrived ≡ arrivals.Refused (Unknown kinds.Mirror name)

-- the same of the mirror of that name
abbrev pub ArchiveArrives : Option (List ℕ) → Option Files → StateView → List ℕ → Arrived → Type 0
ArchiveArrives large inbox state name arrived = MirrorArrives large inbox state name (mirror_of name state.mirrors) arrived

-- what may arrive where this is read: of an archive what may of it, whatever text was refused for its size
abbrev pub MayArrive : Option Files → StateView → Reading → Arrived → Type 0
MayArrive inbox state (readings.Mirror name) arrived = (large : Option (List ℕ)) × ArchiveArrives large inbox state name arrived
MayArrive inbox state reading arrived = Unit {0}

-- what may arrive for a command
abbrev pub ArrivesFor : Option Files → StateView → Case → Arrived → Type 0
ArrivesFor inbox state case arrived = MayArrive inbox state (reading case) arrived

-- in a valid state the call tells what the case comes to, where this may have arrived for it
abbrev pub ChangesWith : Option Files → StateView → Case → Arrived → Result Change ChangeFault → Type 0
ChangesWith inbox state case arrived result = Valid state → ArrivesFor inbox state case arrived → IfOk result (ChangesTo state case arrived)

-- the call refuses it so, or memory was wanting
abbrev pub RefusesWith : Option Files → StateView → Case → Arrived → Result Change ChangeFault → Type 0
RefusesWith inbox state case arrived result = Valid state → ArrivesFor inbox state case arrived → IfErr result (FaultIs (IsRefusedFor None case arrived))

-- the same of a command, in a call to which a pattern builder was handed in
abbrev pub RefusedWith : {B : Type 0} → Builder B → B → B → Option Files → StateView → MirrorCommand → Arrived → Result Change ChangeFault → Type 0
RefusedWith builder old new inbox state c arrived result =
    Valid state → ArrivesFor inbox state (mirror_case state c) arrived → IfErr result (RefusedBy builder old new (mirror_case state c) arrived)

-- A command of mirrors reads nothing, or an archive. It has no conditions of its own then, and is refused so where the archive is.
abbrev pub ReadsArchive : Case → Reading → Type 0
ReadsArchive case readings.Nothing = Unit {0}
ReadsArchive case (readings.Mirror name) = (case.conditions ≡ []) × ((refusal : Refusal) → case.comes (arrivals.Refused refusal) ≡ refuses refusal)
ReadsArchive case (readings.Folder name folder) = ⊥

-- ---- of which verb a command is

abbrev pub IsCreate : MirrorCommand → Type 0
IsCreate (mirror_create architectures filter with_deps name archive distribution components) = Unit {0}
IsCreate c = ⊥

abbrev pub IsUpdate : MirrorCommand → Type 0
IsUpdate (mirror_update name) = Unit {0}
IsUpdate c = ⊥

abbrev pub IsShow : MirrorCommand → Type 0
IsShow (mirror_show packages name) = Unit {0}
IsShow c = ⊥

abbrev pub IsRename : MirrorCommand → Type 0
IsRename (mirror_rename before after) = Unit {0}
IsRename c = ⊥

abbrev pub IsDrop : MirrorCommand → Type 0
IsDrop (mirror_drop name) = Unit {0}
IsDrop c = ⊥
