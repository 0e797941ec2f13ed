-- One step of the machine: what a command comes to in a state.
use Rattle.std.specs.Prelude.{◌≡◌, ℕ, ℤ, List, [], ◌∷◌, ◌++◌, Option, Some, None}
use Rattle.ap_host.specs.Disk.{Files}
use Rattle.package_core.specs.Card.{Card}
use Rattle.run_model.specs.Run.{Outcome}
use Rattle.command_words.specs.Plain.{PlainCommand, OtherCommand, of_mirror, of_repo, of_snapshot, of_other, package_search, package_show}
use Rattle.machine_state.specs.declared.refusal.Refusal.{Refusal}
use Rattle.machine_state.specs.declared.arrived.Arrived.{Arrived}
use Rattle.machine_state.specs.declared.arrived.Arrived.TheVariants as arrivals
use Rattle.machine_state.specs.State.{mirror_of}
use Rattle.machine_state.specs.Values.{MirrorView, StateView}
use Rattle.step_model.specs.declared.reading.Reading.{Reading}
use Rattle.step_model.specs.declared.reading.Reading.TheVariants as readings
use Rattle.step_model.specs.Case.{Case, Condition, changes, refuses, unbuilt, bad_queries, conditions_of}
use Rattle.step_model.specs.Refuses.{IsReadable, reading}
use Rattle.step_model.specs.Steps as steps
use Rattle.step_model.specs.Queries.{found_by}
use Rattle.package_intake.specs.Answers.{IsArrival}
use Rattle.mirror_update.specs.Filter as filters
use Rattle.mirror_ops.specs.Cases.{ArchiveArrives, mirror_case}
use Rattle.local_repo.specs.Cases.{repo_case}
use Rattle.snapshot_ops.specs.Cases.{snapshot_case}
use Rattle.reply_text.specs.Refusals.{refusal_line}
use Rattle.reply_text.specs.Replies as replies
use Rattle.query_grammar.specs.Said.{query_of}

-- What a call is given: the files of its inbox, where the inbox tells them, and the moment, in seconds since 1970.
pub record Given : Type 0 where
  pub inbox : Option Files
  pub now : ℤ

abbrev pub giving : Option Files → ℤ → Given
giving inbox now = record { inbox = inbox; now = now }

-- a query is asked of the known packages, and what is found is said so
abbrev pub asking : StateView → List ℕ → (List Card → List ℕ) → Case
asking state query say =
    record {
      early = bad_queries (query ∷ []);
      conditions = conditions_of (query ∷ []);
      late = None;
      reads = readings.Nothing;
      comes = λ arrived. changes (say (found_by state.known (query_of query))) state;
    }

-- what each command on packages, or on the store, is in a state
unfoldable pub other_case : StateView → OtherCommand → Case
other_case state (package_search query) = asking state query replies.package_search
other_case state (package_show query) = asking state query replies.package_show
other_case state command = unbuilt

-- what a command is in a state at this moment: that of its family
unfoldable pub case_of : ℤ → StateView → PlainCommand → Case
case_of now state (of_mirror command) = mirror_case state command
case_of now state (of_repo command) = repo_case state command
case_of now state (of_snapshot command) = snapshot_case state command
case_of now state (of_other command) = other_case state command
case_of now state command = unbuilt

-- What may arrive where this is read: from an inbox that tells its files what they hold, and from another what fits. The text is the one that
-- the pattern builder of the call refused for its size.
abbrev pub MayArrive : Given → Option (List ℕ) → StateView → Reading → Arrived → Type 0
MayArrive given large state readings.Nothing arrived = arrived ≡ arrivals.Nothing
MayArrive given large state (readings.Folder name folder) arrived = IsArrival given.inbox state name folder arrived
MayArrive given large state (readings.Mirror name) arrived = ArchiveArrives large given.inbox state name arrived

abbrev pub refused : StateView → Refusal → Outcome StateView Refusal
refused = steps.refused refusal_line

-- the command comes to this with what arrived
abbrev pub StepWith : ℤ → Option (List ℕ) → StateView → PlainCommand → Arrived → Outcome StateView Refusal → Type 0
StepWith now large state command arrived outcome = steps.StepWith refusal_line large state (case_of now state command) arrived outcome

-- what is read for the command, where its patterns are built
abbrev pub read_for : ℤ → StateView → PlainCommand → Reading
read_for now state command = reading (case_of now state command)

-- What is read for a command can be read. One that reads an archive has no conditions of its own, and is refused so where the archive is.
abbrev pub CanBeRead : Case → Reading → Type 0
CanBeRead case (readings.Mirror name) = (case.conditions ≡ []) × ((refusal : Refusal) → case.comes (arrivals.Refused refusal) ≡ refuses refusal)
CanBeRead case reading = IsReadable reading

-- no archive is read
abbrev pub NoArchive : Reading → Type 0
NoArchive (readings.Mirror name) = ⊥
NoArchive reading = Unit {0}

-- the `~` conditions of the filter of this mirror
abbrev pub filter_conditions : Option MirrorView → List Condition
filter_conditions None = []
filter_conditions (Some mirror) = filters.conditions_of mirror

-- the `~` conditions by which what is read is chosen: those of a mirror's filter
abbrev pub read_conditions : StateView → Reading → List Condition
read_conditions state (readings.Mirror name) = filter_conditions (mirror_of name state.mirrors)
read_conditions state reading = []

-- all that a command asks: its own conditions, and those by which what it reads is chosen
abbrev pub asked_conditions : ℤ → StateView → PlainCommand → List Condition
asked_conditions now state command = (case_of now state command).conditions ++ read_conditions state (read_for now state command)

-- what may arrive for the command
abbrev pub ArrivesFor : Given → Option (List ℕ) → StateView → PlainCommand → Arrived → Type 0
ArrivesFor given large state command arrived = MayArrive given large state (read_for given.now state command) arrived

-- The command may come to this in this state, in a call that is given this.
abbrev pub Step : Given → Option (List ℕ) → StateView → PlainCommand → Outcome StateView Refusal → Type 0
Step given large state command outcome =
    (arrived : Arrived) × ArrivesFor given large state command arrived × StepWith given.now large state command arrived outcome
