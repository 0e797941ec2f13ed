-- What the calls of a step answer.
use Rattle.std.specs.Prelude.{◌≡◌, ◌≢◌, ◌⊎◌, ℕ, List, Option, Some, None, Result, Ok, Err, unwrap_or}
use Rattle.run_model.specs.Run.{Outcome}
use Rattle.ap_host.specs.Calls.{Rose}
use Rattle.query_eval.specs.declared.patterns.Patterns.{Ghosts as Builder}
use Rattle.machine_state.specs.declared.change.Change.{Change}
use Rattle.machine_state.specs.declared.change.ChangeFault.{ChangeFault}
use Rattle.machine_state.specs.declared.change.ChangeFault.TheVariants as faults
use Rattle.machine_state.specs.declared.refusal.Refusal.{Refusal}
use Rattle.machine_state.specs.declared.refusal.Refusal.TheVariants.{PatternTooLarge}
use Rattle.machine_state.specs.declared.arrived.Arrived.{Arrived}
use Rattle.machine_state.specs.Values.{StateView}
use Rattle.step_model.specs.declared.reading.Reading.{Reading}
use Rattle.step_model.specs.Case.{Case, Came, changes, refuses, bad_queries, conditions_of}
use Rattle.step_model.specs.Refuses.{IsPick, Refuses, reading}
use Rattle.step_model.specs.Steps.{done}

-- In a call in which the count of refusals for size and the refused text went from old to new, no text counts as refused for
-- its size, or the one that was refused in it does.
abbrev pub IsTold : ℕ → ℕ → Option (List ℕ) → Option (List ℕ) → Type 0
IsTold old new refused None = Unit {0}
IsTold old new refused (Some text) = Rose old new × (refused ≡ Some text)

-- P of a text that such a call tells as refused for its size, or of none
abbrev pub Told : ℕ → ℕ → Option (List ℕ) → (Option (List ℕ) → Type 0) → Type 0
Told old new refused P = (large : Option (List ℕ)) × IsTold old new refused large × P large

-- the same of a call to which a pattern builder was handed in, which was so before and is so now
abbrev pub ToldBy : {B : Type 0} → Builder B → B → B → (Option (List ℕ) → Type 0) → Type 0
ToldBy builder old new P = Told (builder.refusals old) (builder.refusals new) (builder.refused new) P

-- which text was refused for its size changes only where such a pattern is told
abbrev pub KeepsBut : Option (List ℕ) → Option (List ℕ) → ChangeFault → Type 0
KeepsBut old new (faults.Refused (PatternTooLarge query test)) = Unit {0}
KeepsBut old new fault = new ≡ old

abbrev pub KeepsText : {X : Type 0} → Option (List ℕ) → Option (List ℕ) → Result X ChangeFault → Type 0
KeepsText old new (Ok x) = new ≡ old
KeepsText old new (Err fault) = KeepsBut old new fault

abbrev pub KeepsBy : {B X : Type 0} → Builder B → B → B → Result X ChangeFault → Type 0
KeepsBy builder old new result = KeepsText (builder.refused old) (builder.refused new) result

-- P of the refusal of a call that refuses
abbrev pub FaultIs : (Refusal → Type 0) → ChangeFault → Type 0
FaultIs P (faults.Refused refusal) = P refusal
FaultIs P faults.OutOfMemory = Unit {0}

-- the refusal is this, if there is one
abbrev pub IsFirst : Option Refusal → ChangeFault → Type 0
IsFirst first = FaultIs (λ refusal. first ≡ Some refusal)

-- memory was wanting
abbrev pub IsMemory : ChangeFault → Type 0
IsMemory = FaultIs (λ refusal. ⊥)

-- a new state is another one
abbrev pub IsNew : StateView → Option StateView → Type 0
IsNew old None = Unit {0}
IsNew old (Some new) = new ≢ old

-- what a change says in the state
abbrev pub changed : StateView → Change → Outcome StateView Refusal
changed state change = done change.reply (unwrap_or change.state state)

-- what a change in the state is
abbrev pub came : StateView → Change → Came
came state change = changes change.reply (unwrap_or change.state state)

-- ---- queries

-- each of the queries is read, and its patterns are built
abbrev pub AreBuilt : List (List ℕ) → Type 0
AreBuilt queries = (bad_queries queries ≡ None) × IsPick None (conditions_of queries) None

-- the queries are refused so, in a call whose pattern builder refused this text for its size: the first that is none, or else the first
-- of their conditions that can't be built
abbrev pub QueriesRefuse : Option (List ℕ) → List (List ℕ) → Refusal → Type 0
QueriesRefuse large queries refusal = (bad_queries queries ≡ Some refusal) ⊎ ((bad_queries queries ≡ None) × IsPick large (conditions_of queries) (Some refusal))

-- ---- families of commands

-- this is to be read for a command that isn't refused before anything is read
abbrev pub IsWanted : Option (List ℕ) → Case → Reading → Type 0
IsWanted large case wanted = Refuses large case None × (wanted ≡ reading case)

-- the command isn't refused before anything is read, and comes to this with what arrived
abbrev pub ComesTo : Option (List ℕ) → Case → Arrived → Came → Type 0
ComesTo large case arrived came = Refuses large case None × (case.comes arrived ≡ came)

-- the command is refused so: before anything is read, or with what arrived
abbrev pub IsRefusedFor : Option (List ℕ) → Case → Arrived → Refusal → Type 0
IsRefusedFor large case arrived refusal = Refuses large case (Some refusal) ⊎ ComesTo large case arrived (refuses refusal)

-- the command comes to this change of the state with what arrived, whatever text was too large
abbrev pub ChangesTo : StateView → Case → Arrived → Change → Type 0
ChangesTo state case arrived change = ComesTo None case arrived (came state change)

-- the same in a call to which a pattern builder was handed in
abbrev pub ChangesBy : {B : Type 0} → Builder B → B → B → StateView → Case → Arrived → Change → Type 0
ChangesBy builder old new state case arrived change = ToldBy builder old new (λ large. ComesTo large case arrived (came state change))

-- the call refuses it so before anything is read, or memory was wanting
abbrev pub RefusesBy : {B : Type 0} → Builder B → B → B → Case → ChangeFault → Type 0
RefusesBy builder old new case = FaultIs (λ refusal. ToldBy builder old new (λ large. Refuses large case (Some refusal)))

-- the call refuses it so with what arrived, or memory was wanting
abbrev pub RefusedBy : {B : Type 0} → Builder B → B → B → Case → Arrived → ChangeFault → Type 0
RefusedBy builder old new case arrived = FaultIs (λ refusal. ToldBy builder old new (λ large. IsRefusedFor large case arrived refusal))
