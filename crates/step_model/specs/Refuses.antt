-- Why a command is refused before anything is read for it.
use Rattle.std.specs.Prelude.{◌≡◌, ◌≤◌, ℕ, List, ◌∷◌, ◌++◌, length, All, Option, Some, None, if◌then◌else◌}
use Rattle.std.specs.Option.{is_some}
use Rattle.query_eval.specs.Build.{IsNoPattern}
use Rattle.query_eval.specs.Conditions.{IsPattern}
use Rattle.machine_state.specs.declared.refusal.Refusal.{Refusal}
use Rattle.machine_state.specs.declared.refusal.Refusal.TheVariants.{BadPattern, PatternTooLarge}
use Rattle.step_model.specs.declared.reading.Reading.{Reading}
use Rattle.step_model.specs.declared.reading.Reading.TheVariants.{Nothing, Folder, Mirror}
use Rattle.step_model.specs.Case.{Case, Condition, or_else}

-- The condition is told: as no pattern, where it is none or nested too deep; as too large, where the pattern builder of the call refused
-- its text for its size.
abbrev pub IsToldOf : Option (List ℕ) → Condition → Refusal → Type 0
IsToldOf large c (BadPattern query test) = (query ≡ c.query) × (test ≡ c.test) × IsNoPattern c.text
IsToldOf large c (PatternTooLarge query test) = (query ≡ c.query) × (test ≡ c.test) × (large ≡ Some c.text)
IsToldOf large c _ = ⊥

abbrev pub ArePatterns : List Condition → Type 0
ArePatterns conditions = All (λ c. IsPattern c.text) conditions

-- the first of the conditions that can't be built is told
pub record IsPatternRefusal (large : Option (List ℕ)) (conditions : List Condition) (refusal : Refusal) : Type 0 where
  pub before : List Condition
  pub condition : Condition
  pub behind : List Condition
  pub split : conditions ≡ before ++ condition ∷ behind
  pub read : ArePatterns before
  pub told : IsToldOf large condition refusal

-- What a command may come to for its patterns, in a call whose pattern builder refused this text for its size. They are all built
-- only where the grammar of `regex` reads each.
abbrev pub IsPick : Option (List ℕ) → List Condition → Option Refusal → Type 0
IsPick large conditions None = ArePatterns conditions
IsPick large conditions (Some refusal) = IsPatternRefusal large conditions refusal

-- Before anything is read the command is refused so, or isn't: for its names and queries, then for its patterns, then for what stands
-- behind them. Which pattern is too large is the only free choice.
pub record Refuses (large : Option (List ℕ)) (case : Case) (refusal : Option Refusal) : Type 0 where
  pub pick : Option Refusal
  pub legal : case.early ≡ None → IsPick large case.conditions pick
  pub first : refusal ≡ or_else case.early (or_else pick case.late)

-- what is read for a command whose patterns are built: nothing for one that is refused by its words or by what is there
abbrev pub reading : Case → Reading
reading case = if is_some (or_else case.early case.late) then Nothing else case.reads

-- what can be read that is no archive of a mirror: of folders those whose path has at most 200 bytes
abbrev pub IsReadable : Reading → Type 0
IsReadable Nothing = Unit {0}
IsReadable (Folder name folder) = length folder ≤ 200
IsReadable (Mirror name) = ⊥
