-- The `~` conditions of a query, and what preparing them answers.
use Rattle.std.specs.Prelude.{◌≡◌, ℕ, ◌+◌, List, [], ◌∷◌, ◌++◌, length, All, Option, Some, None, IsSomeAnd, ◌≤◌, chars, Result, Ok, Err, OnOk, IfErr}
use Rattle.query_tree.specs.declared.query.Test.{Test}
use Rattle.query_tree.specs.declared.query.Test.TheVariants.{Equal, Less, LessEqual, GreaterEqual, Greater, Glob, Pattern}
use Rattle.query_tree.specs.Tree.{Tree, Trees, any, all, negated, reference, wanted, field, nil, cons}
use Rattle.regex.specs.Patterns.{default_config}
use Rattle.regex_syntax.specs.Grammar.{read}
use Rattle.query_eval.specs.declared.fault.EvalFault.{EvalFault}
use Rattle.query_eval.specs.declared.fault.EvalFault.TheVariants.{BadPattern, PatternTooLarge, OutOfMemory}
use Rattle.ap_host.specs.Calls.{Rose}
use Rattle.query_eval.specs.Build.{IsNoPattern}

-- the text of a `~` condition
abbrev pub pattern_of : Option (Test × List ℕ) → List (List ℕ)
pattern_of None = []
pattern_of (Some (Equal, text)) = []
pattern_of (Some (Less, text)) = []
pattern_of (Some (LessEqual, text)) = []
pattern_of (Some (GreaterEqual, text)) = []
pattern_of (Some (Greater, text)) = []
pattern_of (Some (Glob, text)) = []
pattern_of (Some (Pattern, text)) = text ∷ []

abbrev mutual
  -- the texts of the `~` conditions, in the order of the query's text
  pub patterns_of : Tree → List (List ℕ)
  patterns_of (any ts) = patterns_in ts
  patterns_of (all ts) = patterns_in ts
  patterns_of (negated t) = patterns_of t
  patterns_of (reference name version arch) = []
  patterns_of (wanted name asked arch) = []
  patterns_of (field name how) = pattern_of how

  pub patterns_in : Trees → List (List ℕ)
  patterns_in nil = []
  patterns_in (cons t ts) = patterns_of t ++ patterns_in ts

-- the grammar reads the text, within the limit on nesting
abbrev pub IsPattern : List ℕ → Type 0
IsPattern text = IsSomeAnd (read default_config (chars text)) (λ (re, _). re.depth ≤ default_config.nest_limit)

-- The condition of this number has this text, and each earlier one is a pattern. Conditions are counted from 1 behind so
-- many others.
pub record IsCondition (before : ℕ) (texts : List (List ℕ)) (number : ℕ) (text : List ℕ) : Type 0 where
  pub earlier : List (List ℕ)
  pub later : List (List ℕ)
  pub split : texts ≡ earlier ++ text ∷ later
  pub number_is : number ≡ before + length earlier + 1
  pub read : All IsPattern earlier

-- Why conditions behind so many others weren't prepared, by what the builder's count of refusals and the text that it
-- refused were and are.
abbrev pub IsRefused : ℕ → List (List ℕ) → ℕ → ℕ → Option (List ℕ) → EvalFault → Type 0
IsRefused before texts old new refused (BadPattern n) = (text : List ℕ) × IsCondition before texts n text × IsNoPattern text
IsRefused before texts old new refused (PatternTooLarge n) =
    (text : List ℕ) × IsCondition before texts n text × (refused ≡ Some text) × Rose old new
IsRefused before texts old new refused OutOfMemory = Unit {0}

-- no answer but that of a pattern that is too large changes which text was refused
abbrev pub KeepsRefused : {X : Type 0} → Option (List ℕ) → Option (List ℕ) → Result X EvalFault → Type 0
KeepsRefused old new (Ok x) = new ≡ old
KeepsRefused old new (Err (BadPattern n)) = new ≡ old
KeepsRefused old new (Err (PatternTooLarge n)) = Unit {0}
KeepsRefused old new (Err OutOfMemory) = new ≡ old

-- What preparing some conditions behind so many others comes to, whatever is made of them.
pub record Prepares {X : Type 0} (before : ℕ) (texts : List (List ℕ)) (old new : ℕ) (refused now_refused : Option (List ℕ)) (result : Result X EvalFault) : Type 0 where
  -- each text is a pattern
  pub read : OnOk result (All IsPattern texts)
  pub fault : IfErr result (IsRefused before texts old new now_refused)
  pub never_falls : old ≤ new
  pub kept : KeepsRefused refused now_refused result
