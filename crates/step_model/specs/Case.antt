-- A case: what a command is in a state.
use Rattle.std.specs.Prelude.{ℕ, suc, List, [], ◌∷◌, ◌++◌, map, Option, Some, None, Result, Ok, Err}
use Rattle.query_tree.specs.Tree.{Tree}
use Rattle.query_grammar.specs.Said.{query_of}
use Rattle.query_eval.specs.Conditions.{patterns_of}
use Rattle.machine_state.specs.declared.refusal.Refusal.{Refusal}
use Rattle.machine_state.specs.declared.refusal.Refusal.TheVariants.{NotBuilt, BadQuery}
use Rattle.machine_state.specs.declared.arrived.Arrived.{Arrived}
use Rattle.machine_state.specs.Values.{StateView}
use Rattle.step_model.specs.declared.reading.Reading.{Reading}
use Rattle.step_model.specs.declared.reading.Reading.TheVariants.{Nothing}

-- the first refusal, and where there is none the second
abbrev pub or_else : Option Refusal → Option Refusal → Option Refusal
or_else (Some refusal) more = Some refusal
or_else None more = more

-- a `~` condition of a command: in its query of this number, of this number there, with this text; both are counted from 1
pub record Condition : Type 0 where
  pub query : ℕ
  pub test : ℕ
  pub text : List ℕ

-- what a command comes to that isn't refused before anything is read
pub data Came : Type 0 where
  changes : (reply : List ℕ) (state : StateView) → Came
  refuses : (refusal : Refusal) → Came

-- What a command is in a state: the first refusal that holds before its patterns are built; their conditions; the first refusal
-- behind them; what is read for it; and what it comes to with what arrived.
pub record Case : Type 0 where
  pub early : Option Refusal
  pub conditions : List Condition
  pub late : Option Refusal
  pub reads : Reading
  pub comes : Arrived → Came

-- a command that isn't built
abbrev pub unbuilt : Case
unbuilt = record { early = Some NotBuilt; conditions = []; late = None; reads = Nothing; comes = λ arrived. refuses NotBuilt }

-- a command without queries that reads nothing
abbrev pub plain_case : Option Refusal → Came → Case
plain_case early came = record { early = early; conditions = []; late = None; reads = Nothing; comes = λ arrived. came }

-- ---- queries

-- the texts of the `~` conditions of a query, in the order of its text
abbrev pub patterns_asked : Result Tree ℕ → List (List ℕ)
patterns_asked (Ok t) = patterns_of t
patterns_asked (Err place) = []

-- the conditions of one query, behind so many of them
abbrev pub numbered : ℕ → ℕ → List (List ℕ) → List Condition
numbered query before [] = []
numbered query before (text ∷ texts) = record { query = query; test = suc before; text = text } ∷ numbered query (suc before) texts

-- the conditions of these queries, behind so many of them
abbrev pub conditions_behind : ℕ → List (Result Tree ℕ) → List Condition
conditions_behind before [] = []
conditions_behind before (query ∷ queries) = numbered (suc before) 0 (patterns_asked query) ++ conditions_behind (suc before) queries

-- the conditions of the queries of a command
abbrev pub conditions_of : List (List ℕ) → List Condition
conditions_of queries = conditions_behind 0 (map query_of queries)

-- the query of this number is none
abbrev pub bad_query : ℕ → Result Tree ℕ → Option Refusal
bad_query number (Ok t) = None
bad_query number (Err place) = Some (BadQuery number place)

-- the first of these queries, behind so many of them, that is none
abbrev pub bad_behind : ℕ → List (Result Tree ℕ) → Option Refusal
bad_behind before [] = None
bad_behind before (query ∷ queries) = or_else (bad_query (suc before) query) (bad_behind (suc before) queries)

-- the first of the queries of a command that is none
abbrev pub bad_queries : List (List ℕ) → Option Refusal
bad_queries queries = bad_behind 0 (map query_of queries)

-- a command of these queries that reads nothing
abbrev pub asking_case : Option Refusal → List (List ℕ) → Came → Case
asking_case early queries came =
    record { early = or_else early (bad_queries queries); conditions = conditions_of queries; late = None; reads = Nothing; comes = λ arrived. came }
