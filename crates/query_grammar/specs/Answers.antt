-- What reading a query answers.
use Rattle.std.specs.Prelude.{◌≡◌, ℕ, ◌<◌, ◌≤◌, ◌⊎◌, List, length, Result, Ok, Err}
use Rattle.query_tree.specs.declared.query.Query.{Query}
use Rattle.query_grammar.specs.declared.fault.QueryKind.{QueryKind}
use Rattle.query_grammar.specs.declared.fault.QueryKind.TheVariants.{TooLong}
use Rattle.query_grammar.specs.declared.fault.QueryFault.{QueryFault}
use Rattle.query_grammar.specs.declared.fault.QueryFault.TheVariants.{At, OutOfMemory}
use Rattle.query_tree.specs.Tree.{Tree, plain}
use Rattle.query_grammar.specs.Places.{IsPlace}
use Rattle.query_grammar.specs.Kinds.{IsFirstKind}
use Rattle.query_grammar.specs.Reading.{reading, fault}

-- the tree, unless memory runs out
abbrev pub IsTree : Tree → Result Query QueryFault → Type 0
IsTree t (Ok query) = plain query ≡ t
IsTree t (Err (At place kind)) = ⊥
IsTree t (Err OutOfMemory) = Unit {0}

-- a fault at the place of the text's fault, of the first kind that fits there
abbrev pub IsFaultAt : List ℕ → ℕ → QueryKind → Type 0
IsFaultAt text place kind = IsPlace 64 text place × IsFirstKind text place kind × (reading text ≡ fault place kind)

-- that fault, unless memory runs out
abbrev pub IsFilterFault : List ℕ → QueryFault → Type 0
IsFilterFault text (At place kind) = IsFaultAt text place kind
IsFilterFault text OutOfMemory = Unit {0}

-- the same where a text of more than 4,096 bytes is too long
abbrev pub IsQueryFault : List ℕ → QueryFault → Type 0
IsQueryFault text (At place kind) = ((4096 < length text) × (place ≡ 4096) × (kind ≡ TooLong)) ⊎ ((length text ≤ 4096) × IsFaultAt text place kind)
IsQueryFault text OutOfMemory = length text ≤ 4096
