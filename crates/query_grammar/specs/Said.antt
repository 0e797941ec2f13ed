-- What a text says as a query, as a function of the text. It is what the grammar says (`QueryText`), and the place of the
-- fault (`IsPlace`) where the grammar reads nothing.
use Rattle.std.specs.Prelude.{◌≡◌, ℕ, List, length, Result, Ok, Err, nat_lt, if◌then◌else◌}
use Rattle.query_tree.specs.Tree.{Tree, plain}
use Rattle.query_tree.specs.declared.query.Query.{Query}
use Rattle.query_grammar.specs.declared.fault.QueryFault.{QueryFault}
use Rattle.query_grammar.specs.declared.fault.QueryFault.TheVariants.{At, OutOfMemory}
use Rattle.query_grammar.specs.Reading.{Reading, tree, fault, reading}

abbrev pub tree_or_place : Reading → Result Tree ℕ
tree_or_place (tree t) = Ok t
tree_or_place (fault place kind) = Err place

-- the tree that the text spells in at most 64 levels, or the place of its fault, in bytes
unfoldable pub filter_of : List ℕ → Result Tree ℕ
filter_of text = tree_or_place (reading text)

-- the same where a text of more than 4,096 bytes says nothing
unfoldable pub query_of : List ℕ → Result Tree ℕ
query_of text = if nat_lt 4096 (length text) then Err 4096 else filter_of text

-- the answer is that, unless memory runs out
abbrev pub Says : Result Tree ℕ → Result Query QueryFault → Type 0
Says said (Ok query) = said ≡ Ok (plain query)
Says said (Err (At place kind)) = said ≡ Err place
Says said (Err OutOfMemory) = Unit {0}
