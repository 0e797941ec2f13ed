-- What the reader of the code stands for.
use Rattle.std.specs.Prelude.{◌≡◌, ℕ, List, map, reverse, Result, Ok, Err}
use Rattle.query_grammar.specs.declared.term.Progress.{Progress}
use Rattle.query_grammar.specs.declared.term.Progress.TheVariants.{GoesOn, Whole, Ended, Wrong}
use Rattle.query_tree.specs.declared.query.Query.{Query}
use Rattle.query_grammar.specs.declared.fault.QueryFault.{QueryFault}
use Rattle.query_grammar.specs.declared.fault.QueryFault.TheVariants.{At, OutOfMemory}
use Rattle.query_grammar.specs.declared.level.Level.{Level}
use Rattle.query_grammar.specs.declared.reader.Reader.{Reader}
use Rattle.query_tree.specs.Tree.{plain, plains}
use Rattle.query_grammar.specs.Reading as reading

abbrev pub progress_view : Progress → reading.Progress
progress_view (GoesOn b) = reading.goes_on b
progress_view (Whole query) = reading.whole (plain query)
progress_view (Ended query) = reading.ended (plain query)
progress_view (Wrong kind) = reading.wrong kind

abbrev pub level_view : Level → reading.Level
level_view l = record { alternatives = plains l.alternatives.items; members = plains l.members.items; negations = l.negations; room = l.room }

-- the groups around, the innermost first
abbrev pub outer_view : List Level → List reading.Level
outer_view levels = reverse (map level_view levels)

abbrev pub reader_view : Reader → reading.State
reader_view r = record { outer = outer_view r.outer.items; level = level_view r.level; next = r.next }

-- a step of the code at a place is this step, unless memory runs out
abbrev pub Gives : ℕ → Result Reader QueryFault → reading.Step → Type 0
Gives at (Ok r) expected = expected ≡ reading.goes (reader_view r)
Gives at (Err (At place kind)) expected = (place ≡ at) × (expected ≡ reading.stops kind)
Gives at (Err OutOfMemory) expected = Unit {0}

-- the code reads this, unless memory runs out
abbrev pub Reads : Result Query QueryFault → reading.Reading → Type 0
Reads (Ok query) expected = expected ≡ reading.tree (plain query)
Reads (Err (At place kind)) expected = expected ≡ reading.fault place kind
Reads (Err OutOfMemory) expected = Unit {0}
