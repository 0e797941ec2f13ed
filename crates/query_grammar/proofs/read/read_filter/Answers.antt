use Rattle.std.proofs.Common.{◌≡◌, ℕ, List, Result, Ok, Err, IfOk, IfErr, sym, ap, ◌∙◌}
use Rattle.query_tree.specs.declared.query.Query.{Query}
use Rattle.query_grammar.specs.declared.fault.QueryFault.{QueryFault}
use Rattle.query_grammar.specs.declared.fault.QueryFault.TheVariants.{At, OutOfMemory}
use Rattle.query_tree.specs.Tree.{Tree, plain}
use Rattle.query_tree.specs.Grammar.{QueryText}
use Rattle.query_grammar.specs.Reading.{tree, fault, reading}
use Rattle.query_grammar.specs.Views.{Reads}
use Rattle.query_grammar.specs.Answers.{IsTree, IsFilterFault}
use Rattle.query_grammar.specs.Said.{tree_or_place, filter_of, Says}
use Rattle.query_grammar.proofs.PlaceOf.{reading_place}
use Rattle.query_grammar.proofs.Kind.{reading_kind}
use Rattle.query_grammar.proofs.Agreement.{reading_found, reading_only}
use Rattle.query_grammar.proofs.read.read_filter.Goals as goal

found : (text : List ℕ) (r : Result Query QueryFault) → Reads r (reading text) → IfOk r (λ query. QueryText 64 text (plain query))
found text (Ok query) h = reading_found text (plain query) h
found text (Err e) h = tt

only : (text : List ℕ) (r : Result Query QueryFault) (t : Tree) → Reads r (reading text) → QueryText 64 text t → IsTree t r
only text (Ok query) t h q = let e : tree (plain query) ≡ tree t = sym h ∙ reading_only text t q in cc
only text (Err (At place kind)) t h q = let e : fault place kind ≡ tree t = sym h ∙ reading_only text t q in cc
only text (Err OutOfMemory) t h q = tt

which : (text : List ℕ) (r : Result Query QueryFault) → Reads r (reading text) → IfErr r (IsFilterFault text)
which text (Ok query) h = tt
which text (Err (At place kind)) h = (reading_place text place kind h, reading_kind text place kind h, h)
which text (Err OutOfMemory) h = tt

says : (text : List ℕ) (r : Result Query QueryFault) → Reads r (reading text) → Says (filter_of text) r
unfolding filter_of
says text (Ok query) h = ap tree_or_place h
says text (Err (At place kind)) h = ap tree_or_place h
says text (Err OutOfMemory) h = tt

pub returns-clause-found : goal.returns-clause-found
returns-clause-found c = found _ _ c.read_pieces.ensures

pub returns-clause-only : goal.returns-clause-only
returns-clause-only c = λ t q. only _ _ t c.read_pieces.ensures q

pub returns-clause-fault : goal.returns-clause-fault
returns-clause-fault c = which _ _ c.read_pieces.ensures

pub returns-clause-value : goal.returns-clause-value
returns-clause-value c = says _ _ c.read_pieces.ensures
