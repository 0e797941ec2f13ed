-- Reading piece by piece agrees with the grammar.
use Rattle.std.proofs.Common.{◌≡◌, ℕ, List, [], subst}
use Rattle.query_tree.specs.Tree.{Tree}
use Rattle.query_tree.specs.Pieces.{pieces, tokens}
use Rattle.query_tree.specs.Grammar.{QueryText}
use Rattle.query_grammar.specs.Reading.{tree, reading, start}
use Rattle.query_grammar.proofs.Sound.{run_holds, Stands-start, ReadHolds}
use Rattle.query_grammar.proofs.Complete.{any-result, result-run}

pub reading_found : (text : List ℕ) (t : Tree) → reading text ≡ tree t → QueryText 64 text t
unfolding reading QueryText
reading_found text t e = subst (λ r. ReadHolds 64 (tokens (pieces text)) r) e (run_holds (pieces text) 64 0 (start 64) [] (Stands-start 64))

pub reading_only : (text : List ℕ) (t : Tree) → QueryText 64 text t → reading text ≡ tree t
unfolding reading QueryText
reading_only text t h = result-run (pieces text) 0 (start 64) t (any-result 64 (tokens (pieces text)) t h)
