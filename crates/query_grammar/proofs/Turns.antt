-- A turn of the reader's loop: it reads the first piece of the text that is left.
use Rattle.std.proofs.Common.{◌≡◌, ℕ, ◌+◌, ◌<◌, List, [], ◌∷◌, length, take, drop, refl, sym, ap, ◌∙◌, arith}
use Rattle.query_tree.specs.declared.piece.Place.{Place}
use Rattle.query_tree.specs.declared.piece.Place.TheVariants.{Outside}
use Rattle.query_tree.specs.declared.piece.Shape.{Shape}
use Rattle.query_grammar.specs.declared.fault.QueryKind.{QueryKind}
use Rattle.query_tree.specs.Pieces.{token, next_place, pieces, cut_of, pieces_from}
use Rattle.query_grammar.specs.Reading.{State, Step, goes, stops, step, Reading, fault, finish, run, start, reading}
use Rattle.query_tree.proofs.Cuts.{pieces_step}

module _ (at : ℕ) (s : State) (place : Place) (text : List ℕ) (shape : Shape) (piece behind : List ℕ) (some : 0 < length text) (is : shape ≡ (cut_of place text).shape) (here : piece ≡ take (cut_of place text).size text) (later : behind ≡ drop (cut_of place text).size text) where
  first-piece : pieces_from place text ≡ record { shape = shape; bytes = piece } ∷ pieces_from (next_place place shape) behind
  first-piece = pieces_step place text some ∙ (λ i. record { shape = sym is i; bytes = sym here i } ∷ pieces_from (next_place place (sym is i)) (sym later i))

  turned : (n : Step) → step s (token shape piece) ≡ n → run at s (pieces_from place text) ≡ (let r : Reading = elim n [ goes t ↦ run (at + length piece) t (pieces_from (next_place place shape) behind) | stops kind ↦ fault at kind ] in r)
  turned n e =
      ap (λ ps. run at s ps) first-piece
      ∙ ap (λ m. let r : Reading = elim m [ goes t ↦ run (at + length piece) t (pieces_from (next_place place shape) behind) | stops kind ↦ fault at kind ] in r) e

  pub run_goes : (t : State) → step s (token shape piece) ≡ goes t → run at s (pieces_from place text) ≡ run (at + length piece) t (pieces_from (next_place place shape) behind)
  run_goes t e = turned (goes t) e

  pub run_stops : (kind : QueryKind) → step s (token shape piece) ≡ stops kind → run at s (pieces_from place text) ≡ fault at kind
  run_stops kind e = turned (stops kind) e

pub run_ends : (at : ℕ) (s : State) (place : Place) (text : List ℕ) → length text ≡ 0 → run at s (pieces_from place text) ≡ finish at s
run_ends at s place [] e = refl
run_ends at s place (c ∷ cs) e = absurd (omega arith)

pub reading_begins : (text : List ℕ) → run 0 (start 64) (pieces_from Outside text) ≡ reading text
unfolding reading pieces
reading_begins text = refl
