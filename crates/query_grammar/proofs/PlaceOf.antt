-- A fault stands at its place.
use Rattle.std.proofs.Common.{◌≡◌, ℕ, List, [], ◌∷◌, ◌++◌, Option, Some, None, refl, sym, ap, ◌∙◌, subst, append_assoc}
use Rattle.query_tree.specs.declared.piece.Place.TheVariants.{Outside}
use Rattle.query_grammar.specs.declared.fault.QueryKind.{QueryKind}
use Rattle.query_tree.specs.Tree.{Tree}
use Rattle.query_tree.specs.Pieces.{Piece, token, tokens, pieces}
use Rattle.query_tree.specs.Grammar.{QueryText}
use Rattle.query_grammar.specs.Reading.{State, goes, stops, step, start, fault, reading}
use Rattle.query_grammar.specs.Places.{CanBegin, IsPlace}
use Rattle.query_grammar.proofs.Complete.{result_of, behind-result, any-result}
use Rattle.query_tree.proofs.Lexing.{FrontCut}
use Rattle.query_tree.proofs.Fronts.{front_split, text_front}
use Rattle.query_grammar.proofs.Viable.{Reach, reach-start, Fails, Stopped, run-stopped}
use Rattle.query_grammar.proofs.Ends.{viable}

pub query-result : (levels : ℕ) (text : List ℕ) (t : Tree) → QueryText levels text t → result_of (start levels) (tokens (pieces text)) ≡ Some t
unfolding QueryText
query-result levels text t h = any-result levels (tokens (pieces text)) t h

-- no query begins with a piece at which the reader stops
pub no_further : (levels : ℕ) (front : List Piece) (s : State) (p : Piece) (ps : List Piece) (kind : QueryKind) → Reach levels front s → step s (token p.shape p.bytes) ≡ stops kind → CanBegin levels (front ++ p ∷ ps) → ⊥
no_further levels front s p ps kind r e (text, rest, t, is, spells) =
    let read = query-result levels text t spells in
    let here = ap (λ qs. result_of (start levels) (tokens qs)) (is ∙ append_assoc front (p ∷ ps) rest) ∙ r.walks (p ∷ (ps ++ rest)) ∙ behind-result s (token p.shape p.bytes) (tokens (ps ++ rest)) ∙ ap (λ n. let got : Option Tree = elim n [ goes u ↦ result_of u (tokens (ps ++ rest)) | stops k ↦ None ] in got) e in
    let none : None ≡ Some t = sym here ∙ read in
    cc

pub reading_stopped : (text : List ℕ) (place : ℕ) (kind : QueryKind) → reading text ≡ fault place kind → Stopped 64 (pieces text) place kind
unfolding reading
reading_stopped text place kind e = run-stopped 64 place kind (pieces text) 0 (start 64) [] (reach-start 64) refl e

pub reading_place : (text : List ℕ) (place : ℕ) (kind : QueryKind) → reading text ≡ fault place kind → IsPlace 64 text place
reading_place text place kind e =
    let s = reading_stopped text place kind e in
    let cut = front_split s.front s.back Outside [] (subst (λ ps. FrontCut Outside ps []) s.split (text_front text)) in
    record {
      front = s.front;
      back = s.back;
      split = s.split;
      size = s.size;
      begins = viable 64 s.front s.state _ s.reach cut.0;
      longest = λ more rest f h. none_longer s.front s.state s.back place kind s.reach s.fails more rest f h;
    }
  where
    none_longer : (front : List Piece) (s : State) (back : List Piece) (place : ℕ) (kind : QueryKind) → Reach 64 front s → Fails s back place kind → (more rest : List Piece) → back ≡ more ++ rest → CanBegin 64 (front ++ more) → more ≡ []
    none_longer front s back place kind r fails [] rest f h = refl
    none_longer front s back place kind r fails (p ∷ ps) rest f h =
        absurd (no_further 64 front s p ps kind r (subst (λ b. Fails s b place kind) f fails) h)
