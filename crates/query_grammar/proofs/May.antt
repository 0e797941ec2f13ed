-- Which pieces may stand where the reader stands.
use Rattle.std.proofs.Common.{◌≡◌, ℕ, List, [], ◌∷◌, ◌++◌, sym, ap, subst, append_assoc, append-nil}
use Rattle.query_tree.specs.declared.piece.Place.{Place}
use Rattle.query_tree.specs.declared.piece.Place.TheVariants.{Outside}
use Rattle.query_grammar.specs.declared.fault.QueryKind.{QueryKind}
use Rattle.query_tree.specs.Pieces.{Piece, token}
use Rattle.query_grammar.specs.Reading.{State, goes, stops, step}
use Rattle.query_grammar.specs.Places.{CanBegin}
use Rattle.query_tree.proofs.Lexing.{IsCut, FrontCut, place_after}
use Rattle.query_tree.proofs.Fronts.{LastSeparates, front_join, other_end}
use Rattle.query_grammar.proofs.Viable.{Reach, reach-step}
use Rattle.query_grammar.proofs.Ends.{viable}
use Rattle.query_grammar.proofs.PlaceOf.{no_further}

abbrev pub here : List Piece → Place
here front = place_after Outside front

-- the reader stands behind pieces that are a text's
pub record Stand (front : List Piece) (s : State) : Type 0 where
  pub reach : Reach 64 front s
  pub rest : List ℕ
  pub cut : FrontCut Outside front rest

-- a piece at which the reader goes on, cut off there, may stand there
pub stand-more : (front : List Piece) (s t : State) (p : Piece) (rest : List ℕ) → Stand front s → step s (token p.shape p.bytes) ≡ goes t → IsCut (here front) p rest → LastSeparates front (p.bytes ++ rest) → Stand (front ++ p ∷ []) t
stand-more front s t p rest d e cut last =
    let before = other_end front Outside d.rest (p.bytes ++ rest) d.reach.sound d.cut last in
    record {
      reach = reach-step 64 front s t p d.reach e;
      rest = rest;
      cut = front_join front (p ∷ []) Outside rest (subst (λ xs. FrontCut Outside front xs) (ap (λ xs. xs ++ rest) (sym (append-nil p.bytes))) before) (cut, tt);
    }

pub may-stand : (front : List Piece) (s : State) → Stand front s → CanBegin 64 front
may-stand front s d = viable 64 front s d.rest d.reach d.cut

-- one piece
pub may-one : (front : List Piece) (s t : State) (p : Piece) → Stand front s → step s (token p.shape p.bytes) ≡ goes t → IsCut (here front) p [] → LastSeparates front p.bytes → CanBegin 64 (front ++ p ∷ [])
may-one front s t p d e cut last = may-stand (front ++ p ∷ []) t (stand-more front s t p [] d e cut (subst (λ xs. LastSeparates front xs) (sym (append-nil p.bytes)) last))

-- two pieces
pub may-two : (front : List Piece) (s t u : State) (p q : Piece) → Stand front s → step s (token p.shape p.bytes) ≡ goes t → step t (token q.shape q.bytes) ≡ goes u → IsCut (here front) p q.bytes → LastSeparates front (p.bytes ++ q.bytes) → IsCut (here (front ++ p ∷ [])) q [] → LastSeparates (front ++ p ∷ []) q.bytes → CanBegin 64 (front ++ p ∷ q ∷ [])
may-two front s t u p q d e f cut last next apart =
    subst (λ ps. CanBegin 64 ps) (append_assoc front (p ∷ []) (q ∷ []))
    (may-one (front ++ p ∷ []) t u q (stand-more front s t p q.bytes d e cut last) f next apart)

-- none where the reader stops
pub never-one : (front : List Piece) (s : State) (p : Piece) (ps : List Piece) (kind : QueryKind) → Stand front s → step s (token p.shape p.bytes) ≡ stops kind → CanBegin 64 (front ++ p ∷ ps) → ⊥
never-one front s p ps kind d e h = no_further 64 front s p ps kind d.reach e h

pub never-two : (front : List Piece) (s t : State) (p q : Piece) (kind : QueryKind) → Stand front s → step s (token p.shape p.bytes) ≡ goes t → step t (token q.shape q.bytes) ≡ stops kind → CanBegin 64 (front ++ p ∷ q ∷ []) → ⊥
never-two front s t p q kind d e f h =
    no_further 64 (front ++ p ∷ []) t q [] kind (reach-step 64 front s t p d.reach e) f (subst (λ ps. CanBegin 64 ps) (sym (append_assoc front (p ∷ []) (q ∷ []))) h)
