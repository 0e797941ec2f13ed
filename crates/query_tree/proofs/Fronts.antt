-- Pieces at the front of a text are its pieces with another end too.
use Rattle.std.proofs.Common.{◌≡◌, ℕ, suc, zero, ◌<◌, ◌≤◌, List, [], ◌∷◌, ◌++◌, length, take, drop, take-append-drop, length-drop, length-take-le, refl, sym, ap, ◌∙◌, subst, append_assoc, append-nil, arith}
use Rattle.query_tree.specs.declared.piece.Place.{Place}
use Rattle.query_tree.specs.declared.piece.Shape.{Shape}
use Rattle.query_tree.specs.declared.piece.Shape.TheVariants.{Blank, Word, Operator, Lone, Quoted, Broken, Mark}
use Rattle.query_tree.specs.declared.piece.Place.TheVariants.{Outside}
use Rattle.query_tree.specs.Pieces.{Piece, Token, token, tokens, behind, gap, pieces, first_cut, cut_of, next_place, cuts, joined}
use Rattle.query_tree.proofs.Cuts.{first_cut-positive, first_cut-inside}
use Rattle.query_tree.proofs.Lexing.{cut_as, Separates, IsSound, IsCut, cut-local, cut-stops, FrontCut, place_after}

pub joined-append : (ps qs : List Piece) → joined (ps ++ qs) ≡ joined ps ++ joined qs
joined-append [] qs = refl
joined-append (p ∷ ps) qs = ap (λ xs. p.bytes ++ xs) (joined-append ps qs) ∙ sym (append_assoc p.bytes (joined ps) (joined qs))

-- a text is its pieces, each cut off before the next
pub cuts_front : (n : ℕ) (place : Place) (text : List ℕ) → length text ≤ n → (joined (cuts n place text) ≡ text) × FrontCut place (cuts n place text) []
cuts_front zero place [] h = (refl, tt)
cuts_front zero place (c ∷ cs) h = absurd (omega arith)
cuts_front (suc n) place [] h = (refl, tt)
cuts_front (suc n) place (c ∷ cs) h =
    let cut = first_cut place c cs in
    let inside : cut.size ≤ length (c ∷ cs) = omega (arith, first_cut-inside place c cs) in
    let size : length (take cut.size (c ∷ cs)) ≡ cut.size = length-take-le cut.size (c ∷ cs) inside in
    let (text, front) = cuts_front n (next_place place cut.shape) (drop cut.size (c ∷ cs)) (omega (arith, length-drop cut.size (c ∷ cs), first_cut-positive place c cs)) in
    let whole : take cut.size (c ∷ cs) ++ drop cut.size (c ∷ cs) ≡ c ∷ cs = take-append-drop cut.size (c ∷ cs) in (
      ap (λ xs. take cut.size (c ∷ cs) ++ xs) text ∙ whole,
      (
        (
          omega (arith, first_cut-positive place c cs),
          ap (λ xs. cut_of place (take cut.size (c ∷ cs) ++ xs)) (append-nil _ ∙ text) ∙ ap (λ xs. cut_of place xs) whole ∙ ap (λ k. cut_as cut.shape k) (sym size),
        ),
        front,
      ),
    )

pub front_split : (front back : List Piece) (place : Place) (rest : List ℕ) → FrontCut place (front ++ back) rest → FrontCut place front (joined back ++ rest) × FrontCut (place_after place front) back rest
front_split [] back place rest h = (tt, h)
front_split (p ∷ ps) back place rest h =
    let (left, right) = front_split ps back (next_place place p.shape) rest h.1 in
    ((subst (λ xs. IsCut place p xs) (ap (λ xs. xs ++ rest) (joined-append ps back) ∙ append_assoc (joined ps) (joined back) rest) h.0, left), right)

pub front_join : (front back : List Piece) (place : Place) (rest : List ℕ) → FrontCut place front (joined back ++ rest) → FrontCut (place_after place front) back rest → FrontCut place (front ++ back) rest
front_join [] back place rest h k = k
front_join (p ∷ ps) back place rest h k =
    (subst (λ xs. IsCut place p xs) (sym (ap (λ xs. xs ++ rest) (joined-append ps back) ∙ append_assoc (joined ps) (joined back) rest)) h.0, front_join ps back (next_place place p.shape) rest h.1 k)

-- the last piece may stand before such a rest
abbrev pub LastSeparates : List Piece → List ℕ → Type 0
LastSeparates [] rest = Unit {0}
LastSeparates (p ∷ []) rest = Separates p.shape rest
LastSeparates (p ∷ q ∷ ps) rest = LastSeparates (q ∷ ps) rest

abbrev pub AllSound : List Piece → Type 0
AllSound [] = Unit {0}
AllSound (p ∷ ps) = IsSound p.shape × AllSound ps

same-first : (shape : Shape) (bytes more other : List ℕ) → 0 < length bytes → Separates shape (bytes ++ more) → Separates shape (bytes ++ other)
same-first shape [] more other h s = absurd (omega arith)
same-first Blank (c ∷ cs) more other h s = s
same-first Word (c ∷ cs) more other h s = s
same-first (Operator how) (c ∷ cs) more other h s = tt
same-first Lone (c ∷ cs) more other h s = tt
same-first Quoted (c ∷ cs) more other h s = tt
same-first Broken (c ∷ cs) more other h s = tt
same-first (Mark d) (c ∷ cs) more other h s = tt

pub other_end : (front : List Piece) (place : Place) (rest other : List ℕ) → AllSound front → FrontCut place front rest → LastSeparates front other → FrontCut place front other
other_end [] place rest other s h l = tt
other_end (p ∷ []) place rest other s h l = (cut-local place p.shape p.bytes rest other h.0 s.0 l, tt)
other_end (p ∷ q ∷ ps) place rest other s h l =
    let more = joined ps ++ rest in
    let here : IsCut place p (q.bytes ++ more) = subst (λ xs. IsCut place p xs) (append_assoc q.bytes (joined ps) rest) h.0 in
    let separates = same-first p.shape q.bytes more (joined ps ++ other) h.1.0.0 (cut-stops place p.shape p.bytes (q.bytes ++ more) here) in (
      subst (λ xs. IsCut place p xs) (sym (append_assoc q.bytes (joined ps) other)) (cut-local place p.shape p.bytes (q.bytes ++ more) (q.bytes ++ (joined ps ++ other)) here s.0 separates),
      other_end (q ∷ ps) (next_place place p.shape) rest other s.1 h.1 l,
    )

pub text_front : (text : List ℕ) → FrontCut Outside (pieces text) []
unfolding pieces
text_front text = (cuts_front (length text) Outside text (omega arith)).1

pub behind_append : (p : Token) (ts : List Token) → behind p [] ++ ts ≡ behind p ts
behind_append gap ts = refl
behind_append p ts = refl

pub tokens-append : (ps qs : List Piece) → tokens (ps ++ qs) ≡ tokens ps ++ tokens qs
tokens-append [] qs = refl
tokens-append (p ∷ ps) qs =
    let here = token p.shape p.bytes in
    ap (λ ts. behind here ts) (tokens-append ps qs) ∙ sym (behind_append here (tokens ps ++ tokens qs))
    ∙ sym (append_assoc (behind here []) (tokens ps) (tokens qs)) ∙ ap (λ ts. ts ++ tokens qs) (behind_append here (tokens ps))
