-- What a text says is what the grammar says.
use Rattle.std.proofs.Common.{◌≡◌, inl, inr, ◌⊎◌, ℕ, suc, zero, ◌+◌, ◌<◌, ◌≤◌, List, [], ◌∷◌, ◌++◌, length, Some, Result, Ok, Err, Bool, true, false, refl, sym, ap, ◌∙◌, subst, append-nil, arith, rules}
use Rattle.std.specs.Bool.{nat_lt, if◌then◌else◌}
use Rattle.query_tree.specs.Tree.{Tree}
use Rattle.query_tree.specs.Pieces.{Piece, joined}
use Rattle.query_tree.specs.Grammar.{QueryText}
use Rattle.query_tree.proofs.Round.{one_level_more}
use Rattle.query_grammar.specs.Reading.{Reading, tree, fault, reading}
use Rattle.query_grammar.specs.Places.{CanBegin, IsPlace}
use Rattle.query_grammar.specs.Said.{tree_or_place, filter_of, query_of}
use Rattle.query_grammar.proofs.Agreement.{reading_found, reading_only}
use Rattle.query_grammar.proofs.PlaceOf.{reading_place, query-result}

levels_more : (k n : ℕ) (text : List ℕ) (t : Tree) → QueryText n text t → QueryText (k + n) text t
levels_more zero n text t h = let e : n ≡ zero + n = omega arith in subst (λ m. QueryText m text t) e h
levels_more (suc k) n text t h =
    let e : suc (k + n) ≡ suc k + n = omega arith in
    subst (λ m. QueryText m text t) e (one_level_more (k + n) text t (levels_more k n text t h))

-- a text spells one tree at most
pub one_tree : (m n : ℕ) (text : List ℕ) (t u : Tree) → QueryText m text t → QueryText n text u → t ≡ u
one_tree m n text t u a b =
    let e : m + n ≡ n + m = omega arith in
    let first = query-result (n + m) text t (levels_more n m text t a) in
    let second = query-result (n + m) text u (subst (λ k. QueryText k text u) e (levels_more m n text u b)) in
    let same : Some t ≡ Some u = sym first ∙ second in
    cc

-- of two fronts of one list, one goes on where the other ends
fronts : (us vs xs ys : List Piece) → us ++ vs ≡ xs ++ ys → ((more : List Piece) × (xs ≡ us ++ more) × (vs ≡ more ++ ys)) ⊎ ((more : List Piece) × (us ≡ xs ++ more) × (ys ≡ more ++ vs))
fronts [] vs xs ys e = inl (xs, refl, e)
fronts (u ∷ us) vs [] ys e = inr (u ∷ us, refl, sym e)
fronts (u ∷ us) vs (x ∷ xs) ys e =
    let same : u ≡ x = cc in
    let rest : us ++ vs ≡ xs ++ ys = cc in
    elim (fronts us vs xs ys rest) [
      | inl h ↦ inl (h.0, (λ i. sym same i ∷ h.1 i), h.2)
      | inr h ↦ inr (h.0, (λ i. same i ∷ h.1 i), h.2)
    ]

same_size : (front other more : List Piece) → other ≡ front ++ more → more ≡ [] → length (joined front) ≡ length (joined other)
same_size front other more e none = ap (λ f. length (joined f)) (sym (e ∙ ap (λ m. front ++ m) none ∙ append-nil front))

-- a text has one place at most
one_place : (levels : ℕ) (text : List ℕ) (p q : ℕ) → IsPlace levels text p → IsPlace levels text q → p ≡ q
one_place levels text p q x y =
    elim (fronts x.front x.back y.front y.back (sym x.split ∙ y.split)) [
      | inl h ↦ (let none : h.0 ≡ [] = x.longest h.0 y.back h.2 (subst (λ f. CanBegin levels f) h.1 y.begins) in x.size ∙ same_size x.front y.front h.0 h.1 none ∙ sym y.size)
      | inr h ↦ (let none : h.0 ≡ [] = y.longest h.0 x.back h.2 (subst (λ f. CanBegin levels f) h.1 x.begins) in x.size ∙ sym (same_size y.front x.front h.0 h.1 none) ∙ sym y.size)
    ]

no_both : (place : ℕ) (t : Tree) (said : Result Tree ℕ) → said ≡ Err place → said ≡ Ok t → ⊥
no_both place t said e f = cc

same_place : (p q : ℕ) (said : Result Tree ℕ) → said ≡ Err p → said ≡ Err q → p ≡ q
same_place p q said e f = cc

pub filter_spelled : (text : List ℕ) (t : Tree) → filter_of text ≡ Ok t → QueryText 64 text t
unfolding filter_of
filter_spelled text t e = by_reading (reading text) refl e
  where
    by_reading : (r : Reading) → reading text ≡ r → tree_or_place r ≡ Ok t → QueryText 64 text t
    by_reading (tree u) f g = let same : u ≡ t = cc in reading_found text t (f ∙ ap tree same)
    by_reading (fault place kind) f g = cc

pub filter_read : (text : List ℕ) (t : Tree) → QueryText 64 text t → filter_of text ≡ Ok t
unfolding filter_of
filter_read text t h = ap tree_or_place (reading_only text t h)

pub filter_placed : (text : List ℕ) (at : ℕ) → filter_of text ≡ Err at → IsPlace 64 text at × ((t : Tree) → QueryText 64 text t → ⊥)
unfolding filter_of
filter_placed text at e = (by_reading (reading text) refl e, λ t q. no_both at t (tree_or_place (reading text)) e (ap tree_or_place (reading_only text t q)))
  where
    by_reading : (r : Reading) → reading text ≡ r → tree_or_place r ≡ Err at → IsPlace 64 text at
    by_reading (tree u) f g = cc
    by_reading (fault place kind) f g = let same : place ≡ at = cc in subst (λ p. IsPlace 64 text p) same (reading_place text place kind f)

pub filter_faulty : (text : List ℕ) (at : ℕ) → IsPlace 64 text at → ((t : Tree) → QueryText 64 text t → ⊥) → filter_of text ≡ Err at
unfolding filter_of
filter_faulty text at h none = by_reading (reading text) refl
  where
    by_reading : (r : Reading) → reading text ≡ r → tree_or_place r ≡ Err at
    by_reading (tree u) f = absurd (none u (reading_found text u f))
    by_reading (fault place kind) f = ap Err (one_place 64 text place at (reading_place text place kind f) h)

over : (text : List ℕ) → nat_lt 4096 (length text) ≡ true → 4096 < length text
over text h = search rules

fits : (text : List ℕ) → nat_lt 4096 (length text) ≡ false → length text ≤ 4096
fits text h = search rules

pub long : (text : List ℕ) → 4096 < length text → query_of text ≡ Err 4096
unfolding query_of
long text h = ap (λ (b : Bool). if b then Err 4096 else filter_of text) is_over
  where
    is_over : nat_lt 4096 (length text) ≡ true
    is_over = search rules

pub short : (text : List ℕ) → length text ≤ 4096 → query_of text ≡ filter_of text
unfolding query_of
short text h = by_length (nat_lt 4096 (length text)) refl
  where
    by_length : (b : Bool) → nat_lt 4096 (length text) ≡ b → (if b then Err 4096 else filter_of text) ≡ filter_of text
    by_length false e = refl
    by_length true e = absurd (omega (arith, h, over text e))

pub query_spelled : (text : List ℕ) (t : Tree) → query_of text ≡ Ok t → QueryText 64 text t × (length text ≤ 4096)
query_spelled text t e = by_length (nat_lt 4096 (length text)) refl
  where
    by_length : (b : Bool) → nat_lt 4096 (length text) ≡ b → QueryText 64 text t × (length text ≤ 4096)
    by_length true f = absurd (no_both 4096 t (query_of text) (long text (over text f)) e)
    by_length false f = (filter_spelled text t (sym (short text (fits text f)) ∙ e), fits text f)

pub query_read : (text : List ℕ) (t : Tree) → QueryText 64 text t × (length text ≤ 4096) → query_of text ≡ Ok t
query_read text t h = short text h.1 ∙ filter_read text t h.0

pub query_placed : (text : List ℕ) (at : ℕ) → query_of text ≡ Err at → ((4096 < length text) × (at ≡ 4096)) ⊎ ((length text ≤ 4096) × IsPlace 64 text at × ((t : Tree) → QueryText 64 text t → ⊥))
query_placed text at e = by_length (nat_lt 4096 (length text)) refl
  where
    by_length : (b : Bool) → nat_lt 4096 (length text) ≡ b → ((4096 < length text) × (at ≡ 4096)) ⊎ ((length text ≤ 4096) × IsPlace 64 text at × ((t : Tree) → QueryText 64 text t → ⊥))
    by_length true f = inl (over text f, same_place at 4096 (query_of text) e (long text (over text f)))
    by_length false f = let h = filter_placed text at (sym (short text (fits text f)) ∙ e) in inr (fits text f, h.0, h.1)

pub query_faulty : (text : List ℕ) (at : ℕ) → ((4096 < length text) × (at ≡ 4096)) ⊎ ((length text ≤ 4096) × IsPlace 64 text at × ((t : Tree) → QueryText 64 text t → ⊥)) → query_of text ≡ Err at
query_faulty text at (inl h) = long text h.0 ∙ ap Err (sym h.1)
query_faulty text at (inr h) = short text h.0 ∙ filter_faulty text at h.1 h.2
