-- How a text is cut into pieces: in one way, and which of its bytes they are.
use Rattle.std.proofs.Common.{◌≡◌, ◌⊎◌, inl, inr, ℕ, suc, ◌+◌, ◌-◌, ◌<◌, ◌^◌, true, false, cond, if◌then◌else◌, List, [], ◌∷◌, ◌++◌, length, take, codes, refl, sym, ap, ◌∙◌, subst, arith, append-nil, append_assoc, length-append}
use Rattle.std.specs.Bool.{◌==◌}
use Rattle.std.specs.List.{list_any}
use Rattle.std.specs.Option.{unwrap_or}
use Rattle.std.specs.Fmt.{decimal}
use Rattle.std.specs.Str.{bytes_eq}
use Rattle.std.proofs.lemmas.Bool.{or_parts, true≢false}
use Rattle.std.proofs.lemmas.Fmt.{decimal_injective}
use Rattle.std.proofs.lemmas.List.{append_cancel_left}
use Rattle.std.proofs.lemmas.List.Sums.{sum_by-append}
use Rattle.std.proofs.Math.Seq.{take-append_seam}
use Rattle.hex.specs.Hex.{encode_lower}
use Rattle.control_stanza.specs.Written.{stanza_text}
use Rattle.package_core.specs.Card.{Card, line, package_text, file_text}
use Rattle.package_core.specs.Whole.{IsWhole}
use Rattle.package_core.proofs.WholeLemmas.{one_package_text}
use Rattle.catalogue_lines.specs.Lines.{IsPlain, IsLine, is_ended, line_ends}
use Rattle.catalogue_lines.specs.Pieces.{Piece, alone, packed, package_line, piece_text, Begins, Takes, joined}
use Rattle.catalogue_lines.proofs.LineLemmas.{line_unique, plain_cut, no_line, ended_push, equal_bytes}
use Rattle.catalogue_lines.proofs.Parts.{IsOther, Others}
use Rattle.catalogue_lines.proofs.PlainLemmas.{digits_plain}

-- ---- a line that isn't a package's
not_end : (k : ℕ) → (k == 10) ≡ false → k ≡ 10 → ⊥
not_end k h e = let t : (10 == 10) ≡ false = ap (λ z. z == 10) (sym e) ∙ h in cc

same_front : (key a r w : List ℕ) → IsPlain key → a ++ 10 ∷ r ≡ key ++ w → take (length key) a ≡ key
same_front [] a r w p e = refl
same_front (k ∷ ks) [] r w p e = let h : k ≡ 10 = cc in absurd (not_end k (or_parts (k == 10) (list_any (λ c. c == 10) ks) p).0 h)
same_front (k ∷ ks) (x ∷ xs) r w p e =
    let h : x ≡ k = cc in
    let more : xs ++ 10 ∷ r ≡ ks ++ w = cc in
    let t = same_front ks xs r w (or_parts (k == 10) (list_any (λ c. c == 10) ks) p).1 more in
    (λ i. h i ∷ t i)

no_package_line : (text a r w : List ℕ) → IsOther a → IsLine text a r → text ≡ codes "package " ++ w → ⊥
no_package_line text a r w o l e =
    elim l.ended [
      | inl f ↦ other (same_front (codes "package ") a r w refl (sym f ∙ e))
      | inr f ↦ other (ap (take 8) (sym f.0 ∙ e) ∙ take-append_seam (codes "package ") w)
    ]
  where
    other : take 8 a ≡ codes "package " → ⊥
    other h = let t : bytes_eq (codes "package ") (codes "package ") ≡ false = ap (λ b. bytes_eq b (codes "package ")) (sym h) ∙ o in
        let s : bytes_eq (codes "package ") (codes "package ") ≡ true = equal_bytes (codes "package ") in cc

pub packed_front : (p : Card) (r : List ℕ) → piece_text (packed p) ++ r ≡ codes "package " ++ (decimal (length (package_text p)) ++ (10 ∷ (package_text p ++ r)))
packed_front p r = append_assoc (package_line (length (package_text p))) (10 ∷ package_text p) r

-- ---- a package with its line
pub same_length : {X : Type 0} (xs ys a b : List X) → length xs ≡ length ys → xs ++ a ≡ ys ++ b → (xs ≡ ys) × (a ≡ b)
same_length [] [] a b e h = (refl, h)
same_length [] (y ∷ ys) a b e h = absurd (omega arith)
same_length (x ∷ xs) [] a b e h = absurd (omega arith)
same_length (x ∷ xs) (y ∷ ys) a b e h =
    let t = same_length xs ys a b (omega arith) cc in
    let same : x ≡ y = cc in
    ((λ i. same i ∷ t.0 i), t.1)

packed_short : (text r : List ℕ) (p : Card) → length text < 2 ^ 64 → text ≡ piece_text (packed p) ++ r → length (package_text p) < 2 ^ 64
packed_short text r p small e =
    let a = ap length (e ∙ packed_front p r) in
    let b = length-append (codes "package ") (decimal (length (package_text p)) ++ (10 ∷ (package_text p ++ r))) in
    let c = length-append (decimal (length (package_text p))) (10 ∷ (package_text p ++ r)) in
    let d = length-append (package_text p) r in
    omega arith

behind_short : (text mid front : List ℕ) → length text < 2 ^ 64 → text ≡ front ++ mid → length mid < 2 ^ 64
behind_short text mid front small e = let a = ap length e ∙ length-append front mid in omega arith

packed_unique : (text r s : List ℕ) (p q : Card) → length (package_text p) < 2 ^ 64 → length (package_text q) < 2 ^ 64 → IsWhole p → IsWhole q → text ≡ piece_text (packed p) ++ r → text ≡ piece_text (packed q) ++ s → (p ≡ q) × (r ≡ s)
packed_unique text r s p q np nq wp wq e f =
    let cut = plain_cut (package_line (length (package_text p))) (package_line (length (package_text q))) (package_text p ++ r) (package_text q ++ s) (digits_plain (length (package_text p)) np) (digits_plain (length (package_text q)) nq)
    (sym (append_assoc (package_line (length (package_text p))) (10 ∷ package_text p) r) ∙ sym e ∙ f ∙ append_assoc (package_line (length (package_text q))) (10 ∷ package_text q) s) in
    let n : length (package_text p) ≡ length (package_text q) = decimal_injective _ _ np nq (append_cancel_left (codes "package ") _ _ cut.0) in
    let both = same_length (package_text p) (package_text q) r s n cut.1 in
    (one_package_text p q wp wq both.0, both.1)

-- ---- one way
abbrev pub GoesOn : List Piece → List ℕ → List Piece → List ℕ → Type 0
GoesOn xs r ys s = (zs : List Piece) × (ys ≡ xs ++ zs) × Takes r zs s

line_behind_short : (text row mid : List ℕ) → length text < 2 ^ 64 → IsLine text row mid → length mid < 2 ^ 64
line_behind_short text row mid small l =
    elim l.ended [ inl e ↦ (let a = ap length e ∙ length-append row (10 ∷ mid) in omega arith) | inr e ↦ (let a = ap length e.1 in omega arith) ]

-- the texts of the packages are so short that their length can be written
abbrev pub Shorts : List Piece → Type 0
Shorts [] = Unit {0}
Shorts (alone l ∷ xs) = Shorts xs
Shorts (packed p ∷ xs) = (length (package_text p) < 2 ^ 64) × Shorts xs

pub takes_short : (xs : List Piece) (text r : List ℕ) → length text < 2 ^ 64 → Takes text xs r → Shorts xs
takes_short [] text r small t = tt
takes_short (alone l ∷ xs) text r small t = takes_short xs t.0 r (line_behind_short text l t.0 small t.1) t.2
takes_short (packed p ∷ xs) text r small t = (packed_short text t.0 p small t.1.1, takes_short xs t.0 r (behind_short text t.0 (piece_text (packed p)) small t.1.1) t.2)

pub takes_unique : (xs ys : List Piece) (text r s : List ℕ) → Shorts xs → Shorts ys → Others xs → Others ys → Takes text xs r → Takes text ys s → GoesOn xs r ys s ⊎ GoesOn ys s xs r
takes_unique [] ys text r s h k o q t u = inl (ys, refl, subst (λ (x : List ℕ). Takes x ys s) t u)
takes_unique (x ∷ xs) [] text r s h k o q t u = inr (x ∷ xs, refl, subst (λ (y : List ℕ). Takes y (x ∷ xs) r) u t)
takes_unique (alone a ∷ xs) (alone b ∷ ys) text r s h k o q t u =
    let same = line_unique text a b t.0 u.0 t.1 u.1 in
    ahead (takes_unique xs ys t.0 r s h k o.1 q.1 t.2 (subst (λ (y : List ℕ). Takes y ys s) (sym same.1) u.2)) same.0
  where
    ahead : GoesOn xs r ys s ⊎ GoesOn ys s xs r → a ≡ b → GoesOn (alone a ∷ xs) r (alone b ∷ ys) s ⊎ GoesOn (alone b ∷ ys) s (alone a ∷ xs) r
    ahead (inl g) e = inl (g.0, (λ i. alone (sym e i) ∷ g.1 i), g.2)
    ahead (inr g) e = inr (g.0, (λ i. alone (e i) ∷ g.1 i), g.2)
takes_unique (alone a ∷ xs) (packed q ∷ ys) text r s h k o m t u = absurd (no_package_line text a t.0 _ o.0 t.1 (u.1.1 ∙ packed_front q u.0))
takes_unique (packed p ∷ xs) (alone b ∷ ys) text r s h k o m t u = absurd (no_package_line text b u.0 _ m.0 u.1 (t.1.1 ∙ packed_front p t.0))
takes_unique (packed p ∷ xs) (packed q ∷ ys) text r s h k o m t u =
    let same = packed_unique text t.0 u.0 p q h.0 k.0 t.1.0 u.1.0 t.1.1 u.1.1 in
    ahead (takes_unique xs ys t.0 r s h.1 k.1 o m t.2 (subst (λ (y : List ℕ). Takes y ys s) (sym same.1) u.2)) same.0
  where
    ahead : GoesOn xs r ys s ⊎ GoesOn ys s xs r → p ≡ q → GoesOn (packed p ∷ xs) r (packed q ∷ ys) s ⊎ GoesOn (packed q ∷ ys) s (packed p ∷ xs) r
    ahead (inl g) e = inl (g.0, (λ i. packed (sym e i) ∷ g.1 i), g.2)
    ahead (inr g) e = inr (g.0, (λ i. packed (e i) ∷ g.1 i), g.2)

-- nothing begins an empty text
pub nothing_begins : (x : Piece) (r : List ℕ) → Begins [] x r → ⊥
nothing_begins (alone l) r b = no_line l r b
nothing_begins (packed p) r b = let e = b.1 ∙ packed_front p r in cc

-- ---- which bytes they are
ended_cons : (b : ℕ) (t : List ℕ) → is_ended t ≡ false → is_ended (b ∷ t) ≡ false
ended_cons b [] h = absurd (true≢false h)
ended_cons b (c ∷ cs) h = h

unended_behind : (xs mid : List ℕ) → is_ended mid ≡ false → is_ended (xs ++ mid) ≡ false
unended_behind [] mid h = h
unended_behind (x ∷ xs) mid h = ended_cons x (xs ++ mid) (unended_behind xs mid h)

plain_unended : (l : List ℕ) → IsPlain l → (l ≡ [] → ⊥) → is_ended l ≡ false
plain_unended [] p ne = absurd (ne refl)
plain_unended (x ∷ []) p ne = (or_parts (x == 10) false p).0
plain_unended (x ∷ y ∷ ys) p ne = plain_unended (y ∷ ys) (or_parts (x == 10) (list_any (λ c. c == 10) (y ∷ ys)) p).1 (λ e. cc)

abbrev pub IsText : List ℕ → List Piece → List ℕ → Type 0
IsText text xs rest = (text ≡ joined xs ++ rest) ⊎ ((rest ≡ []) × (joined xs ≡ text ++ 10 ∷ []) × (is_ended text ≡ false))

text_then : (text front mid : List ℕ) (xs : List Piece) (rest : List ℕ) (x : Piece) → piece_text x ≡ front → text ≡ front ++ mid → IsText mid xs rest → IsText text (x ∷ xs) rest
text_then text front mid xs rest x p e (inl h) = inl (e ∙ (λ i. sym p i ++ h i) ∙ sym (append_assoc (piece_text x) (joined xs) rest))
text_then text front mid xs rest x p e (inr h) = inr (
  h.0,
  (λ i. p i ++ h.1 i) ∙ sym (append_assoc front mid (10 ∷ [])) ∙ ap (λ t. t ++ 10 ∷ []) (sym e),
  ap is_ended e ∙ unended_behind front mid h.2,
)

pub takes_text : (xs : List Piece) (text rest : List ℕ) → Takes text xs rest → IsText text xs rest
takes_text [] text rest t = inl t
takes_text (alone l ∷ xs) text rest t =
    elim t.1.ended [
      | inl e ↦ text_then text (l ++ 10 ∷ []) t.0 xs rest (alone l) refl (e ∙ sym (append_assoc l (10 ∷ []) t.0)) (takes_text xs t.0 rest t.2)
      | inr e ↦ last xs e.0 (subst (λ (y : List ℕ). Takes y xs rest) e.1 t.2) (plain_unended l t.1.plain e.2)
    ]
  where
    last : (xs : List Piece) → text ≡ l → Takes [] xs rest → is_ended l ≡ false → IsText text (alone l ∷ xs) rest
    last [] e u h = inr (sym u, append-nil (l ++ 10 ∷ []) ∙ ap (λ y. y ++ 10 ∷ []) (sym e), ap is_ended e ∙ h)
    last (x ∷ xs) e u h = absurd (nothing_begins x u.0 u.1)
takes_text (packed p ∷ xs) text rest t = text_then text (piece_text (packed p)) t.0 xs rest (packed p) refl t.1.1 (takes_text xs t.0 rest t.2)

-- a text that ends with a line end is its pieces joined
pub ended_text : (xs : List Piece) (text : List ℕ) → Takes text xs [] → is_ended text ≡ true → text ≡ joined xs
ended_text xs text t e = of (takes_text xs text [] t)
  where
    of : IsText text xs [] → text ≡ joined xs
    of (inl h) = h ∙ append-nil (joined xs)
    of (inr h) = absurd (true≢false (sym e ∙ h.2))

-- ---- pieces end with a line end
ended_more : (xs : List ℕ) (y : ℕ) (ys : List ℕ) → is_ended (y ∷ ys) ≡ true → is_ended (xs ++ y ∷ ys) ≡ true
ended_more [] y ys h = h
ended_more (x ∷ []) y ys h = h
ended_more (x ∷ z ∷ xs) y ys h = ended_more (z ∷ xs) y ys h

abbrev pub IsClosed : List ℕ → Type 0
IsClosed text = (front : List ℕ) × (text ≡ front ++ 10 ∷ [])

pub package_closed : (p : Card) → IsClosed (package_text p)
unfolding package_text file_text
package_closed p =
    closed_append (stanza_text p.stanza) (file_text p.file p.said)
    (closed_append (line (codes "Filename") p.file ++ line (codes "Size") (decimal p.said.size) ++ line (codes "MD5sum") (encode_lower (unwrap_or p.said.md5 [])) ++ line (codes "SHA1") (encode_lower (unwrap_or p.said.sha1 [])))
    (line (codes "SHA256") (encode_lower p.said.sha256)) (codes "SHA256" ++ 58 ∷ 32 ∷ encode_lower p.said.sha256, refl))
  where
    closed_append : (a b : List ℕ) → IsClosed b → IsClosed (a ++ b)
    closed_append a b c = (a ++ c.0, ap (λ t. a ++ t) c.1 ∙ sym (append_assoc a c.0 (10 ∷ [])))

pub piece_closed : (x : Piece) → (front : List ℕ) × (piece_text x ≡ front ++ 10 ∷ [])
piece_closed (alone l) = (l, refl)
piece_closed (packed p) =
    let c = package_closed p in
    (package_line (length (package_text p)) ++ 10 ∷ c.0, ap (λ t. package_line (length (package_text p)) ++ 10 ∷ t) c.1 ∙ sym (append_assoc (package_line (length (package_text p))) (10 ∷ c.0) (10 ∷ [])))

pub joined_ended : (xs : List Piece) → is_ended (joined xs) ≡ true
joined_ended [] = refl
joined_ended (x ∷ xs) = by_rest (joined xs) (joined_ended xs)
  where
    by_rest : (r : List ℕ) → is_ended r ≡ true → is_ended (piece_text x ++ r) ≡ true
    by_rest [] h = let c = piece_closed x in ap is_ended (append-nil (piece_text x) ∙ c.1) ∙ ended_push c.0 10
    by_rest (y ∷ ys) h = ended_more (piece_text x) y ys h

-- ---- the number of the line behind the pieces
pub number_is : (xs : List Piece) (text rest : List ℕ) (left : ℕ) → Takes text xs rest → left ≡ length rest
    → 1 + line_ends (take (length text - left) text) + (if is_ended (take (length text - left) text) then 0 else 1) ≡ suc (line_ends (joined xs))
number_is xs text rest left t e = of (takes_text xs text rest t)
  where
    of : IsText text xs rest → 1 + line_ends (take (length text - left) text) + (if is_ended (take (length text - left) text) then 0 else 1) ≡ suc (line_ends (joined xs))
    of (inl h) =
        let n : length text - left ≡ length (joined xs) = (let a = ap length h ∙ length-append (joined xs) rest in omega arith) in
        let f : take (length text - left) text ≡ joined xs = (λ i. take (n i) (h i)) ∙ take-append_seam (joined xs) rest in
        (λ i. 1 + line_ends (f i) + (if is_ended (f i) then 0 else 1)) ∙ (λ i. 1 + line_ends (joined xs) + (if joined_ended xs i then 0 else 1)) ∙ plus (line_ends (joined xs))
      where
        plus : (n : ℕ) → 1 + n + 0 ≡ suc n
        plus n = omega arith
    of (inr h) =
        let n : length text - left ≡ length text = (let a = ap length h.0 in omega arith) in
        let f : take (length text - left) text ≡ text = ap (λ k. take k text) n ∙ ap (take (length text)) (sym (append-nil text)) ∙ take-append_seam text [] in
        let g : line_ends (joined xs) ≡ line_ends text + 1 = ap line_ends h.1 ∙ sum_by-append (λ b. cond (b == 10) 1 0) text (10 ∷ []) in
        (λ i. 1 + line_ends (f i) + (if is_ended (f i) then 0 else 1)) ∙ (λ i. 1 + line_ends text + (if h.2 i then 0 else 1)) ∙ plus (line_ends text) (line_ends (joined xs)) g
      where
        plus : (n m : ℕ) → m ≡ n + 1 → 1 + n + 1 ≡ suc m
        plus n m e = omega arith
