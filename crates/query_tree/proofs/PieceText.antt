-- A text may be cut behind its first piece, and what a quoted value means is text.
use Rattle.std.proofs.Common.{◌≡◌, inl, inr, ℕ, suc, zero, ◌-◌, ◌<◌, ◌≤◌, ◌==◌, Bool, true, false, cond, not, ◌&&◌, List, [], ◌∷◌, length, take, length-take, take-take, get_or, Option, Some, None, refl, sym, ap, ◌∙◌, subst, arith, lit<}
use Rattle.std.specs.Str.{IsUtf8, IsCharBoundary}
use Rattle.std.specs.List.{prefix_len}
use Rattle.std.proofs.lemmas.Bool.{cases_lt, and_parts, eqb-true, cond_both}
use Rattle.std.proofs.lemmas.Bool.Decides.{nat_tests}
use Rattle.std.proofs.lemmas.List.Sums.{prefix_len-le-length, prefix_len_passes, prefix_len_stops}
use Rattle.std.proofs.lemmas.Str.{IsUtf8-take, IsUtf8-drop, IsCharBoundary-end, IsCharBoundary-before_ascii, IsCharBoundary-after_ascii}
use Rattle.query_tree.specs.declared.piece.Place.{Place}
use Rattle.query_tree.specs.declared.piece.Place.TheVariants.{Outside, BehindWord, Opening, Inside}
use Rattle.query_tree.specs.declared.piece.Shape.{Shape}
use Rattle.query_tree.specs.declared.piece.Shape.TheVariants.{Blank, Word, Lone, Quoted, Mark}
use Rattle.query_tree.specs.declared.piece.Cut.{Cut}
use Rattle.query_tree.specs.Pieces.{is_blank, is_word, is_quote, is_control, closing, one_more, unquoted, quoted_value, of_one, of_two, after_less, after_greater, plain_cut, quoted_cut, inner_cut, opening_cut, first_cut}
use Rattle.query_tree.proofs.QuotedText.{unquoted-IsUtf8}

-- what a cut has to be
pub record IsGood (c : ℕ) (cs : List ℕ) (cut : Cut) : Type 0 where
  pub boundary : IsCharBoundary (c ∷ cs) cut.size
  pub positive : 0 < cut.size
  pub quoted : cut.shape ≡ Quoted → IsUtf8 (quoted_value (take cut.size (c ∷ cs)))

blank_low : (c : ℕ) → is_blank c ≡ true → c < 128
blank_low c h = grind (arith, nat_tests)

not_word_low : (c : ℕ) → is_word c ≡ false → c < 128
unfolding is_word
not_word_low c h = grind (arith, nat_tests)

quote_low : (c : ℕ) → is_quote c ≡ true → c < 128
quote_low c h = grind (arith, nat_tests)

of_one-good : (c : ℕ) (cs : List ℕ) (shape : Shape) → IsUtf8 (c ∷ cs) → c < 128 → (shape ≡ Quoted → ⊥) → IsGood c cs (of_one shape)
of_one-good c cs shape u low other = record { boundary = IsCharBoundary-after_ascii (c ∷ cs) 0 u (omega arith) low; positive = lit< tt; quoted = λ e. absurd (other e) }

of_two-good : (c d : ℕ) (cs : List ℕ) (shape : Shape) → IsUtf8 (c ∷ d ∷ cs) → d < 128 → (shape ≡ Quoted → ⊥) → IsGood c (d ∷ cs) (of_two shape)
of_two-good c d cs shape u low other = record { boundary = IsCharBoundary-after_ascii (c ∷ d ∷ cs) 1 u (omega arith) low; positive = lit< tt; quoted = λ e. absurd (other e) }

after_low : (c : ℕ) (cs : List ℕ) (k : ℕ) → IsUtf8 (c ∷ cs) → k ≤ length cs → get_or (c ∷ cs) k 0 < 128 → IsCharBoundary (c ∷ cs) (suc k)
after_low c cs k u inside low = subst (λ n. IsCharBoundary (c ∷ cs) n) (omega arith) (IsCharBoundary-after_ascii (c ∷ cs) k u (omega arith) low)

last_blank : (c : ℕ) (cs : List ℕ) (k : ℕ) → is_blank c ≡ true → ((j : ℕ) → j < k → is_blank (get_or cs j 0) ≡ true) → get_or (c ∷ cs) k 0 < 128
last_blank c cs zero b h = blank_low c b
last_blank c cs (suc j) b h = blank_low (get_or cs j 0) (h j (omega arith))

blank-good : (c : ℕ) (cs : List ℕ) → IsUtf8 (c ∷ cs) → is_blank c ≡ true → IsGood c cs (record { shape = Blank; size = suc (prefix_len is_blank cs) })
blank-good c cs u b = record {
  boundary = after_low c cs (prefix_len is_blank cs) u (prefix_len-le-length is_blank cs) (last_blank c cs (prefix_len is_blank cs) b (λ j h. prefix_len_passes is_blank cs j 0 h));
  positive = omega arith;
  quoted = λ e. cc;
}

word-boundary : (c : ℕ) (cs : List ℕ) (k : ℕ) → k ≤ length cs → (k < length cs → get_or cs k 0 < 128) → IsCharBoundary (c ∷ cs) (suc k)
word-boundary c cs k inside low =
    elim (cases_lt k (length cs)) [
      | inl h ↦ IsCharBoundary-before_ascii (c ∷ cs) (suc k) (omega arith) (low h)
      | inr h ↦ let e : length cs ≡ k = omega arith in subst (λ n. IsCharBoundary (c ∷ cs) (suc n)) e (IsCharBoundary-end (c ∷ cs))
    ]

word-good : (c : ℕ) (cs : List ℕ) → IsUtf8 (c ∷ cs) → IsGood c cs (record { shape = Word; size = suc (prefix_len is_word cs) })
word-good c cs u = record {
  boundary = word-boundary c cs (prefix_len is_word cs) (prefix_len-le-length is_word cs) (λ h. not_word_low _ (prefix_len_stops is_word cs 0 h));
  positive = omega arith;
  quoted = λ e. cc;
}

IsClosed : ℕ → List ℕ → ℕ → Type 0
IsClosed quote cs n = (k : ℕ) × (n ≡ suc k) × (k < length cs) × (get_or cs k 0 ≡ quote)

closed-more : (quote c : ℕ) (cs : List ℕ) (r : Option ℕ) (n : ℕ) → ((m : ℕ) → r ≡ Some m → (k : ℕ) × (m ≡ suc k) × (k < length cs) × (get_or cs k 0 ≡ quote)) → one_more r ≡ Some n → (k : ℕ) × (n ≡ suc k) × (k < length (c ∷ cs)) × (get_or (c ∷ cs) k 0 ≡ quote)
closed-more quote c cs None n h e = cc
closed-more quote c cs (Some m) n h e = let (k, f, l, q) = h m refl in (suc k, (let g : suc m ≡ n = cc in sym g ∙ ap suc f), omega arith, q)

closed-if : (a b : Bool) (x y : Option ℕ) (P : Option ℕ → Type 0) → P None → (a ≡ false → b ≡ true → P x) → (a ≡ false → b ≡ false → P y) → P (cond a None (cond b x y))
closed-if true b x y P n h g = n
closed-if false true x y P n h g = h refl refl
closed-if false false x y P n h g = g refl refl

pub closing-place : (quote : ℕ) (escaped : Bool) (cs : List ℕ) (n : ℕ) → closing quote escaped cs ≡ Some n → (k : ℕ) × (n ≡ suc k) × (k < length cs) × (get_or cs k 0 ≡ quote)
closing-place quote escaped [] n e = cc
closing-place quote escaped (c ∷ cs) n e =
    let P : Option ℕ → Type 0 = λ r. r ≡ Some n → (k : ℕ) × (n ≡ suc k) × (k < length (c ∷ cs)) × (get_or (c ∷ cs) k 0 ≡ quote) in
    closed-if (is_control c) (not escaped && (c == quote)) (Some 1) (one_more (closing quote (not escaped && (c == 92)) cs)) P
    (λ f. cc)
    (λ _ here f. (0, cc, omega arith, eqb-true c quote (and_parts _ _ here).1))
    (λ _ _ f. closed-more quote c cs (closing quote (not escaped && (c == 92)) cs) n (λ m g. closing-place quote (not escaped && (c == 92)) cs m g) f)
    e

text-behind : (c : ℕ) (cs : List ℕ) → IsUtf8 (c ∷ cs) → c < 128 → IsUtf8 cs
text-behind c cs u low = IsUtf8-drop (c ∷ cs) 1 u (IsCharBoundary-after_ascii (c ∷ cs) 0 u (omega arith) low)

body_of : (cs : List ℕ) (n k : ℕ) → n ≡ suc k → k < length cs → take (length (take n cs) - 1) (take n cs) ≡ take k cs
body_of cs n k e l =
    let size : length (take n cs) - 1 ≡ k = omega (arith, length-take n cs) in
    ap (λ m. take m (take n cs)) size ∙ take-take k n cs (omega arith)

quoted-good : (c : ℕ) (cs : List ℕ) (n : Option ℕ) → IsUtf8 (c ∷ cs) → c < 128 → closing c false cs ≡ n → IsGood c cs (quoted_cut cs n)
quoted-good c cs None u low e = record { boundary = IsCharBoundary-end (c ∷ cs); positive = omega arith; quoted = λ f. cc }
quoted-good c cs (Some n) u low e =
    let (k, f, l, q) = closing-place c false cs n e in
    record {
      boundary = subst (λ m. IsCharBoundary (c ∷ cs) (suc m)) (sym f) (after_low c cs (suc k) u (omega arith) (omega (arith, q)));
      positive = omega arith;
      quoted = λ _. subst (λ xs. IsUtf8 (unquoted c false xs)) (sym (body_of cs n k f l)) (unquoted-IsUtf8 c false (take k cs) low (IsUtf8-take cs k (text-behind c cs u low) (IsCharBoundary-before_ascii cs k l (omega (arith, q)))));
    }

plain-good : (c : ℕ) (cs : List ℕ) → IsUtf8 (c ∷ cs) → IsGood c cs (plain_cut c cs)
unfolding plain_cut
plain-good c cs u =
    cond_both (is_blank c) _ _ (IsGood c cs) (λ b. blank-good c cs u b)
    (λ _. cond_both (is_word c) _ _ (IsGood c cs) (λ _. word-good c cs u) (λ w. of_one-good c cs (Mark c) u (not_word_low c w) (λ e. cc)))

inner-good : (c : ℕ) (cs : List ℕ) → IsUtf8 (c ∷ cs) → IsGood c cs (inner_cut c cs)
unfolding inner_cut
inner-good c cs u = cond_both (is_quote c) _ _ (IsGood c cs) (λ q. quoted-good c cs (closing c false cs) u (quote_low c q) refl) (λ _. plain-good c cs u)

number_low : (c d : ℕ) → (c == d) ≡ true → d < 128 → c < 128
number_low c d e h = let f = eqb-true c d e in omega arith

less-good : (c : ℕ) (cs : List ℕ) → IsUtf8 (c ∷ cs) → c < 128 → IsGood c cs (after_less cs)
less-good c [] u low = of_one-good c [] Lone u low (λ e. cc)
less-good c (d ∷ ds) u low =
    cond_both (d == 60) _ _ (IsGood c (d ∷ ds)) (λ e. of_two-good c d ds _ u (number_low d 60 e (lit< tt)) (λ f. cc))
    (λ _. cond_both (d == 61) _ _ (IsGood c (d ∷ ds)) (λ e. of_two-good c d ds _ u (number_low d 61 e (lit< tt)) (λ f. cc)) (λ _. of_one-good c (d ∷ ds) Lone u low (λ e. cc)))

greater-good : (c : ℕ) (cs : List ℕ) → IsUtf8 (c ∷ cs) → c < 128 → IsGood c cs (after_greater cs)
greater-good c [] u low = of_one-good c [] Lone u low (λ e. cc)
greater-good c (d ∷ ds) u low =
    cond_both (d == 61) _ _ (IsGood c (d ∷ ds)) (λ e. of_two-good c d ds _ u (number_low d 61 e (lit< tt)) (λ f. cc))
    (λ _. cond_both (d == 62) _ _ (IsGood c (d ∷ ds)) (λ e. of_two-good c d ds _ u (number_low d 62 e (lit< tt)) (λ f. cc)) (λ _. of_one-good c (d ∷ ds) Lone u low (λ e. cc)))

opening-good : (c : ℕ) (cs : List ℕ) → IsUtf8 (c ∷ cs) → IsGood c cs (opening_cut c cs)
unfolding opening_cut
opening-good c cs u =
    cond_both (c == 61) _ _ (IsGood c cs) (λ e. of_one-good c cs _ u (number_low c 61 e (lit< tt)) (λ f. cc))
    (λ _. cond_both (c == 37) _ _ (IsGood c cs) (λ e. of_one-good c cs _ u (number_low c 37 e (lit< tt)) (λ f. cc))
    (λ _. cond_both (c == 126) _ _ (IsGood c cs) (λ e. of_one-good c cs _ u (number_low c 126 e (lit< tt)) (λ f. cc))
    (λ _. cond_both (c == 60) _ _ (IsGood c cs) (λ e. less-good c cs u (number_low c 60 e (lit< tt)))
    (λ _. cond_both (c == 62) _ _ (IsGood c cs) (λ e. greater-good c cs u (number_low c 62 e (lit< tt)))
    (λ _. inner-good c cs u)))))

-- a text may be cut behind its first piece
pub first_cut-good : (place : Place) (c : ℕ) (cs : List ℕ) → IsUtf8 (c ∷ cs) → IsGood c cs (first_cut place c cs)
first_cut-good Outside c cs u = plain-good c cs u
first_cut-good BehindWord c cs u = plain-good c cs u
first_cut-good Opening c cs u = opening-good c cs u
first_cut-good Inside c cs u = inner-good c cs u
