-- Words in the order of their bytes.
use Rattle.std.proofs.Common.{◌≡◌, ℕ, suc, zero, ◌+◌, ◌<◌, length, take, drop, get_or, arith, Bool, true, false, cond, ◌||◌, ◌&&◌, not, List, [], ◌∷◌, ◌++◌, map, refl, ap, sym, ◌∙◌, subst}
use Rattle.std.specs.List.{list_any, list_all}
use Rattle.std.specs.Str.{bytes_eq}
use Rattle.std.specs.Ordering.{nat_cmp, is_eq, match_ordering, ordering_reverse}
use Rattle.std.specs.declared.cmp.Ordering.{Ordering}
use Rattle.std.specs.declared.cmp.Ordering.TheVariants.{Less, Equal, Greater}
use Rattle.std.specs.Cmp.Lexicographic.{slice_cmp}
use Rattle.std.specs.BTreeSet.{insert_key}
use Rattle.std.proofs.lemmas.Cmp.{nat_list_cmp_total}
use Rattle.std.proofs.lemmas.Map.Text.{is_eq-slice_cmp}
use Rattle.std.proofs.lemmas.Slice.Eq.{bytes_eq-Decides}
use Rattle.package_list.proofs.Gathers.{has_is_any}
use Rattle.package_list.specs.Sorted.{put, placed, union, IsAscending, IsBelow}
use Rattle.package_list.proofs.Gathers.{union_push, any_union}
use Rattle.package_list.proofs.SortedLemmas.{union_ascending, below_more, turned}
use Rattle.release_file.specs.Release.{AreNamesOf, has_text, are_different}

abbrev pub text_cmp : List ℕ → List ℕ → Ordering
text_cmp = slice_cmp nat_cmp

-- a key comes to its place
pub key_is_put : (xs : List (List ℕ)) (p : List ℕ) → insert_key text_cmp xs p ≡ put text_cmp xs p
key_is_put [] p = refl
key_is_put (x ∷ xs) p = by_order (text_cmp p x) refl (key_is_put xs p)
  where
    by_order : (t : Ordering) → text_cmp p x ≡ t → insert_key text_cmp xs p ≡ put text_cmp xs p → match_ordering t (p ∷ x ∷ xs) (x ∷ xs) (x ∷ insert_key text_cmp xs p) ≡ placed text_cmp (text_cmp x p) x p xs (put text_cmp xs p)
    by_order Less e more = ap (λ r. placed text_cmp r x p xs (put text_cmp xs p)) (sym (nat_list_cmp_total.antisymm x p ∙ ap ordering_reverse e))
    by_order Equal e more = ap (λ r. placed text_cmp r x p xs (put text_cmp xs p)) (sym (nat_list_cmp_total.antisymm x p ∙ ap ordering_reverse e))
    by_order Greater e more = ap (λ l. x ∷ l) more ∙ ap (λ r. placed text_cmp r x p xs (put text_cmp xs p)) (sym (nat_list_cmp_total.antisymm x p ∙ ap ordering_reverse e))

-- one more key in a set
pub one_key : (keys more before : List (List ℕ)) (p : List ℕ) → more ≡ insert_key text_cmp keys p → keys ≡ union text_cmp [] before → more ≡ union text_cmp [] (before ++ p ∷ [])
one_key keys more before p m k = m ∙ ap (λ ks. insert_key text_cmp ks p) k ∙ key_is_put (union text_cmp [] before) p ∙ sym (union_push text_cmp [] before p)

-- ---- a list and one of its places
next_suc : {X : Type 0} (xs : List X) (i : ℕ) (x : X) → i < length xs → x ≡ get_or xs i x → take (suc i) xs ≡ take i xs ++ x ∷ []
next_suc [] i x lt e = absurd (omega (lt, arith))
next_suc (y ∷ ys) zero x lt e = ap (λ z. z ∷ []) (sym e)
next_suc (y ∷ ys) (suc i) x lt e = ap (λ l. y ∷ l) (next_suc ys i x (omega (lt, arith)) e)

one_behind : (i : ℕ) → i + 1 ≡ suc i
one_behind i = omega arith

-- one more from the front
pub next_is : {X : Type 0} (xs : List X) (i : ℕ) (x : X) → i < length xs → x ≡ get_or xs i x → take (i + 1) xs ≡ take i xs ++ x ∷ []
next_is xs i x lt e = ap (λ n. take n xs) (one_behind i) ∙ next_suc xs i x lt e

-- what stands before and behind a place
pub cut_at : {X : Type 0} (xs : List X) (i : ℕ) (x : X) → i < length xs → x ≡ get_or xs i x → take i xs ++ x ∷ drop (suc i) xs ≡ xs
cut_at [] i x lt e = absurd (omega (lt, arith))
cut_at (y ∷ ys) zero x lt e = ap (λ z. z ∷ ys) e
cut_at (y ∷ ys) (suc i) x lt e = ap (λ l. y ∷ l) (cut_at ys i x (omega (lt, arith)) e)

-- ---- names
turned_eq : (t : Ordering) → is_eq (ordering_reverse t) ≡ is_eq t
turned_eq Less = refl
turned_eq Equal = refl
turned_eq Greater = refl

alike : (p x y : List ℕ) → text_cmp x y ≡ Equal → is_eq (text_cmp p x) ≡ is_eq (text_cmp p y)
alike p x y e = ap is_eq (nat_list_cmp_total.antisymm p x) ∙ turned_eq (text_cmp x p) ∙ ap is_eq (nat_list_cmp_total.congr x y p e) ∙ sym (turned_eq (text_cmp y p)) ∙ sym (ap is_eq (nat_list_cmp_total.antisymm p y))

same_alike : (t x y : List ℕ) → text_cmp x y ≡ Equal → bytes_eq x t ≡ bytes_eq y t
same_alike t x y e = sym (is_eq-slice_cmp x t) ∙ ap is_eq (nat_list_cmp_total.congr x y t e) ∙ is_eq-slice_cmp y t

-- the words in order are those words
pub names_are : (is : List ℕ → Bool) (ws names : List (List ℕ)) → list_all is ws ≡ true → names ≡ union text_cmp [] ws → AreNamesOf is ws names
names_are is ws names g e = record {
  good = g;
  sorted = subst (IsAscending text_cmp) (sym e) (union_ascending nat_list_cmp_total [] ws tt);
  same = λ t. ap (λ ns. has_text ns t) e ∙ any_union {R = text_cmp} (λ x. bytes_eq x t) (same_alike t) [] ws;
}

-- ---- none twice
-- what the set says of a key
pub among : (keys before : List (List ℕ)) (p : List ℕ) → keys ≡ union text_cmp [] before → list_any (λ q. is_eq (text_cmp p q)) keys ≡ list_any (λ q. bytes_eq p q) before
among keys before p e =
    ap (list_any (λ q. is_eq (text_cmp p q))) e ∙ any_union {R = text_cmp} (λ q. is_eq (text_cmp p q)) (alike p) [] before
    ∙ ap (λ f. list_any f before) (λ i q. is_eq-slice_cmp p q i)

bytes_turned : (p q : List ℕ) → bytes_eq p q ≡ bytes_eq q p
bytes_turned p q = sym (is_eq-slice_cmp p q) ∙ ap is_eq (nat_list_cmp_total.antisymm p q) ∙ turned_eq (text_cmp q p) ∙ is_eq-slice_cmp q p

any_append : (f : List ℕ → Bool) (xs ys : List (List ℕ)) → list_any f (xs ++ ys) ≡ (list_any f xs || list_any f ys)
any_append f [] ys = refl
any_append f (x ∷ xs) ys = by_test (f x) (any_append f xs ys)
  where
    by_test : (b : Bool) → list_any f (xs ++ ys) ≡ (list_any f xs || list_any f ys) → (b || list_any f (xs ++ ys)) ≡ ((b || list_any f xs) || list_any f ys)
    by_test true h = refl
    by_test false h = h

-- a text that stands there already
pub twice : (before after : List (List ℕ)) (p : List ℕ) → list_any (λ q. bytes_eq p q) before ≡ true → are_different (before ++ p ∷ after) ≡ false
twice [] after p h = cc
twice (x ∷ xs) after p h = by_test (bytes_eq p x) refl h (twice xs after p)
  where
    by_test : (b : Bool) → bytes_eq p x ≡ b → (b || list_any (λ q. bytes_eq p q) xs) ≡ true → (list_any (λ q. bytes_eq p q) xs ≡ true → are_different (xs ++ p ∷ after) ≡ false) → (not (list_any (bytes_eq x) (xs ++ p ∷ after)) && are_different (xs ++ p ∷ after)) ≡ false
    by_test true e g more = ap (λ b. not b && are_different (xs ++ p ∷ after)) (any_append (bytes_eq x) xs (p ∷ after) ∙ ap (λ b. list_any (bytes_eq x) xs || (b || list_any (bytes_eq x) after)) (bytes_turned x p ∙ e) ∙ or_true (list_any (bytes_eq x) xs))
      where
        or_true : (b : Bool) → (b || true) ≡ true
        or_true true = refl
        or_true false = refl
    by_test false e g more = ap (λ b. not (list_any (bytes_eq x) (xs ++ p ∷ after)) && b) (more g) ∙ and_false (not (list_any (bytes_eq x) (xs ++ p ∷ after)))
      where
        and_false : (b : Bool) → (b && false) ≡ false
        and_false true = refl
        and_false false = refl

-- a new one at the end
pub once_more : (before : List (List ℕ)) (p : List ℕ) → are_different before ≡ true → list_any (λ q. bytes_eq p q) before ≡ false → are_different (before ++ p ∷ []) ≡ true
once_more [] p d h = refl
once_more (x ∷ xs) p d h = by_test (list_any (bytes_eq x) xs) refl (bytes_eq p x) refl d h (once_more xs p)
  where
    by_test : (a : Bool) → list_any (bytes_eq x) xs ≡ a → (b : Bool) → bytes_eq p x ≡ b → (not a && are_different xs) ≡ true → (b || list_any (λ q. bytes_eq p q) xs) ≡ false → (are_different xs ≡ true → list_any (λ q. bytes_eq p q) xs ≡ false → are_different (xs ++ p ∷ []) ≡ true) → (not (list_any (bytes_eq x) (xs ++ p ∷ [])) && are_different (xs ++ p ∷ [])) ≡ true
    by_test true a b e d h more = cc
    by_test false a true e d h more = cc
    by_test false a false e d h more =
        ap (λ c. not c && are_different (xs ++ p ∷ [])) (any_append (bytes_eq x) xs (p ∷ []) ∙ (λ i. a i || (bytes_turned x p i || false)) ∙ ap (λ c. c || false) e)
        ∙ more d h

-- ---- one list of names alone
itself : (x : List ℕ) → bytes_eq x x ≡ true
itself x = (bytes_eq-Decides x x).1 refl

less_apart : (x y : List ℕ) → text_cmp x y ≡ Less → bytes_eq y x ≡ false
less_apart x y l = bytes_turned y x ∙ sym (is_eq-slice_cmp x y) ∙ ap is_eq l

none_below : (x : List ℕ) (ys : List (List ℕ)) → IsBelow text_cmp x ys → has_text ys x ≡ false
none_below x [] h = refl
none_below x (y ∷ ys) h = ap (λ b. b || has_text ys x) (less_apart x y h.0) ∙ none_below x ys h.1

not_less : (x : List ℕ) (xs : List (List ℕ)) (y : List ℕ) (ys : List (List ℕ)) → IsBelow text_cmp y ys → ((t : List ℕ) → has_text (x ∷ xs) t ≡ has_text (y ∷ ys) t) → text_cmp x y ≡ Less → ⊥
not_less x xs y ys b s l =
    let there : has_text (x ∷ xs) x ≡ true = ap (λ c. c || has_text xs x) (itself x) in
    let absent : has_text (y ∷ ys) x ≡ false = none_below x (y ∷ ys) (l, below_more nat_list_cmp_total x y ys l b) in
    let no : true ≡ false = sym there ∙ s x ∙ absent in cc

first_same : (x : List ℕ) (xs : List (List ℕ)) (y : List ℕ) (ys : List (List ℕ)) → IsAscending text_cmp (x ∷ xs) → IsAscending text_cmp (y ∷ ys) → ((t : List ℕ) → has_text (x ∷ xs) t ≡ has_text (y ∷ ys) t) → x ≡ y
first_same x xs y ys h g s = by_order (text_cmp x y) refl
  where
    by_order : (r : Ordering) → text_cmp x y ≡ r → x ≡ y
    by_order Less e = absurd (not_less x xs y ys g.0 s e)
    by_order Equal e = (bytes_eq-Decides x y).0 (sym (is_eq-slice_cmp x y) ∙ ap is_eq e)
    by_order Greater e = absurd (not_less y ys x xs h.0 (λ t. sym (s t)) (turned nat_list_cmp_total x y e))

tails_same : (x : List ℕ) (xs ys : List (List ℕ)) → IsBelow text_cmp x xs → IsBelow text_cmp x ys → ((t : List ℕ) → has_text (x ∷ xs) t ≡ has_text (x ∷ ys) t) → (t : List ℕ) → has_text xs t ≡ has_text ys t
tails_same x xs ys h g s t = by_test (bytes_eq x t) refl (s t)
  where
    by_test : (b : Bool) → bytes_eq x t ≡ b → (b || has_text xs t) ≡ (b || has_text ys t) → has_text xs t ≡ has_text ys t
    by_test false e w = w
    by_test true e w = let same = (bytes_eq-Decides x t).0 e in ap (has_text xs) (sym same) ∙ none_below x xs h ∙ sym (none_below x ys g) ∙ ap (has_text ys) same

one_order : (xs ys : List (List ℕ)) → IsAscending text_cmp xs → IsAscending text_cmp ys → ((t : List ℕ) → has_text xs t ≡ has_text ys t) → xs ≡ ys
one_order [] [] h g s = refl
one_order [] (y ∷ ys) h g s = let no : false ≡ true = s y ∙ ap (λ c. c || has_text ys y) (itself y) in cc
one_order (x ∷ xs) [] h g s = let no : false ≡ true = sym (s x) ∙ ap (λ c. c || has_text xs x) (itself x) in cc
one_order (x ∷ xs) (y ∷ ys) h g s =
    let e = first_same x xs y ys h g s in
    let below = subst (λ z. IsBelow text_cmp z ys) (sym e) g.0 in
    let rest = one_order xs ys h.1 g.1 (tails_same x xs ys h.0 below (λ t. s t ∙ ap (λ z. has_text (z ∷ ys) t) (sym e))) in
    (λ i. e i ∷ rest i)

pub one_names : (is : List ℕ → Bool) (ws xs ys : List (List ℕ)) → AreNamesOf is ws xs → AreNamesOf is ws ys → xs ≡ ys
one_names is ws xs ys a b = one_order xs ys a.sorted b.sorted (λ t. a.same t ∙ sym (b.same t))
