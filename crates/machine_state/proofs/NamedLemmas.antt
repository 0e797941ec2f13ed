-- Lists by name: what is dropped, put, changed and renamed.
use Rattle.std.proofs.Common.{◌≡◌, ℕ, zero, suc, ◌<◌, ◌≤◌, Bool, true, false, cond, not, List, [], ◌∷◌, length, get_or, Option, Some, None, is_some, Result, Ok, Err, IsTrue, refl, sym, ap, ◌∙◌, subst, arith, Ordering, Less, Equal, Greater, true≢false}
use Rattle.std.specs.Prelude.{option_map}
use Rattle.std.specs.List.{insert, remove, slice_set}
use Rattle.std.specs.List.Sorted.{IsBinarySearchResult, IsPartitionPoint}
use Rattle.std.specs.Ordering.{is_eq}
use Rattle.std.specs.Cmp.{IsTotalOrder}
use Rattle.std.specs.Str.{bytes_eq}
use Rattle.std.proofs.lemmas.Cmp.{nat_list_cmp_total, on_total}
use Rattle.std.proofs.lemmas.Map.Text.{is_eq-slice_cmp}
use Rattle.std.proofs.lemmas.Slice.Eq.{bytes_eq-Decides}
use Rattle.machine_state.specs.Ascending.{IsBelow, IsAscending, placed, put}
use Rattle.machine_state.specs.Named.{changed, dropped, name_cmp, named, named_cmp, put_some, renamed}
use Rattle.machine_state.proofs.AscendingLemmas.{below_at, below_more, put_at, turned}
use Rattle.machine_state.proofs.KeyLemmas.{found, nowhere, rises_by_key}

module _ {X : Type 0} (name_of : X → List ℕ) where
  pub named_total : IsTotalOrder (named_cmp name_of)
  named_total = on_total name_of nat_list_cmp_total

  -- the test of a name
  abbrev pub has : List ℕ → X → Bool
  has name x = bytes_eq (name_of x) name

  -- two in order have not one name
  pub not_both : (x y : X) (name : List ℕ) → named_cmp name_of x y ≡ Less → has name x ≡ true → has name y ≡ true → ⊥
  not_both x y name l e f =
      let same = (bytes_eq-Decides (name_of x) name).0 e ∙ sym ((bytes_eq-Decides (name_of y) name).0 f) in
      true≢false (sym ((bytes_eq-Decides (name_of x) (name_of y)).1 same) ∙ sym (is_eq-slice_cmp (name_of x) (name_of y)) ∙ ap is_eq l)

  pub later_differs : (x y : X) (name : List ℕ) → named_cmp name_of x y ≡ Less → has name x ≡ true → has name y ≡ false
  later_differs x y name l e = by_test (has name y) refl
    where
      by_test : (b : Bool) → has name y ≡ b → has name y ≡ false
      by_test true f = absurd (not_both x y name l e f)
      by_test false f = f

  earlier_differs : (x y : X) (name : List ℕ) → named_cmp name_of x y ≡ Less → has name y ≡ true → has name x ≡ false
  earlier_differs x y name l f = by_test (has name x) refl
    where
      by_test : (b : Bool) → has name x ≡ b → has name x ≡ false
      by_test true e = absurd (not_both x y name l e f)
      by_test false e = e

  -- behind the one of that name none has it
  pub none_behind : (x : X) (xs : List X) (name : List ℕ) → IsBelow (named_cmp name_of) x xs → has name x ≡ true → named name_of name xs ≡ None
  none_behind x [] name b e = refl
  none_behind x (y ∷ ys) name b e = ap (λ t. cond t (Some y) (named name_of name ys)) (later_differs x y name b.0 e) ∙ none_behind x ys name b.1 e

  -- ---- dropped
  pub dropped_none : (name : List ℕ) (xs : List X) → named name_of name xs ≡ None → dropped name_of name xs ≡ xs
  dropped_none name [] h = refl
  dropped_none name (x ∷ xs) h = by_test (has name x) h (dropped_none name xs)
    where
      by_test : (b : Bool) → cond b (Some x) (named name_of name xs) ≡ None → (named name_of name xs ≡ None → dropped name_of name xs ≡ xs) → cond (not b) (x ∷ dropped name_of name xs) (dropped name_of name xs) ≡ x ∷ xs
      by_test true h more = cc
      by_test false h more = ap (λ l. x ∷ l) (more h)

  pub dropped_at : (name : List ℕ) (xs : List X) (i : ℕ) (d : X) → IsAscending (named_cmp name_of) xs → i < length xs → has name (get_or xs i d) ≡ true → dropped name_of name xs ≡ remove xs i
  dropped_at name [] i d a l e = absurd (omega arith)
  dropped_at name (x ∷ xs) zero d a l e = ap (λ t. cond (not t) (x ∷ dropped name_of name xs) (dropped name_of name xs)) e ∙ dropped_none name xs (none_behind x xs name a.0 e)
  dropped_at name (x ∷ xs) (suc i) d a l e =
      ap (λ t. cond (not t) (x ∷ dropped name_of name xs) (dropped name_of name xs)) (earlier_differs x (get_or xs i d) name (below_at named_total x xs i d a.0 (omega arith)) e)
      ∙ ap (λ (l : List X). x ∷ l) (dropped_at name xs i d a.1 (omega arith) e)

  -- none of that name is left
  pub dropped_gone : (name : List ℕ) (xs : List X) → named name_of name (dropped name_of name xs) ≡ None
  dropped_gone name [] = refl
  dropped_gone name (x ∷ xs) = by_test (has name x) refl (dropped_gone name xs)
    where
      by_test : (b : Bool) → has name x ≡ b → named name_of name (dropped name_of name xs) ≡ None → named name_of name (cond (not b) (x ∷ dropped name_of name xs) (dropped name_of name xs)) ≡ None
      by_test true e more = more
      by_test false e more = ap (λ t. cond t (Some x) (named name_of name (dropped name_of name xs))) e ∙ more

  -- those of other names are
  pub dropped_keeps : (name other : List ℕ) (xs : List X) → bytes_eq other name ≡ false → IsTrue (is_some (named name_of other xs)) → IsTrue (is_some (named name_of other (dropped name_of name xs)))
  dropped_keeps name other [] apart h = h
  dropped_keeps name other (x ∷ xs) apart h = by_test (has name x) (has other x) refl refl h (dropped_keeps name other xs apart)
    where
      both : has name x ≡ true → has other x ≡ true → ⊥
      both e f =
          let same = sym ((bytes_eq-Decides (name_of x) other).0 f) ∙ (bytes_eq-Decides (name_of x) name).0 e in
          true≢false (sym ((bytes_eq-Decides other name).1 same) ∙ apart)

      by_test : (b c : Bool) → has name x ≡ b → has other x ≡ c → IsTrue (is_some (cond c (Some x) (named name_of other xs)))
          → (IsTrue (is_some (named name_of other xs)) → IsTrue (is_some (named name_of other (dropped name_of name xs))))
          → IsTrue (is_some (named name_of other (cond (not b) (x ∷ dropped name_of name xs) (dropped name_of name xs))))
      by_test true true e f h more = absurd (both e f)
      by_test true false e f h more = more h
      by_test false true e f h more = subst (λ t. IsTrue (is_some (cond t (Some x) (named name_of other (dropped name_of name xs))))) (sym f) refl
      by_test false false e f h more = subst (λ t. IsTrue (is_some (cond t (Some x) (named name_of other (dropped name_of name xs))))) (sym f) (more h)

  pub length_dropped : (name : List ℕ) (xs : List X) → length (dropped name_of name xs) ≤ length xs
  length_dropped name [] = omega arith
  length_dropped name (x ∷ xs) = by_test (has name x) (length_dropped name xs)
    where
      by_test : (b : Bool) → length (dropped name_of name xs) ≤ length xs → length (cond (not b) (x ∷ dropped name_of name xs) (dropped name_of name xs)) ≤ suc (length xs)
      by_test true h = omega arith
      by_test false h = omega arith

  pub fewer_dropped : (name : List ℕ) (xs : List X) (y : X) → named name_of name xs ≡ Some y → length (dropped name_of name xs) < length xs
  fewer_dropped name [] y h = cc
  fewer_dropped name (x ∷ xs) y h = by_test (has name x) h (length_dropped name xs) (fewer_dropped name xs y)
    where
      by_test : (b : Bool) → cond b (Some x) (named name_of name xs) ≡ Some y → length (dropped name_of name xs) ≤ length xs → (named name_of name xs ≡ Some y → length (dropped name_of name xs) < length xs)
          → length (cond (not b) (x ∷ dropped name_of name xs) (dropped name_of name xs)) < suc (length xs)
      by_test true h le more = omega (arith, le)
      by_test false h le more = let m = more h in omega (arith, m)

  -- ---- put
  pub put_there : (x : X) (xs : List X) (y : X) → IsAscending (named_cmp name_of) xs → named name_of (name_of x) xs ≡ Some y → put (named_cmp name_of) x xs ≡ xs
  put_there x [] y a h = cc
  put_there x (z ∷ zs) y a h = by_order (named_cmp name_of x z) refl (λ g. put_there x zs y a.1 g)
    where
      is_same : (b : Bool) → has (name_of x) z ≡ b → cond b (Some z) (named name_of (name_of x) zs) ≡ Some y → named_cmp name_of x z ≡ Less → ⊥
      is_same true e g l = not_both x z (name_of x) l ((bytes_eq-Decides (name_of x) (name_of x)).1 refl) e
      is_same false e g l =
          let none = none_behind x zs (name_of x) (below_more named_total x z zs l a.0) ((bytes_eq-Decides (name_of x) (name_of x)).1 refl) in
          let no : None ≡ Some y = sym none ∙ g in cc

      is_later : named_cmp name_of x z ≡ Greater → named name_of (name_of x) zs ≡ Some y
      is_later g =
          let apart : has (name_of x) z ≡ false = sym (is_eq-slice_cmp (name_of z) (name_of x)) ∙ ap is_eq (turned named_total x z Greater g) in
          sym (ap (λ t. cond t (Some z) (named name_of (name_of x) zs)) apart) ∙ h

      by_order : (o : Ordering) → named_cmp name_of x z ≡ o → (named name_of (name_of x) zs ≡ Some y → put (named_cmp name_of) x zs ≡ zs) → placed (named_cmp name_of) o x z zs (put (named_cmp name_of) x zs) ≡ z ∷ zs
      by_order Less l more = absurd (is_same (has (name_of x) z) refl h l)
      by_order Equal l more = refl
      by_order Greater l more = ap (λ (l : List X). z ∷ l) (more (is_later l))

  -- it is there then
  pub put_has : (x : X) (xs : List X) → IsTrue (is_some (named name_of (name_of x) (put (named_cmp name_of) x xs)))
  put_has x [] = ap (λ t. is_some (cond t (Some x) None)) ((bytes_eq-Decides (name_of x) (name_of x)).1 refl)
  put_has x (y ∷ ys) = by_order (named_cmp name_of x y) refl (put_has x ys)
    where
      same : named_cmp name_of x y ≡ Equal → has (name_of x) y ≡ true
      same e = sym (is_eq-slice_cmp (name_of y) (name_of x)) ∙ ap is_eq (turned named_total x y Equal e)

      whether : (b : Bool) (z : X) (rest : List X) → IsTrue (is_some (named name_of (name_of x) rest)) → IsTrue (is_some (cond b (Some z) (named name_of (name_of x) rest)))
      whether true z rest h = refl
      whether false z rest h = h

      by_order : (o : Ordering) → named_cmp name_of x y ≡ o → IsTrue (is_some (named name_of (name_of x) (put (named_cmp name_of) x ys)))
          → IsTrue (is_some (named name_of (name_of x) (placed (named_cmp name_of) o x y ys (put (named_cmp name_of) x ys))))
      by_order Less e more = ap (λ t. is_some (cond t (Some x) (named name_of (name_of x) (y ∷ ys)))) ((bytes_eq-Decides (name_of x) (name_of x)).1 refl)
      by_order Equal e more = ap (λ t. is_some (cond t (Some y) (named name_of (name_of x) ys))) (same e)
      by_order Greater e more = whether (has (name_of x) y) y (put (named_cmp name_of) x ys) more

  -- and all that were
  pub put_keeps : (x : X) (xs : List X) (name : List ℕ) → IsTrue (is_some (named name_of name xs)) → IsTrue (is_some (named name_of name (put (named_cmp name_of) x xs)))
  put_keeps x [] name h = absurd (let no : false ≡ true = h in cc)
  put_keeps x (y ∷ ys) name h = by_order (named_cmp name_of x y) (put_keeps x ys name)
    where
      whether : (b : Bool) (z : X) (rest : List X) → IsTrue (is_some (named name_of name rest)) → IsTrue (is_some (cond b (Some z) (named name_of name rest)))
      whether true z rest h = refl
      whether false z rest h = h

      by_test : (b : Bool) (rest : List X) → IsTrue (is_some (cond b (Some y) (named name_of name ys))) → (IsTrue (is_some (named name_of name ys)) → IsTrue (is_some (named name_of name rest))) → IsTrue (is_some (cond b (Some y) (named name_of name rest)))
      by_test true rest h more = refl
      by_test false rest h more = more h

      by_order : (o : Ordering) → (IsTrue (is_some (named name_of name ys)) → IsTrue (is_some (named name_of name (put (named_cmp name_of) x ys))))
          → IsTrue (is_some (named name_of name (placed (named_cmp name_of) o x y ys (put (named_cmp name_of) x ys))))
      by_order Less more = whether (has name x) x (y ∷ ys) h
      by_order Equal more = h
      by_order Greater more = by_test (has name y) (put (named_cmp name_of) x ys) h more

  -- ---- what is found
  pub named_has : (name : List ℕ) (xs : List X) (y : X) → named name_of name xs ≡ Some y → name_of y ≡ name
  named_has name [] y h = cc
  named_has name (x ∷ xs) y h = by_test (has name x) refl h (named_has name xs y)
    where
      by_test : (b : Bool) → has name x ≡ b → cond b (Some x) (named name_of name xs) ≡ Some y → (named name_of name xs ≡ Some y → name_of y ≡ name) → name_of y ≡ name
      by_test true e g more = let s : x ≡ y = cc in sym (ap name_of s) ∙ (bytes_eq-Decides (name_of x) name).0 e
      by_test false e g more = more g

  -- ---- changed
  pub changed_none : (name : List ℕ) (change : X → X) (xs : List X) → named name_of name xs ≡ None → changed name_of name change xs ≡ xs
  changed_none name change [] h = refl
  changed_none name change (x ∷ xs) h = by_test (has name x) h (changed_none name change xs)
    where
      by_test : (b : Bool) → cond b (Some x) (named name_of name xs) ≡ None → (named name_of name xs ≡ None → changed name_of name change xs ≡ xs) → cond b (change x) x ∷ changed name_of name change xs ≡ x ∷ xs
      by_test true h more = cc
      by_test false h more = ap (λ (l : List X). x ∷ l) (more h)

  pub changed_at : (name : List ℕ) (change : X → X) (xs : List X) (i : ℕ) (d : X) → IsAscending (named_cmp name_of) xs → i < length xs → has name (get_or xs i d) ≡ true → changed name_of name change xs ≡ slice_set xs i (change (get_or xs i d))
  changed_at name change [] i d a l e = absurd (omega arith)
  changed_at name change (x ∷ xs) zero d a l e = ap (λ t. cond t (change x) x ∷ changed name_of name change xs) e ∙ ap (λ (l : List X). change x ∷ l) (changed_none name change xs (none_behind x xs name a.0 e))
  changed_at name change (x ∷ xs) (suc i) d a l e =
      ap (λ t. cond t (change x) x ∷ changed name_of name change xs) (earlier_differs x (get_or xs i d) name (below_at named_total x xs i d a.0 (omega arith)) e)
      ∙ ap (λ (l : List X). x ∷ l) (changed_at name change xs i d a.1 (omega arith) e)

  -- what is changed into itself stays
  pub changed_same : (name : List ℕ) (change : X → X) (xs : List X) (y : X) → IsAscending (named_cmp name_of) xs → named name_of name xs ≡ Some y → change y ≡ y → changed name_of name change xs ≡ xs
  changed_same name change [] y a h e = refl
  changed_same name change (x ∷ xs) y a h e = by_test (has name x) refl h (changed_same name change xs y a.1)
    where
      by_test : (b : Bool) → has name x ≡ b → cond b (Some x) (named name_of name xs) ≡ Some y → (named name_of name xs ≡ Some y → change y ≡ y → changed name_of name change xs ≡ xs) → cond b (change x) x ∷ changed name_of name change xs ≡ x ∷ xs
      by_test true f g more =
          let s : x ≡ y = cc in
          ap (λ (z : X). z ∷ changed name_of name change xs) (ap change s ∙ e ∙ sym s) ∙ ap (λ (l : List X). x ∷ l) (changed_none name change xs (none_behind x xs name a.0 f))
      by_test false f g more = ap (λ (l : List X). x ∷ l) (more g e)

  pub changed_name : (name : List ℕ) (change : X → X) → ((x : X) → name_of (change x) ≡ name_of x) → (x : X) → name_of (cond (has name x) (change x) x) ≡ name_of x
  changed_name name change same x = by_test (has name x)
    where
      by_test : (b : Bool) → name_of (cond b (change x) x) ≡ name_of x
      by_test true = same x
      by_test false = refl

  -- that of the name is changed
  pub named_changed : (name : List ℕ) (change : X → X) → ((x : X) → name_of (change x) ≡ name_of x) → (xs : List X) → named name_of name (changed name_of name change xs) ≡ option_map change (named name_of name xs)
  named_changed name change same [] = refl
  named_changed name change same (x ∷ xs) = by_test (has name x) refl (named_changed name change same xs)
    where
      by_test : (b : Bool) → has name x ≡ b → named name_of name (changed name_of name change xs) ≡ option_map change (named name_of name xs)
          → named name_of name (cond b (change x) x ∷ changed name_of name change xs) ≡ option_map change (cond b (Some x) (named name_of name xs))
      by_test true e more = ap (λ t. cond t (Some (change x)) (named name_of name (changed name_of name change xs))) (ap (λ (n : List ℕ). bytes_eq n name) (same x) ∙ e)
      by_test false e more = ap (λ t. cond t (Some x) (named name_of name (changed name_of name change xs))) e ∙ more

  -- and all are there still
  pub changed_keeps : (name : List ℕ) (change : X → X) → ((x : X) → name_of (change x) ≡ name_of x) → (other : List ℕ) (xs : List X) → IsTrue (is_some (named name_of other xs)) → IsTrue (is_some (named name_of other (changed name_of name change xs)))
  changed_keeps name change same other [] h = h
  changed_keeps name change same other (x ∷ xs) h = by_test (has other x) refl h (changed_keeps name change same other xs)
    where
      now : X
      now = cond (has name x) (change x) x

      by_test : (b : Bool) → has other x ≡ b → IsTrue (is_some (cond b (Some x) (named name_of other xs)))
          → (IsTrue (is_some (named name_of other xs)) → IsTrue (is_some (named name_of other (changed name_of name change xs))))
          → IsTrue (is_some (cond (has other now) (Some now) (named name_of other (changed name_of name change xs))))
      by_test true e h more = ap (λ t. is_some (cond t (Some now) (named name_of other (changed name_of name change xs)))) (ap (λ (n : List ℕ). bytes_eq n other) (changed_name name change same x) ∙ e)
      by_test false e h more =
          subst (λ t. IsTrue (is_some (cond t (Some now) (named name_of other (changed name_of name change xs))))) (sym (ap (λ (n : List ℕ). bytes_eq n other) (changed_name name change same x) ∙ e)) (more h)

  -- ---- renamed
  module _ (called : X → List ℕ → X) (called_so : (x : X) (name : List ℕ) → name_of (called x name) ≡ name) (before after : List ℕ) (xs : List X) where
    -- that of the first name has the second
    pub renamed_has : IsTrue (is_some (named name_of before xs)) → IsTrue (is_some (named name_of after (renamed name_of called before after xs)))
    renamed_has = by_found (named name_of before xs)
      where
        by_found : (o : Option X) → IsTrue (is_some o) → IsTrue (is_some (named name_of after (put_some name_of (option_map (λ x. called x after) o) (dropped name_of before xs))))
        by_found None h = absurd (let no : false ≡ true = h in cc)
        by_found (Some x) h = subst (λ (n : List ℕ). IsTrue (is_some (named name_of n (put (named_cmp name_of) (called x after) (dropped name_of before xs))))) (called_so x after) (put_has (called x after) (dropped name_of before xs))

    -- the others are there still
    pub renamed_keeps : (other : List ℕ) → bytes_eq other before ≡ false → IsTrue (is_some (named name_of other xs)) → IsTrue (is_some (named name_of other (renamed name_of called before after xs)))
    renamed_keeps other apart h = by_found (named name_of before xs)
      where
        by_found : (o : Option X) → IsTrue (is_some (named name_of other (put_some name_of (option_map (λ x. called x after) o) (dropped name_of before xs))))
        by_found None = dropped_keeps before other xs apart h
        by_found (Some x) = put_keeps (called x after) (dropped name_of before xs) other (dropped_keeps before other xs apart h)

  -- ---- searched by halves: what is found in a list that is s
  module _ (items s : List X) (same : s ≡ items) (name : List ℕ) (a : IsAscending (named_cmp name_of) items) where
    abbrev pub Answer : Result ℕ ℕ → Type 0
    Answer r = IsBinarySearchResult (λ x. name_cmp name_of x name) s r

    at : (i : ℕ) → Answer (Ok i) → (d : X) → name_cmp name_of (get_or items i d) name ≡ Equal
    at i h d = subst (λ (l : List X). IsBinarySearchResult (λ x. name_cmp name_of x name) l (Ok i)) same h d

    inside : (i : ℕ) → i < length s → i < length items
    inside i l = subst (λ (l : List X). i < length l) same l

    hit : (i : ℕ) → Answer (Ok i) → (d : X) → has name (get_or items i d) ≡ true
    hit i h d = sym (is_eq-slice_cmp (name_of (get_or items i d)) name) ∙ ap is_eq (at i h d)

    pub hit_named : (i : ℕ) → i < length s → Answer (Ok i) → (d : X) → named name_of name items ≡ Some (get_or items i d)
    hit_named i l h d = found name_of nat_list_cmp_total bytes_eq is_eq-slice_cmp items i d name a (inside i l) (at i h d)

    pub hit_dropped : (i : ℕ) → i < length s → Answer (Ok i) → X → dropped name_of name items ≡ remove items i
    hit_dropped i l h d = dropped_at name items i d a (inside i l) (hit i h d)

    pub hit_changed : (i : ℕ) (change : X → X) (y : X) → i < length s → Answer (Ok i) → option_map change (named name_of name items) ≡ Some y → changed name_of name change items ≡ slice_set items i y
    hit_changed i change y l h e =
        let g : Some (change (get_or items i y)) ≡ Some y = sym (ap (option_map change) (hit_named i l h y)) ∙ e in
        let f : change (get_or items i y) ≡ y = cc in
        changed_at name change items i y a (inside i l) (hit i h y) ∙ ap (slice_set items i) f

    pub hit_put : (i : ℕ) (x : X) → name ≡ name_of x → i < length s → Answer (Ok i) → put (named_cmp name_of) x items ≡ items
    hit_put i x e l h = put_there x items (get_or items i x) a (subst (λ (n : List ℕ). named name_of n items ≡ Some (get_or items i x)) e (hit_named i l h x))

    parts : (i : ℕ) → Answer (Err i) → IsPartitionPoint (λ x. name_cmp name_of x name ≡ Less) (λ x. name_cmp name_of x name ≡ Greater) items i
    parts i h = subst (λ (l : List X). IsBinarySearchResult (λ x. name_cmp name_of x name) l (Err i)) same h (rises_by_key name_of nat_list_cmp_total bytes_eq is_eq-slice_cmp items name a)

    pub miss_named : (i : ℕ) → Answer (Err i) → named name_of name items ≡ None
    miss_named i h = let p = parts i h in nowhere name_of nat_list_cmp_total bytes_eq is_eq-slice_cmp items i name (λ k d lt. p.0 k d (omega arith) lt) p.1

    pub miss_dropped : (i : ℕ) → Answer (Err i) → dropped name_of name items ≡ items
    miss_dropped i h = dropped_none name items (miss_named i h)

    pub miss_put : (i : ℕ) (x : X) → name ≡ name_of x → i ≤ length s → Answer (Err i) → put (named_cmp name_of) x items ≡ insert items i x
    miss_put i x e l h =
        let p = subst (λ (n : List ℕ). IsPartitionPoint (λ y. name_cmp name_of y n ≡ Less) (λ y. name_cmp name_of y n ≡ Greater) items i) e (parts i h) in
        put_at named_total x items i (subst (λ (l : List X). i ≤ length l) same l) (λ k d lt. p.0 k d (omega arith) lt) p.1
