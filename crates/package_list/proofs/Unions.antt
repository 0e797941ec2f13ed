-- What a union has, and that this says which list it is.
use Rattle.std.proofs.Common.{◌≡◌, ℕ, List, [], ◌∷◌, ◌++◌, take, drop, subst, Bool, true, false, cond, Option, Some, None, refl, sym, ap, ◌∙◌, Ordering, Less, Equal, Greater}
use Rattle.std.specs.Ordering.{is_eq, ordering_reverse}
use Rattle.std.specs.List.{filter}
use Rattle.std.specs.Option.{option_or}
use Rattle.std.specs.Cmp.{IsTotalOrder}
use Rattle.std.proofs.lemmas.Bool.{false≢true, true≢false}
use Rattle.std.proofs.lemmas.List.{take-append-drop}
use Rattle.package_list.specs.Sorted.{IsBelow, IsAscending, AllLess, StartsAt, placed, put, union, equal_of}
use Rattle.package_list.proofs.SortedLemmas.{put_ascending, below_more, turned, ascending_drop}

module _ {X : Type 0} {R : X → X → Ordering} (o : IsTotalOrder R) where
  after : (q x : X) → R q x ≡ Less → R x q ≡ Greater
  after q x h = o.antisymm x q ∙ ap ordering_reverse h

  -- nothing above has an equal of what is below
  none_above : (q : X) (xs : List X) → IsBelow R q xs → equal_of R xs q ≡ None
  none_above q [] b = refl
  none_above q (z ∷ zs) b = rw (after q z b.0) (none_above q zs b.1)

  none_behind : (x q : X) (xs : List X) → R q x ≡ Less → IsBelow R x xs → equal_of R (x ∷ xs) q ≡ None
  none_behind x q xs h b = rw (after q x h) (none_above q xs (below_more o q x xs h b))

  by_cond : (b : Bool) (x : X) (e p : Option X) → cond b (Some x) (option_or e p) ≡ option_or (cond b (Some x) e) p
  by_cond true x e p = refl
  by_cond false x e p = refl

  option_or_none : (e : Option X) → option_or e None ≡ e
  option_or_none None = refl
  option_or_none (Some x) = refl

  option_or_assoc : (a b c : Option X) → option_or (option_or a b) c ≡ option_or a (option_or b c)
  option_or_assoc None b c = refl
  option_or_assoc (Some x) b c = refl

  cond_or : (b : Bool) (y : X) (e : Option X) → option_or (cond b (Some y) None) e ≡ cond b (Some y) e
  cond_or true y e = refl
  cond_or false y e = refl

  -- a put adds y, unless an equal is there
  equal_of_put : (xs : List X) (y q : X) → IsAscending R xs → equal_of R (put R xs y) q ≡ option_or (equal_of R xs q) (equal_of R (y ∷ []) q)
  equal_of_put [] y q a = refl
  equal_of_put (x ∷ xs) y q a = by_order (R x y) refl (equal_of_put xs y q a.1)
    where
      found : (b : Bool) (c : Bool) → b ≡ c → (e : Option X) → cond b (Some x) e ≡ option_or (cond b (Some x) e) (cond c (Some y) None)
      found true c h e = refl
      found false true h e = absurd (false≢true h)
      found false false h e = sym (option_or_none e)

      first : (c : Bool) → is_eq (R y q) ≡ c → R x y ≡ Greater → cond c (Some y) (equal_of R (x ∷ xs) q) ≡ option_or (equal_of R (x ∷ xs) q) (cond c (Some y) None)
      first true h g = ap (λ e. option_or e (Some y)) (sym (none_behind x q xs (below_q h g) a.0))
        where
          is_equal : (r : Ordering) → is_eq r ≡ true → r ≡ Equal
          is_equal Less h = cc
          is_equal Equal h = refl
          is_equal Greater h = cc

          below_q : is_eq (R y q) ≡ true → R x y ≡ Greater → R q x ≡ Less
          below_q h g = sym (o.congr y q x (is_equal (R y q) h)) ∙ turned o x y g
      first false h g = sym (option_or_none (equal_of R (x ∷ xs) q))

      by_order : (r : Ordering) → R x y ≡ r → equal_of R (put R xs y) q ≡ option_or (equal_of R xs q) (equal_of R (y ∷ []) q) → equal_of R (placed R r x y xs (put R xs y)) q ≡ option_or (equal_of R (x ∷ xs) q) (equal_of R (y ∷ []) q)
      by_order Less h more = ap (cond (is_eq (R x q)) (Some x)) more ∙ by_cond (is_eq (R x q)) x (equal_of R xs q) (equal_of R (y ∷ []) q)
      by_order Equal h more = found (is_eq (R x q)) (is_eq (R y q)) (ap is_eq (o.congr x y q h)) (equal_of R xs q)
      by_order Greater h more = first (is_eq (R y q)) refl h

  -- of two equals the union has that of the first list
  pub equal_of_union : (xs ys : List X) (q : X) → IsAscending R xs → equal_of R (union R xs ys) q ≡ option_or (equal_of R xs q) (equal_of R ys q)
  equal_of_union xs [] q a = sym (option_or_none (equal_of R xs q))
  equal_of_union xs (y ∷ ys) q a =
      equal_of_union (put R xs y) ys q (put_ascending o xs y a) ∙ ap (λ e. option_or e (equal_of R ys q)) (equal_of_put xs y q a)
      ∙ option_or_assoc (equal_of R xs q) (equal_of R (y ∷ []) q) (equal_of R ys q) ∙ ap (option_or (equal_of R xs q)) (cond_or (is_eq (R y q)) y (equal_of R ys q))

  -- the equal of y stands at its place
  equal_of_behind : (pre rest : List X) (y : X) → AllLess R pre y → equal_of R (pre ++ rest) y ≡ equal_of R rest y
  equal_of_behind [] rest y h = refl
  equal_of_behind (x ∷ pre) rest y h = rw h.0 (equal_of_behind pre rest y h.1)

  equal_from : (xs : List X) (i : ℕ) (y : X) (rest : List X) → AllLess R (take i xs) y → drop i xs ≡ rest → equal_of R xs y ≡ equal_of R rest y
  equal_from xs i y rest before e = ap (λ l. equal_of R l y) (sym (take-append-drop i xs) ∙ ap (λ l. take i xs ++ l) e) ∙ equal_of_behind (take i xs) rest y before

  pub equal_at : (xs : List X) (i : ℕ) (x y : X) (rest : List X) → AllLess R (take i xs) y → drop i xs ≡ x ∷ rest → is_eq (R x y) ≡ true → Some x ≡ equal_of R xs y
  equal_at xs i x y rest before e h = sym (equal_from xs i y (x ∷ rest) before e ∙ ap (λ b. cond b (Some x) (equal_of R rest y)) h)

  pub none_at : (xs : List X) (i : ℕ) (x y : X) (rest : List X) → IsAscending R xs → AllLess R (take i xs) y → StartsAt R (drop i xs) y → drop i xs ≡ x ∷ rest → is_eq (R x y) ≡ false → None ≡ equal_of R xs y
  none_at xs i x y rest a before starts e h =
      sym (equal_from xs i y (x ∷ rest) before e ∙ none_behind x y rest (by_order (R x y) refl (subst (λ (l : List X). StartsAt R l y) e starts) h) (subst (IsAscending R) e (ascending_drop o i xs a)).0)
    where
      by_order : (r : Ordering) → R x y ≡ r → (R x y ≡ Less → ⊥) → is_eq (R x y) ≡ false → R y x ≡ Less
      by_order Less g s h = absurd (s g)
      by_order Equal g s h = absurd (true≢false (sym (ap is_eq g) ∙ h))
      by_order Greater g s h = turned o x y g

  pub none_past : (xs : List X) (i : ℕ) (y : X) → AllLess R (take i xs) y → drop i xs ≡ [] → None ≡ equal_of R xs y
  none_past xs i y before e = sym (equal_from xs i y [] before e)

  -- a filter keeps the order
  below_filter : (p : X → Bool) (x : X) (xs : List X) → IsBelow R x xs → IsBelow R x (filter p xs)
  below_filter p x [] b = tt
  below_filter p x (y ∷ ys) b = by_test (p y) (below_filter p x ys b.1)
    where
      by_test : (t : Bool) → IsBelow R x (filter p ys) → IsBelow R x (cond t (y ∷ filter p ys) (filter p ys))
      by_test true more = (b.0, more)
      by_test false more = more

  pub filter_ascending : (p : X → Bool) (xs : List X) → IsAscending R xs → IsAscending R (filter p xs)
  filter_ascending p [] a = tt
  filter_ascending p (y ∷ ys) a = by_test (p y) (filter_ascending p ys a.1)
    where
      by_test : (t : Bool) → IsAscending R (filter p ys) → IsAscending R (cond t (y ∷ filter p ys) (filter p ys))
      by_test true more = (below_filter p y ys a.0, more)
      by_test false more = more
