-- Sorted lists, one element more.
use Rattle.std.proofs.Common.{◌≡◌, ℕ, suc, zero, ◌+◌, ◌<◌, ◌≤◌, List, [], ◌∷◌, ◌++◌, length, get_or, take, drop, map, true, false, refl, sym, ap, ◌∙◌, arith, Ordering, Less, Equal, Greater, append_assoc, append-nil, subst, ◌||◌, Result, Ok, Err, inl, inr}
use Rattle.std.specs.Ordering.{is_eq, is_lt, ordering_reverse}
use Rattle.std.specs.List.{insert}
use Rattle.std.specs.Result.{OnOk, OnErr}
use Rattle.std.specs.Cmp.{IsTotalOrder}
use Rattle.std.proofs.lemmas.List.{take-append-drop, get_or_default, map-append, take-map, drop-map, length-map, get_or-map, drop_more}
use Rattle.std.proofs.lemmas.Bool.{cases_lt, false≢true, true≢false}
use Rattle.package_list.specs.Sorted.{IsBelow, IsAscending, placed, put, union, AllLess, StartsAt, has}

module _ {X : Type 0} {R : X → X → Ordering} (o : IsTotalOrder R) where
  -- y goes behind all that is less
  pub put_behind : (pre rest : List X) (y : X) → AllLess R pre y → put R (pre ++ rest) y ≡ pre ++ put R rest y
  put_behind [] rest y h = refl
  put_behind (x ∷ pre) rest y h = rw h.0 (ap (λ l. x ∷ l) (put_behind pre rest y h.1))

  pub has_behind : (pre rest : List X) (y : X) → AllLess R pre y → has R (pre ++ rest) y ≡ has R rest y
  has_behind [] rest y h = refl
  has_behind (x ∷ pre) rest y h = rw h.0 (has_behind pre rest y h.1)

  pub put_equal : (x y : X) (xs : List X) → R x y ≡ Equal → put R (x ∷ xs) y ≡ x ∷ xs
  put_equal x y xs h = rw h refl

  pub put_before : (x y : X) (xs : List X) → R x y ≡ Greater → put R (x ∷ xs) y ≡ y ∷ x ∷ xs
  put_before x y xs h = rw h refl

  pub turned : (x y : X) → R x y ≡ Greater → R y x ≡ Less
  turned x y h = o.antisymm y x ∙ ap ordering_reverse h

  pub below_more : (x y : X) (ys : List X) → R x y ≡ Less → IsBelow R y ys → IsBelow R x ys
  below_more x y [] h b = tt
  below_more x y (z ∷ zs) h b = (o.trans x y z h b.0, below_more x y zs h b.1)

  below_put : (x y : X) (xs : List X) → IsBelow R x xs → R x y ≡ Less → IsBelow R x (put R xs y)
  below_put x y [] b h = (h, tt)
  below_put x y (z ∷ zs) b h = by_order (R z y) (below_put x y zs b.1 h)
    where
      by_order : (r : Ordering) → IsBelow R x (put R zs y) → IsBelow R x (placed R r z y zs (put R zs y))
      by_order Less more = (b.0, more)
      by_order Equal more = b
      by_order Greater more = (h, b)

  -- a list with one more is in order
  pub put_ascending : (xs : List X) (y : X) → IsAscending R xs → IsAscending R (put R xs y)
  put_ascending [] y a = (tt, tt)
  put_ascending (x ∷ xs) y a = by_order (R x y) refl (put_ascending xs y a.1)
    where
      by_order : (r : Ordering) → R x y ≡ r → IsAscending R (put R xs y) → IsAscending R (placed R r x y xs (put R xs y))
      by_order Less h more = (below_put x y xs a.0 h, more)
      by_order Equal h more = a
      by_order Greater h more = ((turned x y h, below_more y x xs (turned x y h) a.0), a)

  pub union_ascending : (xs ys : List X) → IsAscending R xs → IsAscending R (union R xs ys)
  union_ascending xs [] a = a
  union_ascending xs (y ∷ ys) a = union_ascending (put R xs y) ys (put_ascending xs y a)

  pub all_less_along : (xs : List X) (y z : X) → AllLess R xs y → R y z ≡ Less → AllLess R xs z
  all_less_along [] y z h e = tt
  all_less_along (x ∷ xs) y z h e = (o.trans x y z h.0 e, all_less_along xs y z h.1 e)

  pub all_less_push : (xs : List X) (x y : X) → AllLess R xs y → R x y ≡ Less → AllLess R (xs ++ x ∷ []) y
  all_less_push [] x y h e = (e, tt)
  all_less_push (z ∷ zs) x y h e = (h.0, all_less_push zs x y h.1 e)

  -- all of the first list is less than what the second begins with
  abbrev pub BeforeFirst : List X → List X → Type 0
  BeforeFirst done [] = Unit {0}
  BeforeFirst done (y ∷ ys) = AllLess R done y

  pub before_next : (done : List X) (y : X) (ys : List X) → AllLess R done y → IsBelow R y ys → BeforeFirst done ys
  before_next done y [] h b = tt
  before_next done y (z ∷ zs) h b = all_less_along done y z h b.0

  pub before_next_push : (done : List X) (y : X) (ys : List X) → AllLess R done y → IsBelow R y ys → BeforeFirst (done ++ y ∷ []) ys
  before_next_push done y [] h b = tt
  before_next_push done y (z ∷ zs) h b = all_less_push done y z (all_less_along done y z h b.0) b.0

  -- the steps of one pass
  pub union_skips : (done : List X) (x : X) (xs : List X) (y : X) (ys : List X) → AllLess R done y → R x y ≡ Equal → union R (done ++ x ∷ xs) (y ∷ ys) ≡ union R (done ++ x ∷ xs) ys
  union_skips done x xs y ys h e = ap (λ l. union R l ys) (put_behind done (x ∷ xs) y h ∙ ap (λ l. done ++ l) (put_equal x y xs e))

  pub union_takes : (done : List X) (x : X) (xs : List X) (y : X) (ys : List X) → AllLess R done y → R x y ≡ Greater → union R (done ++ x ∷ xs) (y ∷ ys) ≡ union R ((done ++ y ∷ []) ++ x ∷ xs) ys
  union_takes done x xs y ys h e = ap (λ l. union R l ys) (put_behind done (x ∷ xs) y h ∙ ap (λ l. done ++ l) (put_before x y xs e) ∙ sym (append_assoc done (y ∷ []) (x ∷ xs)))

  pub union_ends : (done : List X) (y : X) (ys : List X) → AllLess R done y → union R done (y ∷ ys) ≡ union R (done ++ y ∷ []) ys
  union_ends done y ys h = ap (λ l. union R l ys) (ap (λ l. put R l y) (sym (append-nil done)) ∙ put_behind done [] y h)

  -- a pass over both lists has come so far
  pub record Joined (all left right xs ys : List X) : Type 0 where
    pub same : union R (all ++ left) right ≡ union R xs ys
    pub before : BeforeFirst all right
    pub ascending : IsAscending R right

  pub joined_less : (all left right xs ys : List X) (x y : X) (all' left' right' : List X) → left ≡ x ∷ left' → right ≡ y ∷ right' → all' ≡ all ++ x ∷ [] → R x y ≡ Less → Joined all left right xs ys → Joined all' left' right xs ys
  joined_less all left right xs ys x y all' left' right' e f g h j = record {
    same = ap (λ l. union R l right) (ap (λ l. l ++ left') g ∙ append_assoc all (x ∷ []) left' ∙ ap (λ l. all ++ l) (sym e)) ∙ j.same;
    before = subst (BeforeFirst all') (sym f) (subst (λ (l : List X). AllLess R l y) (sym g) (all_less_push all x y (subst (BeforeFirst all) f j.before) h));
    ascending = j.ascending;
  }

  pub joined_equal : (all left right xs ys : List X) (x y : X) (left' right' : List X) → left ≡ x ∷ left' → right ≡ y ∷ right' → R x y ≡ Equal → Joined all left right xs ys → Joined all left right' xs ys
  joined_equal all left right xs ys x y left' right' e f h j =
      let before : AllLess R all y = subst (BeforeFirst all) f j.before in
      let up : IsAscending R (y ∷ right') = subst (IsAscending R) f j.ascending in
      record {
        same = ap (λ l. union R (all ++ l) right') e ∙ sym (union_skips all x left' y right' before h) ∙ ap (λ l. union R (all ++ l) (y ∷ right')) (sym e) ∙ ap (union R (all ++ left)) (sym f) ∙ j.same;
        before = before_next all y right' before up.0;
        ascending = up.1;
      }

  pub joined_greater : (all left right xs ys : List X) (x y : X) (all' left' right' : List X) → left ≡ x ∷ left' → right ≡ y ∷ right' → all' ≡ all ++ y ∷ [] → R x y ≡ Greater → Joined all left right xs ys → Joined all' left right' xs ys
  joined_greater all left right xs ys x y all' left' right' e f g h j =
      let before : AllLess R all y = subst (BeforeFirst all) f j.before in
      let up : IsAscending R (y ∷ right') = subst (IsAscending R) f j.ascending in
      record {
        same = (λ i. union R (g i ++ e i) right') ∙ sym (union_takes all x left' y right' before h) ∙ ap (λ l. union R (all ++ l) (y ∷ right')) (sym e) ∙ ap (union R (all ++ left)) (sym f) ∙ j.same;
        before = subst (λ (l : List X). BeforeFirst l right') (sym g) (before_next_push all y right' before up.0);
        ascending = up.1;
      }

  pub joined_ends : (all left right xs ys : List X) (y : X) (all' right' : List X) → left ≡ [] → right ≡ y ∷ right' → all' ≡ all ++ y ∷ [] → Joined all left right xs ys → Joined all' left right' xs ys
  joined_ends all left right xs ys y all' right' e f g j =
      let before : AllLess R all y = subst (BeforeFirst all) f j.before in
      let up : IsAscending R (y ∷ right') = subst (IsAscending R) f j.ascending in
      record {
        same = (λ i. union R (g i ++ e i) right') ∙ ap (λ l. union R l right') (append-nil (all ++ y ∷ [])) ∙ sym (union_ends all y right' before) ∙ ap (λ l. union R l (y ∷ right')) (sym (append-nil all)) ∙ ap (λ l. union R (all ++ l) (y ∷ right')) (sym e) ∙ ap (union R (all ++ left)) (sym f) ∙ j.same;
        before = subst (λ (l : List X). BeforeFirst l right') (sym g) (before_next_push all y right' before up.0);
        ascending = up.1;
      }

  pub joined_none : (xs ys : List X) → IsAscending R ys → Joined [] xs ys xs ys
  joined_none xs [] a = record { same = refl; before = tt; ascending = a }
  joined_none xs (y ∷ ys) a = record { same = refl; before = tt; ascending = a }

  -- ---- places
  below_at : (x : X) (xs : List X) (k : ℕ) (d : X) → IsBelow R x xs → k < length xs → R x (get_or xs k d) ≡ Less
  below_at x [] k d b l = absurd (omega arith)
  below_at x (y ∷ ys) zero d b l = b.0
  below_at x (y ∷ ys) (suc k) d b l = below_at x ys k d b.1 (omega arith)

  ascending_at : (xs : List X) (i j : ℕ) (d : X) → IsAscending R xs → i < j → j < length xs → R (get_or xs i d) (get_or xs j d) ≡ Less
  ascending_at [] i j d a l m = absurd (omega arith)
  ascending_at (x ∷ xs) i zero d a l m = absurd (omega arith)
  ascending_at (x ∷ xs) zero (suc j) d a l m = below_at x xs j d a.0 (omega arith)
  ascending_at (x ∷ xs) (suc i) (suc j) d a l m = ascending_at xs i j d a.1 (omega arith) (omega arith)

  pub all_less_before : (xs : List X) (i : ℕ) (y : X) → i ≤ length xs → ((k : ℕ) (d : X) → k < i → R (get_or xs k d) y ≡ Less) → AllLess R (take i xs) y
  all_less_before xs zero y le h = tt
  all_less_before [] (suc i) y le h = absurd (omega arith)
  all_less_before (x ∷ xs) (suc i) y le h = (h 0 x (omega arith), all_less_before xs i y (omega arith) (λ k d l. h (suc k) d (omega arith)))

  pub starts_behind : (xs : List X) (i : ℕ) (y : X) → ((k : ℕ) (d : X) → i ≤ k → k < length xs → R (get_or xs k d) y ≡ Less → ⊥) → StartsAt R (drop i xs) y
  starts_behind [] zero y h = tt
  starts_behind [] (suc i) y h = tt
  starts_behind (x ∷ xs) zero y h = h 0 x (omega arith) (omega arith)
  starts_behind (x ∷ xs) (suc i) y h = starts_behind xs i y (λ k d le l. h (suc k) d (omega arith) (omega arith))

  -- the steps of a search by halves
  pub low_step : (xs : List X) (m : ℕ) (e y : X) → IsAscending R xs → m < length xs → e ≡ get_or xs m e → R e y ≡ Less → (k : ℕ) (d : X) → k < m + 1 → R (get_or xs k d) y ≡ Less
  low_step xs m e y a l at h k d lt =
      let same : get_or xs m d ≡ e = get_or_default xs m d e l ∙ sym at in
      elim (cases_lt k m) [ inl below ↦ o.trans (get_or xs k d) (get_or xs m d) y (ascending_at xs k m d a below l) (ap (λ z. R z y) same ∙ h) | inr above ↦ by_equal k (omega arith) same ]
    where
      by_equal : (k : ℕ) → k ≡ m → get_or xs m d ≡ e → R (get_or xs k d) y ≡ Less
      by_equal k i same = ap (λ j. R (get_or xs j d) y) i ∙ ap (λ z. R z y) same ∙ h

  pub high_step : (xs : List X) (m : ℕ) (e y : X) → IsAscending R xs → m < length xs → e ≡ get_or xs m e → (R e y ≡ Less → ⊥) → (k : ℕ) (d : X) → m ≤ k → k < length xs → R (get_or xs k d) y ≡ Less → ⊥
  high_step xs m e y a l at never k d le lt less =
      let same : get_or xs m d ≡ e = get_or_default xs m d e l ∙ sym at in
      elim (cases_lt m k) [ inl below ↦ never (ap (λ z. R z y) (sym same) ∙ o.trans (get_or xs m d) (get_or xs k d) y (ascending_at xs m k d a below lt) less) | inr above ↦ never (ap (λ z. R z y) (sym same) ∙ ap (λ j. R (get_or xs j d) y) (by_order m k le above) ∙ less) ]
    where
      by_order : (m k : ℕ) → m ≤ k → k ≤ m → m ≡ k
      by_order m k p q = omega arith

  -- ---- what stands at a place
  none_equal : (x y : X) (xs : List X) → R y x ≡ Less → IsBelow R x xs → has R xs y ≡ false
  none_equal x y [] h b = refl
  none_equal x y (z ∷ zs) h b = rw (behind y x z h b.0) (none_equal x y zs h b.1)
    where
      behind : (y x z : X) → R y x ≡ Less → R x z ≡ Less → R z y ≡ Greater
      behind y x z h g = o.antisymm z y ∙ ap ordering_reverse (o.trans y x z h g)

  pub ascending_drop : (i : ℕ) (xs : List X) → IsAscending R xs → IsAscending R (drop i xs)
  ascending_drop zero xs a = a
  ascending_drop (suc i) [] a = tt
  ascending_drop (suc i) (x ∷ xs) a = ascending_drop i xs a.1

  has_first : (x y : X) (xs : List X) → IsAscending R (x ∷ xs) → (R x y ≡ Less → ⊥) → has R (x ∷ xs) y ≡ is_eq (R x y)
  has_first x y xs a never = by_order (R x y) refl
    where
      by_order : (r : Ordering) → R x y ≡ r → (is_eq r || has R xs y) ≡ is_eq r
      by_order Less h = absurd (never h)
      by_order Equal h = refl
      by_order Greater h = none_equal x y xs (turned x y h) a.0

  split : (i : ℕ) (xs rest : List X) → drop i xs ≡ rest → xs ≡ take i xs ++ rest
  split i xs rest h = sym (take-append-drop i xs) ∙ ap (λ l. take i xs ++ l) h

  pub has_at : (xs : List X) (i : ℕ) (x y : X) (rest : List X) → IsAscending R xs → AllLess R (take i xs) y → StartsAt R (drop i xs) y → drop i xs ≡ x ∷ rest → has R xs y ≡ is_eq (R x y)
  has_at xs i x y rest a before starts e =
      ap (λ l. has R l y) (split i xs (x ∷ rest) e) ∙ has_behind (take i xs) (x ∷ rest) y before
      ∙ has_first x y rest (subst (IsAscending R) e (ascending_drop i xs a)) (subst (λ (l : List X). StartsAt R l y) e starts)

  pub has_past : (xs : List X) (i : ℕ) (y : X) → AllLess R (take i xs) y → drop i xs ≡ [] → has R xs y ≡ false
  has_past xs i y before e = ap (λ l. has R l y) (split i xs [] e) ∙ has_behind (take i xs) [] y before

  pub put_has : (xs : List X) (y : X) → IsAscending R xs → has R xs y ≡ true → put R xs y ≡ xs
  put_has [] y a h = cc
  put_has (x ∷ xs) y a h = by_order (R x y) refl h (put_has xs y a.1)
    where
      by_order : (r : Ordering) → R x y ≡ r → (is_eq r || has R xs y) ≡ true → (has R xs y ≡ true → put R xs y ≡ xs) → placed R r x y xs (put R xs y) ≡ x ∷ xs
      by_order Less e h more = ap (λ l. x ∷ l) (more h)
      by_order Equal e h more = refl
      by_order Greater e h more = absurd (false≢true (sym (none_equal x y xs (turned x y e) a.0) ∙ h))

  put_starts : (xs : List X) (y : X) → StartsAt R xs y → has R xs y ≡ false → put R xs y ≡ y ∷ xs
  put_starts [] y s h = refl
  put_starts (x ∷ xs) y s h = by_order (R x y) refl h
    where
      by_order : (r : Ordering) → R x y ≡ r → (is_eq r || has R xs y) ≡ false → placed R r x y xs (put R xs y) ≡ y ∷ x ∷ xs
      by_order Less e h = absurd (s e)
      by_order Equal e h = absurd (true≢false h)
      by_order Greater e h = refl

  -- a new one goes to its place
  pub put_at : (xs : List X) (i : ℕ) (y : X) → AllLess R (take i xs) y → StartsAt R (drop i xs) y → has R xs y ≡ false → put R xs y ≡ insert xs i y
  put_at xs i y before starts none =
      ap (λ l. put R l y) (split i xs (drop i xs) refl) ∙ put_behind (take i xs) (drop i xs) y before
      ∙ ap (λ l. take i xs ++ l) (put_starts (drop i xs) y starts (sym (has_behind (take i xs) (drop i xs) y before) ∙ ap (λ l. has R l y) (sym (split i xs (drop i xs) refl)) ∙ none))

-- what holds of the list before a call and of the one that it makes holds after it
pub by_result : {T E A : Type 0} (P : A → Type 0) (r : Result T E) (before made after : A) → OnOk r (after ≡ made) → OnErr r (after ≡ before) → P made → P before → P after
by_result P (Ok x) before made after e f p q = subst P (sym e) p
by_result P (Err x) before made after e f p q = subst P (sym f) q

pub less_from : (o : Ordering) → is_lt o ≡ true → o ≡ Less
less_from Less h = refl
less_from Equal h = cc
less_from Greater h = cc

pub not_less_from : (o : Ordering) → is_lt o ≡ false → o ≡ Less → ⊥
not_less_from Less h e = absurd (true≢false h)
not_less_from Equal h e = cc
not_less_from Greater h e = cc

-- the member at a place, and those behind it
pub drop_at_member : {A B : Type 0} (f : A → B) (xs : List A) (i : ℕ) (x : A) → i < length xs → x ≡ get_or xs i x → drop i (map f xs) ≡ f x ∷ drop (i + 1) (map f xs)
drop_at_member f xs i x l at = drop_more (map f xs) i (f x) (omega (arith, length-map xs f)) ∙ ap (λ y. y ∷ drop (i + 1) (map f xs)) (get_or-map f xs i x (f x) l ∙ ap f (sym at))

pub map-insert : {A B : Type 0} (f : A → B) (xs : List A) (i : ℕ) (y : A) → map f (insert xs i y) ≡ insert (map f xs) i (f y)
map-insert f xs i y = map-append f (take i xs) (y ∷ drop i xs) ∙ (λ k. sym (take-map f i xs) k ++ f y ∷ sym (drop-map f i xs) k)
