-- Lists in ascending order, one by one: what follows the last of them follows them all.
use Rattle.std.proofs.Common.{◌≡◌, ◌↔◌, Bool, true, List, [], ◌∷◌, ◌++◌, IsTrue, All, refl, sym, ap, ◌∙◌, subst, arith, append-nil, append_assoc, Ordering, Less, Equal, Greater}
use Rattle.std.specs.Cmp.{IsTotalOrder}
use Rattle.std.specs.Ordering.{is_lt}
use Rattle.machine_state.specs.Ascending as ascending
use Rattle.catalogue_lines.specs.Reading.{Each}
use Rattle.catalogue_lines.proofs.ValidLemmas.{all_cons, all_tail, all_none}

-- ---- in the order of a key
module _ {X K : Type 0} (key : X → K) (R : K → K → Ordering) (o : IsTotalOrder R) where
  abbrev KeysBefore : List X → K → Type 0
  KeysBefore done k = All (λ x. R (key x) k ≡ Less) done

  abbrev by_key : X → X → Ordering
  by_key a b = R (key a) (key b)

  keys_by_last : (front : List X) (last : X) (k : K) → ascending.IsAscending by_key (front ++ last ∷ []) → R (key last) k ≡ Less → KeysBefore (front ++ last ∷ []) k
  keys_by_last [] last k a h = all_cons (λ x. R (key x) k ≡ Less) last [] h (all_none (λ x. R (key x) k ≡ Less))
  keys_by_last (r ∷ rs) last k a h =
      all_cons (λ x. R (key x) k ≡ Less) r (rs ++ last ∷ []) (o.trans (key r) (key last) k (below rs a.0) h) (keys_by_last rs last k a.1 h)
    where
      below : (rs : List X) → ascending.IsBelow by_key r (rs ++ last ∷ []) → R (key r) (key last) ≡ Less
      below [] b = b.0
      below (s ∷ rs) b = below rs b.1

  last_key : (front : List X) (last : X) (k : K) → KeysBefore (front ++ last ∷ []) k → R (key last) k ≡ Less
  last_key [] last k h = h 0 last (omega arith)
  last_key (r ∷ rs) last k h = last_key rs last k (all_tail (λ x. R (key x) k ≡ Less) r (rs ++ last ∷ []) h)

  pub key_follows : (lt : Bool) (answer : Ordering) (done front : List X) (last : X) (k : K) → ascending.IsAscending by_key done → done ≡ front ++ last ∷ [] → lt ≡ is_lt answer → answer ≡ R (key last) k → IsTrue lt ↔ KeysBefore done k
  key_follows lt answer done front last k a e h is = (
    λ t. subst (λ (l : List X). KeysBefore l k) (sym e) (keys_by_last front last k (subst (ascending.IsAscending by_key) e a) (less (R (key last) k) (ap is_lt (sym is) ∙ sym h ∙ t))),
    λ l. h ∙ ap is_lt (is ∙ last_key front last k (subst (λ (l : List X). KeysBefore l k) e l)),
  )
    where
      less : (o : Ordering) → is_lt o ≡ true → o ≡ Less
      less Less h = refl
      less Equal h = cc
      less Greater h = cc

-- ---- in ascending order, one by one
module _ {X : Type 0} (R : X → X → Ordering) where
  below_push : (r x : X) (rs : List X) → ascending.IsBelow R r rs → R r x ≡ Less → ascending.IsBelow R r (rs ++ x ∷ [])
  below_push r x [] b h = (h, tt)
  below_push r x (s ∷ rs) b h = (b.0, below_push r x rs b.1 h)

  pub rising_push : (done : List X) (x : X) → ascending.IsAscending R done → All (λ y. R y x ≡ Less) done → ascending.IsAscending R (done ++ x ∷ [])
  rising_push [] x a h = (tt, tt)
  rising_push (r ∷ rs) x a h = (below_push r x rs a.0 (h 0 r (omega arith)), rising_push rs x a.1 (all_tail (λ y. R y x ≡ Less) r rs h))

  pub rising_before : (done : List X) (x : X) (xs : List X) → ascending.IsAscending R (done ++ x ∷ xs) → All (λ y. R y x ≡ Less) done
  rising_before [] x xs a = all_none (λ y. R y x ≡ Less)
  rising_before (r ∷ rs) x xs a = all_cons (λ y. R y x ≡ Less) r rs (here rs a.0) (rising_before rs x xs a.1)
    where
      here : (rs : List X) → ascending.IsBelow R r (rs ++ x ∷ xs) → R r x ≡ Less
      here [] b = b.0
      here (s ∷ rs) b = here rs b.1

  pub rising_each : (Good : List X → X → Type 0) → ((done : List X) (x : X) → Good done x → All (λ y. R y x ≡ Less) done) → (done xs : List X) → ascending.IsAscending R done → Each Good done xs → ascending.IsAscending R (done ++ xs)
  rising_each Good w done [] a e = subst (ascending.IsAscending R) (sym (append-nil done)) a
  rising_each Good w done (x ∷ xs) a e = subst (ascending.IsAscending R) (append_assoc done (x ∷ []) xs) (rising_each Good w (done ++ x ∷ []) xs (rising_push done x a (w done x e.0)) e.1)
