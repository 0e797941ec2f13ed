-- Names in the order of their bytes, each once.
use Rattle.std.proofs.Common.{◌≡◌, ℕ, List, [], ◌∷◌, ◌++◌, Bool, true, false, None, All, IsTrue, refl, ap, sym, ◌∙◌, Ordering, Less, Equal, Greater}
use Rattle.std.specs.Ordering.{ordering_reverse, match_ordering}
use Rattle.std.specs.BTreeSet.{insert_key}
use Rattle.std.proofs.lemmas.Cmp.{nat_list_cmp_total}
use Rattle.std.proofs.lemmas.List.Elements.{All-cons, All-head, All-nil, All-tail}
use Rattle.package_core.specs.Order.{text_cmp}
use Rattle.package_list.specs.Sorted as lists
use Rattle.package_list.specs.Sorted.{put, placed, union}
use Rattle.package_list.proofs.Gathers.{union_push}
use Rattle.package_list.proofs.SortedLemmas.{union_ascending}
use Rattle.machine_state.specs.Ascending as own
use Rattle.machine_state.specs.Texts.{AreNames}
use Rattle.step_model.proofs.OwnLemmas.{first_none, second_none}
use Rattle.mirror_ops.specs.declared.names.Part.{Part}
use Rattle.mirror_ops.specs.Settings.{bad_among, bad_word, fits, in_order}

-- a name comes to its place
key_is_put : (xs : List (List ℕ)) (p : List ℕ) → insert_key text_cmp xs p ≡ put text_cmp xs p
key_is_put [] p = refl
key_is_put (x ∷ xs) p = by_order (text_cmp p x) refl (key_is_put xs p)
  where
    by_order : (t : Ordering) → text_cmp p x ≡ t → insert_key text_cmp xs p ≡ put text_cmp xs p → match_ordering t (p ∷ x ∷ xs) (x ∷ xs) (x ∷ insert_key text_cmp xs p) ≡ placed text_cmp (text_cmp x p) x p xs (put text_cmp xs p)
    by_order Less e more = ap (λ r. placed text_cmp r x p xs (put text_cmp xs p)) (sym (nat_list_cmp_total.antisymm x p ∙ ap ordering_reverse e))
    by_order Equal e more = ap (λ r. placed text_cmp r x p xs (put text_cmp xs p)) (sym (nat_list_cmp_total.antisymm x p ∙ ap ordering_reverse e))
    by_order Greater e more = ap (λ l. x ∷ l) more ∙ ap (λ r. placed text_cmp r x p xs (put text_cmp xs p)) (sym (nat_list_cmp_total.antisymm x p ∙ ap ordering_reverse e))

-- a set of names with one more
pub one_key : (keys more before : List (List ℕ)) (p : List ℕ) → more ≡ insert_key text_cmp keys p → keys ≡ union text_cmp [] before → more ≡ union text_cmp [] (before ++ p ∷ [])
one_key keys more before p m k = m ∙ ap (λ ks. insert_key text_cmp ks p) k ∙ key_is_put (union text_cmp [] before) p ∙ sym (union_push text_cmp [] before p)

-- ---- names as they have to be

pub word_is : (good : Bool) (text : List ℕ) → bad_word good text ≡ None → good ≡ true
word_is true text h = refl
word_is false text h = cc

module _ (P : List ℕ → Type 0) where
  put_all : (xs : List (List ℕ)) (y : List ℕ) → All P xs → P y → All P (put text_cmp xs y)
  put_all [] y all h = All-cons P y [] h (All-nil P)
  put_all (x ∷ xs) y all h = by_order (text_cmp x y) (put_all xs y (All-tail P x xs all) h)
    where
      by_order : (r : Ordering) → All P (put text_cmp xs y) → All P (placed text_cmp r x y xs (put text_cmp xs y))
      by_order Less more = All-cons P x (put text_cmp xs y) (All-head P x xs all) more
      by_order Equal more = all
      by_order Greater more = All-cons P y (x ∷ xs) h all

  union_all : (xs ys : List (List ℕ)) → All P xs → All P ys → All P (union text_cmp xs ys)
  union_all xs [] all more = all
  union_all xs (y ∷ ys) all more = union_all (put text_cmp xs y) ys (put_all xs y all (All-head P y ys more)) (All-tail P y ys more)

-- one order by two definitions
below_same : (x : List ℕ) (xs : List (List ℕ)) → lists.IsBelow text_cmp x xs → own.IsBelow text_cmp x xs
below_same x [] b = tt
below_same x (y ∷ ys) b = (b.0, below_same x ys b.1)

ascending_same : (xs : List (List ℕ)) → lists.IsAscending text_cmp xs → own.IsAscending text_cmp xs
ascending_same [] a = tt
ascending_same (x ∷ xs) a = (below_same x xs a.0, ascending_same xs a.1)

each_fits : (part : Part) (texts : List (List ℕ)) → bad_among part texts ≡ None → All (λ text. IsTrue (fits part text)) texts
each_fits part [] h = All-nil _
each_fits part (text ∷ texts) h =
    All-cons (λ text. IsTrue (fits part text)) text texts (word_is (fits part text) text (first_none (bad_word (fits part text) text) (bad_among part texts) h))
    (each_fits part texts (second_none (bad_word (fits part text) text) (bad_among part texts) h))

-- those of a list that is good are as they have to be
pub names_are : (part : Part) (texts : List (List ℕ)) → bad_among part texts ≡ None → AreNames (fits part) (in_order texts)
names_are part texts h = record {
  each = union_all (λ text. IsTrue (fits part text)) [] texts (All-nil _) (each_fits part texts h);
  sorted = ascending_same (in_order texts) (union_ascending nat_list_cmp_total [] texts tt);
}
