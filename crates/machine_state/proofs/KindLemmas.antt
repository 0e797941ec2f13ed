-- What a state has of one kind, with one more, one less, one changed or one renamed.
use Rattle.std.proofs.Common.{◌≡◌, ℕ, ◌<◌, ◌≤◌, Bool, true, false, cond, List, [], ◌∷◌, length, Option, Some, None, All, arith, refl, subst}
use Rattle.std.specs.Prelude.{option_map}
use Rattle.std.specs.Ordering.{nat_cmp}
use Rattle.std.specs.Cmp.Lexicographic.{slice_cmp}
use Rattle.std.proofs.lemmas.List.{length-map}
use Rattle.std.proofs.lemmas.List.Elements.{All-filter, All-head, All-map, All-tail}
use Rattle.machine_state.specs.Ascending.{put}
use Rattle.machine_state.specs.Lists.{KindValid}
use Rattle.machine_state.specs.Named.{changed, dropped, named, named_cmp, put_some, renamed}
use Rattle.machine_state.proofs.AscendingLemmas.{all_put, filter_ascending, length_put, map_ascending, put_ascending}
use Rattle.machine_state.proofs.NamedLemmas.{changed_name, fewer_dropped, has, length_dropped, named_total}
use Rattle.machine_state.proofs.ValidLemmas.{all_so}

module _ {X : Type 0} (name_of : X → List ℕ) (Is HasLists : X → Type 0) (most : ℕ) where
  abbrev Are : List X → Type 0
  Are = KindValid Is HasLists (named_cmp name_of) most

  pub kind_put : (x : X) (xs : List X) → Is x → HasLists x → length xs < most → Are xs → Are (put (named_cmp name_of) x xs)
  kind_put x xs is lists few a =
      let n : length (put (named_cmp name_of) x xs) ≤ _ = length_put (named_cmp name_of) x xs in
      record {
        each = all_put (named_cmp name_of) Is x xs is a.each;
        lists = all_put (named_cmp name_of) HasLists x xs lists a.lists;
        sorted = put_ascending (named_total name_of) x xs a.sorted;
        few = omega (arith, n, few);
      }

  pub kind_dropped : (name : List ℕ) (xs : List X) → Are xs → Are (dropped name_of name xs)
  kind_dropped name xs a =
      let n = length_dropped name_of name xs in
      record {
        each = All-filter _ Is xs a.each;
        lists = All-filter _ HasLists xs a.lists;
        sorted = filter_ascending (named_cmp name_of) _ xs a.sorted;
        few = omega (arith, n, a.few);
      }

  some_all : (P : X → Type 0) (name : List ℕ) (xs : List X) (x : X) → named name_of name xs ≡ Some x → All P xs → P x
  some_all P name [] x h all = cc
  some_all P name (y ∷ ys) x h all = by_test (has name_of name y) h (some_all P name ys x)
    where
      by_test : (b : Bool) → cond b (Some y) (named name_of name ys) ≡ Some x → (named name_of name ys ≡ Some x → All P ys → P x) → P x
      by_test true g more = let s : y ≡ x = cc in subst P s (All-head P y ys all)
      by_test false g more = more g (All-tail P y ys all)

  pub kind_renamed : (called : X → List ℕ → X) (before after : List ℕ) (xs : List X) → ((x : X) → Is x → Is (called x after)) → ((x : X) → HasLists x → HasLists (called x after)) → Are xs → Are (renamed name_of called before after xs)
  kind_renamed called before after xs is lists a = by_found (named name_of before xs) refl
    where
      by_found : (o : Option X) → named name_of before xs ≡ o → Are (put_some name_of (option_map (λ x. called x after) o) (dropped name_of before xs))
      by_found None e = kind_dropped before xs a
      by_found (Some x) e =
          let n = fewer_dropped name_of before xs x e in
          kind_put (called x after) (dropped name_of before xs) (is x (some_all Is before xs x e a.each)) (lists x (some_all HasLists before xs x e a.lists)) (omega (arith, n, a.few)) (kind_dropped before xs a)

  pub kind_changed : (name : List ℕ) (change : X → X) (xs : List X) → ((x : X) → name_of (change x) ≡ name_of x) → ((x : X) → Is x → Is (change x)) → ((x : X) → HasLists x → HasLists (change x)) → Are xs → Are (changed name_of name change xs)
  kind_changed name change xs same is lists a =
      let n = length-map xs one in
      record {
        each = All-map Is one xs (all_so Is (λ x. Is (one x)) (one_so Is is) xs a.each);
        lists = All-map HasLists one xs (all_so HasLists (λ x. HasLists (one x)) (one_so HasLists lists) xs a.lists);
        sorted = map_ascending (named_cmp name_of) one in_order xs a.sorted;
        few = omega (arith, n, a.few);
      }
    where
      one : X → X
      one x = cond (has name_of name x) (change x) x

      one_so : (P : X → Type 0) → ((x : X) → P x → P (change x)) → (x : X) → P x → P (cond (has name_of name x) (change x) x)
      one_so P f x p = by_test (has name_of name x)
        where
          by_test : (b : Bool) → P (cond b (change x) x)
          by_test true = f x p
          by_test false = p

      in_order : (x y : X) → named_cmp name_of (one x) (one y) ≡ named_cmp name_of x y
      in_order x y = (λ i. slice_cmp nat_cmp (changed_name name_of name change same x i) (changed_name name_of name change same y i))
