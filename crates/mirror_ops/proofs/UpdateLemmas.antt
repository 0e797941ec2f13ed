-- What an update of a mirror comes to, by how it goes.
use Rattle.std.proofs.Common.{◌≡◌, ◌≢◌, ℕ, suc, ◌+◌, ◌<◌, Bool, true, false, ◌&&◌, List, [], ◌∷◌, length, map, drop, get_or, Option, Some, None, All, true≢false, refl, sym, ap, subst, ◌∙◌, Ordering, Less, Equal, Greater}
use Rattle.std.specs.Ordering.{is_eq, is_ne}
use Rattle.std.specs.Str.{bytes_eq}
use Rattle.std.specs.Option.{option_map}
use Rattle.std.specs.List.{AllByRecursion}
use Rattle.std.proofs.lemmas.Cmp.{tied_itself}
use Rattle.std.proofs.lemmas.Slice.Eq.{bytes_eq-Decides}
use Rattle.package_core.specs.Card.{Card}
use Rattle.package_core.specs.Order.{package_cmp}
use Rattle.package_core.proofs.OrderLaws.{package_total}
use Rattle.package_list.specs.Sorted.{IsAscending}
use Rattle.package_list.specs.Lists.{has_member, union}
use Rattle.package_list.proofs.SortedLemmas.{drop_at_member}
use Rattle.machine_state.specs.declared.arrived.Arrived.TheVariants as arrivals
use Rattle.machine_state.specs.declared.fetched.Fetched.{Fetched}
use Rattle.machine_state.specs.Lists.{IsKnown, IsNamedList}
use Rattle.machine_state.specs.Mirrors.{MirrorLists}
use Rattle.machine_state.specs.State.{Valid, mirror_name, mirror_of}
use Rattle.machine_state.specs.Values.{MirrorView, StateView}
use Rattle.machine_state.proofs.NamedLemmas.{changed_same, named_changed}
use Rattle.package_intake.proofs.FitLemmas.{known_more}
use Rattle.package_intake.proofs.LawLemmas.{union_has}
use Rattle.package_intake.proofs.ListLemmas.{all_map, each_of, equal_is, found_alike, found_has}
use Rattle.package_intake.proofs.TakenLemmas.{find_holds}
use Rattle.mirror_update.specs.Fits.{FitsIn, updated, with_fetched}
use Rattle.reply_text.specs.Mirrors as replies
use Rattle.step_model.specs.Case.{changes}
use Rattle.mirror_ops.specs.Cases.{taken_in}
use Rattle.mirror_ops.specs.Updates.{Has, fetched_in, has_fetched, same_members}

-- ---- lists of equal members

and_first : (a b : Bool) → (a && b) ≡ true → a ≡ true
and_first true b h = refl
and_first false b h = cc

and_second : (a b : Bool) → (a && b) ≡ true → b ≡ true
and_second true b h = h
and_second false b h = cc

-- lists of unequal length
pub lengths_differ : (xs ys : List Card) → length xs ≢ length ys → same_members xs ys ≡ false
lengths_differ [] [] h = absurd (h refl)
lengths_differ [] (y ∷ ys) h = refl
lengths_differ (x ∷ xs) [] h = refl
lengths_differ (x ∷ xs) (y ∷ ys) h = by_order (is_eq (package_cmp x y)) (lengths_differ xs ys (λ e. h (ap (λ n. suc n) e)))
  where
    by_order : (b : Bool) → same_members xs ys ≡ false → (b && same_members xs ys) ≡ false
    by_order true more = more
    by_order false more = refl

-- one more of both
pub members_on : {A : Type 0} (f : A → Card) (xs ys : List A) (i : ℕ) (x y : A) → i < length xs → i < length ys → x ≡ get_or xs i x → y ≡ get_or ys i y
    → same_members (drop i (map f xs)) (drop i (map f ys)) ≡ (is_eq (package_cmp (f x) (f y)) && same_members (drop (i + 1) (map f xs)) (drop (i + 1) (map f ys)))
members_on f xs ys i x y l m at here = (λ j. same_members (drop_at_member f xs i x l at j) (drop_at_member f ys i y m here j))

-- of which the first two aren't equal, or are
pub differ_here : (o : Ordering) (rest : Bool) → is_ne o ≡ true → (is_eq o && rest) ≡ false
differ_here Less rest h = refl
differ_here Equal rest h = cc
differ_here Greater rest h = refl

pub equal_here : (o : Ordering) (rest : Bool) → is_ne o ≡ false → (is_eq o && rest) ≡ rest
equal_here Less rest h = cc
equal_here Equal rest h = refl
equal_here Greater rest h = cc

-- a list has the members of itself
pub members_itself : (xs : List Card) → same_members xs xs ≡ true
members_itself [] = refl
members_itself (x ∷ xs) = ap (λ (r : Ordering). is_eq r && same_members xs xs) (tied_itself package_total x) ∙ members_itself xs

-- of members that are known alike equal ones are the same
known_same : (known xs ys : List Card) → AllByRecursion (IsKnown known) xs → AllByRecursion (IsKnown known) ys → same_members xs ys ≡ true → xs ≡ ys
known_same known [] [] k l h = refl
known_same known [] (y ∷ ys) k l h = cc
known_same known (x ∷ xs) [] k l h = cc
known_same known (x ∷ xs) (y ∷ ys) k l h =
    let alike = found_alike package_total known x y (equal_is (package_cmp x y) (and_first (is_eq (package_cmp x y)) (same_members xs ys) h)) in
    let found : Some x ≡ Some y = sym k.0 ∙ alike ∙ l.0 in
    let same : x ≡ y = cc in
    let rest = known_same known xs ys k.1 l.1 (and_second (is_eq (package_cmp x y)) (same_members xs ys) h) in
    (λ i. same i ∷ rest i)

-- what is known joins what is known
known_joins : (known list : List Card) → IsAscending package_cmp known → AllByRecursion (IsKnown known) list → union known list ≡ known
known_joins known list a k = union_has known list a (all_map (IsKnown known) (λ p. has_member known p ≡ true) (λ p h. found_has package_total known p p h) list k)

-- ---- the mirror of a name

lists_of : (known : List Card) (name : List ℕ) (mirrors : List MirrorView) (mirror : MirrorView) → All (MirrorLists known) mirrors → mirror_of name mirrors ≡ Some mirror → MirrorLists known mirror
lists_of known name mirrors mirror all found = find_holds (MirrorLists known) (λ (m : MirrorView). bytes_eq m.name name) mirrors mirror (each_of (MirrorLists known) mirrors all) found

abbrev updated_in : Option MirrorView → Option Fetched
updated_in None = None
updated_in (Some mirror) = mirror.updated

module _ (state : StateView) (name : List ℕ) (mirror : MirrorView) (fetched : Fetched) (found : mirror_of name state.mirrors ≡ Some mirror) where
  now_found : mirror_of name (updated state name fetched).mirrors ≡ Some (with_fetched fetched mirror)
  now_found = named_changed mirror_name name (with_fetched fetched) (λ x. refl) state.mirrors ∙ ap (option_map (with_fetched fetched)) found

  -- what the mirror has fetched already is what fits
  fetched_same : (old : Fetched) → mirror.updated ≡ Some old → Valid state → FitsIn state name fetched → has_fetched (Some old) fetched ≡ true → old ≡ fetched
  fetched_same old is v f h =
      let known = union state.known fetched.list in
      let own : IsNamedList state.known old.list = subst (λ (o : Option Fetched). MirrorLists state.known (record mirror { updated = o })) is (lists_of state.known name state.mirrors mirror v.mirrors.lists found) in
      let now : IsNamedList known fetched.list = lists_of known name (updated state name fetched).mirrors (with_fetched fetched mirror) f.valid.mirrors.lists now_found in
      let grown = all_map (IsKnown state.known) (IsKnown known) (λ p. known_more state.known fetched.list p v.known.sorted) old.list (each_of (IsKnown state.known) old.list own.listed) in
      let list = known_same known old.list fetched.list grown (each_of (IsKnown known) fetched.list now.listed) (and_second (bytes_eq old.date fetched.date) (same_members old.list fetched.list) h) in
      let date : old.date ≡ fetched.date = (bytes_eq-Decides old.date fetched.date).0 (and_first (bytes_eq old.date fetched.date) (same_members old.list fetched.list) h) in
      (λ i. record { date = date i; list = list i })

  -- the state stays as it was
  pub updated_same : Valid state → FitsIn state name fetched → has_fetched mirror.updated fetched ≡ true → updated state name fetched ≡ state
  updated_same v f = by_updated mirror.updated refl
    where
      by_updated : (o : Option Fetched) → mirror.updated ≡ o → has_fetched o fetched ≡ true → updated state name fetched ≡ state
      by_updated None is h = cc
      by_updated (Some old) is h =
          let same = fetched_same old is v f h in
          let own : IsNamedList state.known old.list = subst (λ (o : Option Fetched). MirrorLists state.known (record mirror { updated = o })) is (lists_of state.known name state.mirrors mirror v.mirrors.lists found) in
          let known = ap (λ (r : Fetched). union state.known r.list) (sym same) ∙ known_joins state.known old.list v.known.sorted (each_of (IsKnown state.known) old.list own.listed) in
          let stays : with_fetched fetched mirror ≡ mirror = ap (λ (o : Option Fetched). record mirror { updated = o }) (sym (is ∙ ap (λ (r : Fetched). Some r) same)) in
          let mirrors = changed_same mirror_name name (with_fetched fetched) state.mirrors mirror v.mirrors.sorted found stays in
          (λ i. record state { known = known i; mirrors = mirrors i })

  -- or is another one
  pub updated_new : has_fetched mirror.updated fetched ≡ false → updated state name fetched ≢ state
  updated_new h same = true≢false (sym itself ∙ ap (λ (o : Option Fetched). has_fetched o fetched) (sym is) ∙ h)
    where
      is : mirror.updated ≡ Some fetched
      is = ap updated_in (sym found ∙ ap (λ (s : StateView). mirror_of name s.mirrors) (sym same) ∙ now_found)

      itself : has_fetched (Some fetched) fetched ≡ true
      itself = ap (λ (b : Bool). b && same_members fetched.list fetched.list) ((bytes_eq-Decides fetched.date fetched.date).1 refl) ∙ members_itself fetched.list

-- the state with the new mirror in its place, and more known
pub updated_is : (state new : StateView) (mirror made : MirrorView) (fetched : Fetched) (known : List Card) → made ≡ with_fetched fetched mirror → new ≡ fetched_in state made.name fetched
    → known ≡ union state.known fetched.list → record new { known = known } ≡ updated state mirror.name fetched
updated_is state new mirror made fetched known m h k = (λ i. record (h i) { known = k i }) ∙ ap (λ (x : MirrorView). updated state x.name fetched) m

-- ---- what it comes to

module _ (state : StateView) (mirror : MirrorView) (fetched : Fetched) (reply : List ℕ) (count : ℕ) where
  -- a mirror that has fetched just this
  pub taken_none : Has state mirror → Valid state → FitsIn state mirror.name fetched → has_fetched mirror.updated fetched ≡ true → reply ≡ replies.mirror_updated mirror.name count → count ≡ length fetched.list
      → taken_in state mirror.name (arrivals.List fetched.list fetched.date) ≡ changes reply state
  taken_none found v f has e n =
      ap (changes (replies.mirror_updated mirror.name (length fetched.list))) (updated_same state mirror.name mirror fetched found v f has)
      ∙ ap (λ (r : List ℕ). changes r state) (sym (e ∙ ap (replies.mirror_updated mirror.name) n))

  -- and another
  pub taken_some : (new : StateView) → reply ≡ replies.mirror_updated mirror.name count → count ≡ length fetched.list → new ≡ updated state mirror.name fetched
      → taken_in state mirror.name (arrivals.List fetched.list fetched.date) ≡ changes reply new
  taken_some new e n is =
      ap (changes (replies.mirror_updated mirror.name (length fetched.list))) (sym is)
      ∙ ap (λ (r : List ℕ). changes r new) (sym (e ∙ ap (replies.mirror_updated mirror.name) n))
