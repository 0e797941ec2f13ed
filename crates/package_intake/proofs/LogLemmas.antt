-- What taking in one file does to the store.
use Rattle.std.proofs.Common.{◌≡◌, ◌⊎◌, inl, inr, ℕ, Bool, true, false, List, [], ◌∷◌, ◌++◌, Option, Some, None, IsSome, IsTrue, Result, Ok, Err, refl, sym, ap, ◌∙◌, subst, IfOk, All, OnOk}
use Rattle.std.specs.Result.{IsErr}
use Rattle.std.specs.Option.{ForSome, IfSome, option_or, unwrap_or}
use Rattle.std.specs.List.{AllByRecursion, Contains}
use Rattle.std.specs.Str.{bytes_eq}
use Rattle.std.proofs.lemmas.Slice.Eq.{bytes_eq-Decides}
use Rattle.sha2.specs.Sha256.{sha256}
use Rattle.ap_host.specs.declared.host.Op.{Op}
use Rattle.ap_host.specs.Disk.{Path, Content, Files, Log, extended, live_of}
use Rattle.ap_host.specs.Changes.{SameExcept}
use Rattle.ap_host.proofs.DiskLemmas.{extended-append, extended-none, Throughout-end}
use Rattle.stage_file.specs.Stage.{StageState, is_staged, IsMarked, IsInStep}
use Rattle.digest_set.specs.declared.facts.Digests.{Digests}
use Rattle.digest_set.specs.Facts.{digests_of}
use Rattle.digest_set.specs.Difference.{difference}
use Rattle.package_core.specs.Card.{Card, completed}
use Rattle.package_core.specs.Order.{package_cmp}
use Rattle.package_core.proofs.OrderLaws.{package_total}
use Rattle.package_list.specs.Sorted.{equal_of}
use Rattle.hash_pool.specs.declared.fault.PoolFault.{PoolFault}
use Rattle.hash_pool.specs.Names.{pool_name, IsDigest, IsNamed}
use Rattle.hash_pool.specs.Growth.{HasGrown, targets}
use Rattle.hash_pool.specs.Answers.{IsTaken}
use Rattle.hash_pool.specs.Lodging.{Lodges, SetsOne, IsHeld}
use Rattle.hash_pool.proofs.NameLemmas.{law_of_pool_names, not_both, pooled_not_staged, name_pooled, name_not_staged}
use Rattle.hash_pool.proofs.GrowthLemmas.{law_of_growth, grows_none, grows_whole, targets-append}
use Rattle.machine_state.specs.declared.arrived.UpdateFault.{UpdateFault}
use Rattle.package_intake.specs.Taking.{compared, agreed, known_of, standing}
use Rattle.hash_pool.specs.Bodies.{HasBody, IsMet, DigestsApart}
use Rattle.package_intake.specs.Steps.{Gives}
use Rattle.package_intake.specs.Additions.{Fills, IsFileOf, AddsOne, AddsAll}
use Rattle.package_intake.proofs.ListLemmas.{by_places, each_of, all_map, all_append, found_holds}
use Rattle.package_intake.proofs.TakenLemmas.{find_holds}

-- ---- what the pool holds
pub fills_none : (f : Files) (l : Log) → Fills f l (extended [] l)
fills_none f l = subst (λ (m : Log). Fills f l m) (sym (extended-none l)) (λ p h. inl refl)

pub fills_then : (f : Files) (k l m : Log) → Fills f k l → Fills f l m → Fills f k m
fills_then f k l m a b p h = elim (b p h) [
  | inl same ↦ elim (a p h) [
    | inl before ↦ inl (same ∙ before)
    | inr given ↦ inr (given.0, given.1, given.2, given.3, same ∙ given.4)
  ]
  | inr given ↦ inr given
]

pub stays_none : (s : StageState) (l : Log) → IsInStep s l → IsInStep s (extended [] l)
stays_none s l h = subst (λ (m : Log). IsInStep s m) (sym (extended-none l)) h

-- what stood there apart does so still
pub met_before : (f : Files) (l m : Log) (bytes : List ℕ) → Fills f l m → IsMet (live_of m) f bytes → IsMet (live_of l) f bytes
met_before f l m bytes fills (inr input) = inr input
met_before f l m bytes fills (inl (p, pooled, here)) = elim (fills p pooled) [
  | inl same ↦ inl (p, pooled, sym same ∙ here)
  | inr given ↦ (let e : given.1 ≡ bytes = let both = sym given.4 ∙ here in cc in inr (given.0, given.2 ∙ ap Some e))
]

pub apart_after : (f : Files) (l m : Log) → Fills f l m → DigestsApart (live_of l) f → DigestsApart (live_of m) f
apart_after f l m fills apart a b x y e = apart a b (met_before f l m a fills x) (met_before f l m b fills y) e

pub named_after : (f : Files) (l m : Log) → Fills f l m → IsNamed (live_of l) → IsNamed (live_of m)
named_after f l m fills named p bytes pooled here = elim (fills p pooled) [
  | inl same ↦ named p bytes pooled (sym same ∙ here)
  | inr given ↦ (let e : given.1 ≡ bytes = let both = sym given.4 ∙ here in cc in given.3 ∙ ap (λ (b : List ℕ). pool_name (sha256 b)) e)
]

-- a body stays
pub body_stays : (l m : Log) (p : Card) → HasGrown l m → HasBody (live_of l) p → HasBody (live_of m) p
body_stays l m p grown h = record {
  bytes = h.bytes;
  file = law_of_growth.stays l m (pool_name p.said.sha256) grown (name_not_staged p.said.sha256) (subst (λ (c : Content). IsSome c) (sym h.file) refl) ∙ h.file;
  said = h.said;
}

pub bodies_stay : (l m : Log) (ps : List Card) → HasGrown l m → AllByRecursion (HasBody (live_of l)) ps → AllByRecursion (HasBody (live_of m)) ps
bodies_stay l m [] grown h = tt
bodies_stay l m (p ∷ ps) grown h = (body_stays l m p grown h.0, bodies_stay l m ps grown h.1)

-- ---- a file that was put into the pool
body_held : (l m : Log) (f : Files) (path : Path) (digest bytes : List ℕ) → f path ≡ Some bytes → sha256 bytes ≡ digest → live_of m (pool_name digest) ≡ option_or (live_of l (pool_name digest)) (Some bytes) → IsNamed (live_of l) → DigestsApart (live_of l) f → live_of m (pool_name (sha256 bytes)) ≡ Some bytes
body_held l m f path digest bytes input sha held named apart = by_content (live_of l (pool_name digest)) refl (ap (λ (d : List ℕ). live_of m (pool_name d)) sha ∙ held)
  where
    is : IsDigest digest
    is = subst IsDigest sha (law_of_pool_names.digest bytes)

    by_content : (c : Content) → live_of l (pool_name digest) ≡ c → live_of m (pool_name (sha256 bytes)) ≡ option_or c (Some bytes) → live_of m (pool_name (sha256 bytes)) ≡ Some bytes
    by_content None e h = h
    by_content (Some old) e h =
        let one : sha256 old ≡ digest = law_of_pool_names.found (live_of l) digest old is named e in
        h ∙ ap Some (apart old bytes (inl (pool_name digest, name_pooled digest, e)) (inr (path, input)) (one ∙ sym sha))

abbrev IsFilled : Files → Log → Log → Path → Type 0
IsFilled f l m q = (live_of m q ≡ live_of l q) ⊎ ((from : Path) × (bytes : List ℕ) × (f from ≡ Some bytes) × (q ≡ pool_name (sha256 bytes)) × (live_of m q ≡ Some bytes))

pub lodged_fills : (map : Option Files) (path : Path) (p : Card) (r : Result Digests PoolFault) (s t : StageState) (l : Log) (a : List Op) → Lodges (IsTaken map path p.said r) p.said.sha256 s t r l a → ForSome map (λ f. Fills f l (extended a l))
lodged_fills map path p r s t l a h f told q pooled = elim h.whole [
  | inl only ↦ inl ((Throughout-end (SameExcept (λ r. IsTrue (is_staged r)) l) l a only.1).live q (λ staged. not_both (is_staged q) staged (pooled_not_staged q pooled)))
  | inr some ↦ set some.0 some.1 some.2 (Throughout-end (SetsOne (pool_name p.said.sha256) some.0 l) l a some.3)
]
  where
    set : (bytes : List ℕ) → IsTaken map path p.said r bytes → sha256 bytes ≡ p.said.sha256 → SetsOne (pool_name p.said.sha256) bytes l (extended a l) → IsFilled f l (extended a l) q
    set bytes given sha one = by_test (bytes_eq q (pool_name p.said.sha256)) refl
      where
        here : q ≡ pool_name p.said.sha256 → IsFilled f l (extended a l) q
        here e = elim one.live [
          | inl same ↦ inl (subst (λ (x : Path). live_of (extended a l) x ≡ live_of l x) (sym e) same)
          | inr new ↦ inr (path, bytes, given.input f told, e ∙ ap pool_name (sym sha), ap (λ (x : Path). live_of (extended a l) x) e ∙ new)
        ]

        by_test : (b : Bool) → bytes_eq q (pool_name p.said.sha256) ≡ b → IsFilled f l (extended a l) q
        by_test true e = here ((bytes_eq-Decides q (pool_name p.said.sha256)).0 e)
        by_test false e = inl (one.other_live q (pooled_not_staged q pooled) (λ is. let no : false ≡ true = sym e ∙ (bytes_eq-Decides q (pool_name p.said.sha256)).1 is in cc))

-- what a call made of a package and what was found
pub made_of : (out : Result Card UpdateFault) (path : Path) (p : Card) (found : Digests) → Gives out (compared path p found) → IfOk out (λ q. (difference p.said found ≡ None) × (q ≡ completed p found))
made_of (Err e) path p found h = tt
made_of (Ok q) path p found h = by_difference (difference p.said found) refl h
  where
    by_difference : (d : Option _) → difference p.said found ≡ d → agreed path p found d ≡ Ok q → (difference p.said found ≡ None) × (q ≡ completed p found)
    by_difference None e g = (e, (let s : completed p found ≡ q = cc in sym s))
    by_difference (Some x) e g = cc

pub fetched_adds : (map : Option Files) (path : Path) (p : Card) (r : Result Digests PoolFault) (out : Result Card UpdateFault) (s t : StageState) (l : Log) (a : List Op) → Lodges (IsTaken map path p.said r) p.said.sha256 s t r l a → IfOk out (λ q. (found : Digests) × (r ≡ Ok found) × (q ≡ completed p found)) → AddsOne map p (λ _. Unit {0}) out s t l a
fetched_adds map path p r out s t l a h made = record { grows = h.grows; marked = h.marked; step = h.step; fills = lodged_fills map path p r s t l a h; names = h.target; body = body out made }
  where
    one : (q : Card) (found : Digests) → r ≡ Ok found → q ≡ completed p found → (f : Files) → map ≡ Some f → IsNamed (live_of l) → DigestsApart (live_of l) f → HasBody (live_of (extended a l)) q
    one q found ok is f told named apart =
        let held : IsHeld (IsTaken map path p.said r) p.said.sha256 l (extended a l) = subst (λ (x : Result Digests PoolFault). OnOk x (IsHeld (IsTaken map path p.said r) p.said.sha256 l (extended a l))) ok h.held in
        let given = held.1 in
        let facts : found ≡ digests_of held.0 = subst (λ (x : Result Digests PoolFault). IfOk x (λ d. d ≡ digests_of held.0)) ok given.facts in
        let file = body_held l (extended a l) f path p.said.sha256 held.0 (given.input f told) held.2 held.3 named apart in
        subst (HasBody (live_of (extended a l))) (sym (is ∙ ap (completed p) facts)) (record { bytes = held.0; file = file; said = refl })

    body : (o : Result Card UpdateFault) → IfOk o (λ q. (found : Digests) × (r ≡ Ok found) × (q ≡ completed p found)) → IfOk o (λ q. ForSome map (λ f. IsNamed (live_of l) → DigestsApart (live_of l) f → Unit {0} → HasBody (live_of (extended a l)) q))
    body (Err e) m = tt
    body (Ok q) m = λ f told named apart u. one q m.0 m.1 m.2 f told named apart

-- nothing was done
pub nothing_adds : (map : Option Files) (one : Card) (Needs : Files → Type 0) (out : Result Card UpdateFault) (s : StageState) (l : Log) → IfOk out (λ q. Needs (live_of l) → HasBody (live_of l) q) → AddsOne map one Needs out s s l []
nothing_adds map one Needs out s l h = record { grows = grows_none l; marked = inr (refl, refl); step = stays_none s l; fills = λ f told. fills_none f l; names = inl refl; body = body out h }
  where
    body : (o : Result Card UpdateFault) → IfOk o (λ q. Needs (live_of l) → HasBody (live_of l) q) → IfOk o (λ q. ForSome map (λ f. IsNamed (live_of l) → DigestsApart (live_of l) f → Needs (live_of l) → HasBody (live_of (extended [] l)) q))
    body (Err e) m = tt
    body (Ok q) m = λ f told named apart needs. subst (λ (x : Log). HasBody (live_of x) q) (sym (extended-none l)) (m needs)

-- the same call, whose answer came to another one
pub adds_on : (map : Option Files) (card : Card) (Needs More : Files → Type 0) (out made : Result Card UpdateFault) (s t : StageState) (l : Log) (a : List Op) → (More (live_of l) → Needs (live_of l)) → AddsOne map card Needs made s t l a → IfOk out (λ q. (p : Card) × (made ≡ Ok p) × (More (live_of l) → HasGrown l (extended a l) → HasBody (live_of (extended a l)) p → HasBody (live_of (extended a l)) q)) → AddsOne map card More out s t l a
adds_on map card Needs More out made s t l a needs h on = record { grows = h.grows; marked = h.marked; step = h.step; fills = h.fills; names = h.names; body = body out on }
  where
    one : (p q : Card) → made ≡ Ok p → (More (live_of l) → HasGrown l (extended a l) → HasBody (live_of (extended a l)) p → HasBody (live_of (extended a l)) q) → ForSome map (λ f. IsNamed (live_of l) → DigestsApart (live_of l) f → More (live_of l) → HasBody (live_of (extended a l)) q)
    one p q is turn f told named apart more =
        let given : ForSome map (λ g. IsNamed (live_of l) → DigestsApart (live_of l) g → Needs (live_of l) → HasBody (live_of (extended a l)) p) = subst (λ (x : Result Card UpdateFault). IfOk x (λ y. ForSome map (λ g. IsNamed (live_of l) → DigestsApart (live_of l) g → Needs (live_of l) → HasBody (live_of (extended a l)) y))) is h.body in
        turn more (grows_whole l a h.grows) (given f told named apart (needs more))

    body : (o : Result Card UpdateFault) → IfOk o (λ q. (p : Card) × (made ≡ Ok p) × (More (live_of l) → HasGrown l (extended a l) → HasBody (live_of (extended a l)) p → HasBody (live_of (extended a l)) q)) → IfOk o (λ q. ForSome map (λ f. IsNamed (live_of l) → DigestsApart (live_of l) f → More (live_of l) → HasBody (live_of (extended a l)) q))
    body (Err e) m = tt
    body (Ok q) m = one m.0 q m.1 m.2

-- what is known of the body stands in the pool, so what is known of the package does
pub stands_body : (known : List Card) (p : Card) (l m : Log) → HasGrown l m → All (HasBody (live_of l)) known → HasBody (live_of m) p → HasBody (live_of m) (standing known p)
stands_body known p l m grown all h = by_known (equal_of package_cmp known p) refl
  where
    by_known : (o : Option Card) → equal_of package_cmp known p ≡ o → HasBody (live_of m) (unwrap_or o p)
    by_known None e = h
    by_known (Some q) e = body_stays l m q grown (found_holds package_total (HasBody (live_of l)) known p q (each_of (HasBody (live_of l)) known all) e)

pub reuse_needs : (out : Result Card UpdateFault) (o : Option Card) (k : Card) (f : Files) → o ≡ Some k → IfOk out (λ q. (x : Files) → HasBody x k → HasBody x q) → IfOk out (λ q. IfSome o (HasBody f) → HasBody f q)
reuse_needs (Err e) o k f is h = tt
reuse_needs (Ok q) o k f is h = λ needs. h f (subst (λ (x : Option Card). IfSome x (HasBody f)) is needs)

pub known_body : (known : List Card) (sha256 : List ℕ) (o : Option Card) (f : Files) → o ≡ known_of known sha256 → All (HasBody f) known → IfSome o (HasBody f)
known_body known sha256 None f e all = tt
known_body known sha256 (Some q) f e all = find_holds (HasBody f) (λ x. bytes_eq x.said.sha256 sha256) known q (each_of (HasBody f) known all) (sym e)

-- the same answer
pub itself_on : (out : Result Card UpdateFault) (P : Card → Card → Type 0) → ((q : Card) → P q q) → IfOk out (λ q. (p : Card) × (out ≡ Ok p) × P p q)
itself_on (Err e) P f = tt
itself_on (Ok q) P f = (q, refl, f q)

-- ---- one file after the other
marked_then : (s t u : StageState) (a b : List Op) → IsMarked s t a → IsMarked t u b → IsMarked s u (a ++ b)
marked_then s t u a b m (inl touched) = inl touched
marked_then s t u a b (inl touched) (inr (none, same)) = inl (same ∙ touched)
marked_then s t u a b (inr (none, before)) (inr (nothing, same)) = inr ((λ i. none i ++ nothing i), same ∙ before)

all_last : {X : Type 0} (P : X → Type 0) (xs : List X) (x : X) → AllByRecursion P xs → P x → AllByRecursion P (xs ++ x ∷ [])
all_last P [] x h p = (p, tt)
all_last P (y ∷ ys) x h p = (h.0, all_last P ys x h.1 p)

pub all_none : (map : Option Files) (packages known xs : List Card) (s : StageState) (l : Log) → xs ≡ [] → AddsAll map packages known (Ok xs) s s l []
all_none map packages known xs s l none = subst (λ (ys : List Card). AddsAll map packages known (Ok ys) s s l []) (sym none) (record { grows = grows_none l; marked = inr (refl, refl); step = stays_none s l; fills = λ f told. fills_none f l; names = tt; bodies = λ f told named apart all. by_places (HasBody (live_of (extended [] l))) [] tt })

pub all_nothing : (map : Option Files) (packages known : List Card) (out : Result (List Card) UpdateFault) (s : StageState) (l : Log) → IsErr out → AddsAll map packages known out s s l []
all_nothing map packages known (Ok xs) s l e = absurd (let no : false ≡ true = e in cc)
all_nothing map packages known (Err e) s l is = record { grows = grows_none l; marked = inr (refl, refl); step = stays_none s l; fills = λ f told. fills_none f l; names = tt; bodies = tt }

pub all_fails : (map : Option Files) (packages known : List Card) (made out : Result (List Card) UpdateFault) (s t : StageState) (l : Log) (a : List Op) → IsErr out → AddsAll map packages known made s t l a → AddsAll map packages known out s t l a
all_fails map packages known made (Ok ys) s t l a e h = absurd (let no : false ≡ true = e in cc)
all_fails map packages known made (Err e) s t l a is h = record { grows = h.grows; marked = h.marked; step = h.step; fills = h.fills; names = h.names; bodies = tt }

-- among more packages
pub all_among : (map : Option Files) (few many known : List Card) → ((p : Card) → Contains few p → Contains many p) → (made : Result (List Card) UpdateFault) (s t : StageState) (l : Log) (a : List Op) → AddsAll map few known made s t l a → AddsAll map many known made s t l a
all_among map few many known within made s t l a h = record { grows = h.grows; marked = h.marked; step = h.step; fills = h.fills; names = all_map (IsFileOf few) (IsFileOf many) (λ path n. (n.0, within n.0 n.1, n.2)) (targets a) h.names; bodies = h.bodies }

module _ (map : Option Files) (packages known xs : List Card) (card : Card) (in_list : Contains packages card) (one : Result Card UpdateFault) (s t u : StageState) (l : Log) (a b : List Op) (h : AddsAll map packages known (Ok xs) s t l a) (g : AddsOne map card (λ f. All (HasBody f) known) one t u (extended a l) b) where
  then_step : IsInStep s l → IsInStep u (extended (a ++ b) l)
  then_step i = subst (λ (m : Log). IsInStep u m) (extended-append a b l) (g.step (h.step i))

  then_fills : ForSome map (λ f. Fills f l (extended (a ++ b) l))
  then_fills = λ f told. subst (λ (m : Log). Fills f l m) (extended-append a b l) (fills_then f l (extended a l) (extended b (extended a l)) (h.fills f told) (g.fills f told))

  then_body : (q : Card) → one ≡ Ok q → ForSome map (λ f. IsNamed (live_of l) → DigestsApart (live_of l) f → All (HasBody (live_of l)) known → All (HasBody (live_of (extended (a ++ b) l))) (xs ++ q ∷ []))
  then_body q is = λ f told named apart all.
      let m : Log = extended a l in
      let n : Log = extended b m in
      let known_there = bodies_stay l m known (grows_whole l a h.grows) (each_of (HasBody (live_of l)) known all) in
      let before = bodies_stay m n xs (grows_whole m b g.grows) (each_of (HasBody (live_of m)) xs (h.bodies f told named apart all)) in
      let given : ForSome map (λ x. IsNamed (live_of m) → DigestsApart (live_of m) x → All (HasBody (live_of m)) known → HasBody (live_of n) q) = subst (λ (r : Result Card UpdateFault). IfOk r (λ y. ForSome map (λ x. IsNamed (live_of m) → DigestsApart (live_of m) x → All (HasBody (live_of m)) known → HasBody (live_of n) y))) is g.body in
      let here = given f told (named_after f l m (h.fills f told) named) (apart_after f l m (h.fills f told) apart) (by_places (HasBody (live_of m)) known known_there) in
      subst (λ (e : Log). All (HasBody (live_of e)) (xs ++ q ∷ [])) (extended-append a b l) (by_places (HasBody (live_of n)) (xs ++ q ∷ []) (all_last (HasBody (live_of n)) xs q before here))

  then_new : AllByRecursion (IsFileOf packages) (targets (a ++ b))
  then_new = subst (AllByRecursion (IsFileOf packages)) (sym (targets-append a b)) (all_append (IsFileOf packages) (targets a) (targets b) h.names (elim g.names [
    | inl none ↦ subst (AllByRecursion (IsFileOf packages)) (sym none) tt
    | inr set ↦ subst (AllByRecursion (IsFileOf packages)) (sym set) ((card, in_list, refl), tt)
  ]))

  pub all_more : (q : Card) → one ≡ Ok q → AddsAll map packages known (Ok (xs ++ q ∷ [])) s u l (a ++ b)
  all_more q is = record { grows = law_of_growth.then l a b h.grows g.grows; marked = marked_then s t u a b h.marked g.marked; step = then_step; fills = then_fills; names = then_new; bodies = then_body q is }

  pub all_stops : (out : Result (List Card) UpdateFault) → IsErr out → AddsAll map packages known out s u l (a ++ b)
  all_stops (Ok ys) e = absurd (let no : false ≡ true = e in cc)
  all_stops (Err e) is = record { grows = law_of_growth.then l a b h.grows g.grows; marked = marked_then s t u a b h.marked g.marked; step = then_step; fills = then_fills; names = then_new; bodies = tt }
