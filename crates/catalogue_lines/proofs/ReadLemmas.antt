-- The reading of each part: what is read, and where it stops.
use Rattle.std.proofs.Common.{◌≡◌, ℕ, zero, suc, ◌+◌, ◌<◌, ◌≤◌, ◌^◌, ◌↔◌, Bool, true, false, if◌then◌else◌, List, [], ◌∷◌, ◌++◌, length, Option, Some, None, Result, Ok, Err, IsTrue, IsFalse, codes, refl, sym, ap, ◌∙◌, subst, arith, append-nil, append_assoc, length-append}
use Rattle.std.specs.Prelude.{slice_get, MatchBool}
use Rattle.std.specs.List.{flat_map}
use Rattle.std.specs.Result.{IfOk, IfErr}
use Rattle.std.specs.Fmt.{decimal}
use Rattle.std.proofs.lemmas.Bool.{true≢false}
use Rattle.std.proofs.lemmas.List.Concat.{flat_map-append, flat_map_single}
use Rattle.package_core.specs.Card.{Card}
use Rattle.package_core.specs.Order.{package_cmp}
use Rattle.package_list.specs.Sorted.{AllLess, IsAscending}
use Rattle.package_list.specs.Lists.{clashes}
use Rattle.machine_state.specs.declared.limit.Limit.TheVariants.{Packages, Known}
use Rattle.machine_state.specs.Limits.{limit_number}
use Rattle.machine_state.specs.State.{IsKnown}
use Rattle.catalogue_lines.specs.Lines.{IsLine}
use Rattle.catalogue_lines.specs.Pieces.{Piece, alone, packed, Begins, Takes}
use Rattle.catalogue_lines.specs.SetLines.{id_of, set_line, set_pieces}
use Rattle.catalogue_lines.specs.KnownForms.{known_line, known_pieces, NextPackage, KnownPart}
use Rattle.catalogue_lines.specs.PartForms.{Line, Series, Count, NextMember, MayJoin, SetPart}
use Rattle.catalogue_lines.specs.declared.stop.Stop.{Stop}
use Rattle.catalogue_lines.specs.declared.stop.Stop.TheVariants.{Before, OutOfMemory}
use Rattle.catalogue_lines.specs.Reading.{IfBefore, NoLine, Stops, Always, Each, ReadsSeries, ReadsPart, GoodSet, GoodKnown, PlaceIs, IdsApart, AddsMember}
use Rattle.catalogue_lines.proofs.LineLemmas.{line_unique, same_line}
use Rattle.catalogue_lines.proofs.Parts.{IsPart, IsOther, takes_both, line_of, stops_line, stops_first, stops_then, stops_series, series_part}
use Rattle.catalogue_lines.proofs.KnownParts.{Any, package_pieces, package_part, package_told, fixed_part, fixed_told, count_part, count_told, member_pieces, member_part, member_told, KnownSeries, counted_known}
use Rattle.catalogue_lines.proofs.PlainLemmas.{known_other, set_other}
use Rattle.catalogue_lines.proofs.ValidLemmas.{known_at, place_at}

pub not_pushed : (b : Bool) (P Q : Type 0) → b ≡ false → MatchBool b P Q → Q
not_pushed true P Q e h = absurd (true≢false e)
not_pushed false P Q e h = h

-- ---- one more of a series
pub takes_push : {X : Type 0} (pieces : X → List Piece) (xs : List X) (x : X) (text mid rest : List ℕ) → Takes text (flat_map pieces xs) mid → Takes mid (pieces x) rest → Takes text (flat_map pieces (xs ++ x ∷ [])) rest
takes_push pieces xs x text mid rest t u =
    subst (λ (l : List Piece). Takes text l rest) (sym (flat_map-append pieces xs (x ∷ []) ∙ ap (λ l. flat_map pieces xs ++ l) (append-nil (pieces x)))) (takes_both text mid rest (flat_map pieces xs) (pieces x) t u)

pub length_push : {X : Type 0} (xs : List X) (x : X) (n : ℕ) → length xs ≡ n → length (xs ++ x ∷ []) ≡ n + 1
length_push xs x n e = let a = length-append xs (x ∷ []) in omega arith

-- a series with one more
module _ {X : Type 0} (pieces : X → List Piece) (Good : List X → X → Type 0) where
  pub record IsRead (count : ℕ) (text : List ℕ) (xs : List X) (rest : List ℕ) : Type 0 where
    pub counted : length xs ≡ count
    pub good : Each Good [] xs
    pub takes : Takes text (flat_map pieces xs) rest

  pub reads_more : (count : ℕ) (text mid rest : List ℕ) (xs ys : List X) (x : X) → IsRead count text xs mid → Good xs x → Takes mid (pieces x) rest → ys ≡ xs ++ x ∷ [] → IsRead (count + 1) text ys rest
  reads_more count text mid rest xs ys x r g t e = subst (λ (l : List X). IsRead (count + 1) text l rest) (sym e) (record {
    counted = length_push xs x count r.counted;
    good = each_push_of xs x r.good g;
    takes = takes_push pieces xs x text mid rest r.takes t;
  })
    where
      pushed : (done xs : List X) (x : X) → Each Good done xs → Good (done ++ xs) x → Each Good done (xs ++ x ∷ [])
      pushed done [] x e g = (subst (λ (d : List X). Good d x) (append-nil done) g, tt)
      pushed done (y ∷ ys) x e g = (e.0, pushed (done ++ y ∷ []) ys x e.1 (subst (λ (d : List X). Good d x) (sym (append_assoc done (y ∷ []) ys)) g))

      each_push_of : (xs : List X) (x : X) → Each Good [] xs → Good xs x → Each Good [] (xs ++ x ∷ [])
      each_push_of xs x e g = pushed [] xs x e g

-- ---- where one stops
pub stops_package : (before : List Card) (text : List ℕ) → ((p : Card) (behind : List ℕ) → Begins text (packed p) behind → AllLess package_cmp before p → ⊥) → Stops (NextPackage before) text (length text)
stops_package before text none = record {
  good = [];
  rest = text;
  takes = refl;
  left_is = refl;
  stand = tt;
  bad = never;
}
  where
    never : (next : Piece) (behind : List ℕ) → Takes text (next ∷ []) behind → NextPackage before Always (next ∷ []) → ⊥
    never (alone l) behind t h = h
    never (packed p) behind t h = none p t.0 t.1 h.0

pub stops_packages : (count : ℕ) (text rest : List ℕ) (xs : List Card) → length xs < count → Each (AllLess package_cmp) [] xs → Takes text (flat_map package_pieces xs) rest → ((p : Card) (behind : List ℕ) → Begins rest (packed p) behind → AllLess package_cmp xs p → ⊥) → Stops (Series count NextPackage []) text (length rest)
stops_packages count text rest xs few g t none = stops_series NextPackage package_pieces (AllLess package_cmp) package_part package_told count text rest xs (length rest) few g t (stops_package xs rest none)

pub stops_members : (known : List Card) → IdsApart known → (count : ℕ) (text rest : List ℕ) (xs : List Card) → length xs < count → Each (MayJoin known) [] xs → Takes text (flat_map member_pieces xs) rest → NoLine id_of (MayJoin known xs) rest → Stops (Series count (NextMember known) []) text (length rest)
stops_members known apart count text rest xs few g t none = stops_series (NextMember known) member_pieces (MayJoin known) (member_part known) (member_told known apart) count text rest xs (length rest) few g t (stops_line id_of (MayJoin known xs) rest none)

-- ---- a counted series
module _ {X : Type 0} (key : List ℕ) (most : ℕ) (other : (n : ℕ) → IsOther (key ++ decimal n)) (bound : most < 2 ^ 64) (One : List X → (X → List Piece → Type 0) → List Piece → Type 0) (pieces : X → List Piece) (Good : List X → X → Type 0) (one : (done : List X) → IsPart (One done) pieces (Good done)) where
  abbrev spelled : ℕ → List ℕ
  spelled n = key ++ decimal n

  abbrev pub Counted : (List X → List Piece → Type 0) → List Piece → Type 0
  Counted K = Count spelled most (λ n. Series n One [] K)

  abbrev GoodOf : ℕ → List X → Type 0
  GoodOf n xs = (n ≡ length xs) × Each Good [] xs

  pub counted_in : (text : List ℕ) (n : ℕ) → n ≡ most → NoLine spelled (λ k. k ≤ n) text → Stops Counted text (length text)
  counted_in text n e none =
      stops_first (Count spelled most) (λ n. Series n One []) (line_of spelled) (flat_map pieces) (λ n. n ≤ most) GoodOf length (count_part spelled most other) (series_part One pieces Good one) text (length text)
      (stops_line spelled (λ k. k ≤ most) text (subst (λ (m : ℕ). NoLine spelled (λ k. k ≤ m) text) e none))

  pub counted_up : (text rest : List ℕ) (n left : ℕ) → n ≤ most → IsLine text (spelled n) rest → Stops (Series n One []) rest left → Stops Counted text left
  counted_up text rest n left few l s =
      stops_then (Count spelled most) (λ n. Series n One []) (line_of spelled) (flat_map pieces) (λ n. n ≤ most) GoodOf length (count_part spelled most other) (series_part One pieces Good one) (count_told key most bound) text rest left n few (rest, l, refl) s

-- ---- a fixed line before a part
module _ {A : Type 0} (line : List ℕ) (other : IsOther line) (F : (A → List Piece → Type 0) → List Piece → Type 0) (pieces : A → List Piece) (Good : A → Type 0) (f : IsPart F pieces Good) where
  abbrev pub Behind : (A → List Piece → Type 0) → List Piece → Type 0
  Behind K = Line {A = Unit {0}} (λ u. line) Any (λ u. F K)

  pub fixed_in : (text : List ℕ) → ((behind : List ℕ) → IsLine text line behind → ⊥) → Stops Behind text (length text)
  fixed_in text none =
      stops_first (Line {A = Unit {0}} (λ u. line) Any) (λ u. F) (λ u. alone line ∷ []) pieces Any (λ u. Good) (λ a. tt) (fixed_part line other) (λ u. f) text (length text)
      (stops_line (λ u. line) Any text (λ u behind g l. none behind l))

  pub fixed_up : (text rest : List ℕ) (left : ℕ) → IsLine text line rest → Stops F rest left → Stops Behind text left
  fixed_up text rest left l s =
      stops_then (Line {A = Unit {0}} (λ u. line) Any) (λ u. F) (λ u. alone line ∷ []) pieces Any (λ u. Good) (λ a. tt) (fixed_part line other) (λ u. f) (fixed_told line) text rest left tt tt (rest, l, refl) s

-- ---- members
pub no_member : (known list : List Card) (text id rest : List ℕ) (found : Option ℕ) → PlaceIs known id found → ((i : ℕ) → found ≡ Some i → ⊥) → IsLine text id rest → NoLine id_of (MayJoin known list) text
no_member known list text id rest None h none l a behind m k =
    let p = place_at known a m.known_is in
    h p.0 a p.1 (sym (line_unique text id (id_of a) rest behind l k).0)
no_member known list text id rest (Some i) h none l a behind m k = none i refl

pub not_known : (known : List Card) (text id rest : List ℕ) → PlaceIs known id None → IsLine text id rest → NoLine id_of (IsKnown known) text
not_known known text id rest h l a behind k m =
    let p = place_at known a k in
    h p.0 a p.1 (sym (line_unique text id (id_of a) rest behind l m).0)

pub none_known : (known : List Card) (text id rest : List ℕ) (found : Option ℕ) → PlaceIs known id found → found ≡ None → IsLine text id rest → NoLine id_of (IsKnown known) text
none_known known text id rest found h e l = not_known known text id rest (subst (PlaceIs known id) e h) l

in_list : (xs : List Card) (i : ℕ) (p : Card) → slice_get xs i ≡ Some p → i < length xs
in_list [] i p e = cc
in_list (x ∷ xs) zero p e = omega arith
in_list (x ∷ xs) (suc i) p e = let l = in_list xs i p e in omega arith

abbrev pub PlaceFound : List Card → List ℕ → ℕ → Type 0
PlaceFound known id place = (p : Card) × (slice_get known place ≡ Some p) × (id_of p ≡ id)

pub place_found : (known : List Card) (id : List ℕ) (found : Option ℕ) (place : ℕ) → PlaceIs known id found → found ≡ Some place → PlaceFound known id place
place_found known id None place h e = cc
place_found known id (Some i) place h e = let same : i ≡ place = cc in subst (PlaceFound known id) same h

pub place_inside : (known : List Card) (id : List ℕ) (place : ℕ) → PlaceFound known id place → place < length known
place_inside known id place h = in_list known place h.0 h.1

pub joins : (known list after : List Card) (text id rest : List ℕ) (place : ℕ) (done : Bool) (h : PlaceFound known id place) → IsAscending package_cmp known → done ≡ true
    → (IsTrue done ↔ (AllLess package_cmp list h.0 × IsFalse (clashes list h.0))) → after ≡ (if done then list ++ h.0 ∷ [] else list) → IsLine text id rest → AddsMember known list text after rest
joins known list after text id rest place done h sorted t answer e l =
    let both = answer.0 t in (
      h.0,
      (record { known_is = known_at known place h.0 sorted h.1; after = both.0; apart = both.1 }, same_line text id rest (id_of h.0) l (sym h.2)),
      e ∙ ap (λ b. if b then list ++ h.0 ∷ [] else list) t,
    )

pub joins_not : (known list : List Card) (text id rest : List ℕ) (place : ℕ) (done : Bool) (h : PlaceFound known id place) → IsAscending package_cmp known → done ≡ false
    → (IsTrue done ↔ (AllLess package_cmp list h.0 × IsFalse (clashes list h.0))) → IsLine text id rest → IdsApart known → NoLine id_of (MayJoin known list) text
joins_not known list text id rest place done h sorted f answer l apart a behind m k =
    let same : a ≡ h.0 = apart a h.0 m.known_is (known_at known place h.0 sorted h.1) (sym (line_unique text id (id_of a) rest behind l k).0 ∙ sym h.2) in
    true≢false (sym (answer.1 (subst (AllLess package_cmp list) same m.after, ap (clashes list) (sym same) ∙ m.apart)) ∙ f)

-- ---- what a result says
pub if_ok : {X E : Type 0} (P Q : X → Type 0) → ((x : X) → P x → Q x) → (r : Result X E) → IfOk r P → IfOk r Q
if_ok P Q f (Ok x) h = f x h
if_ok P Q f (Err e) h = tt

pub if_before : (P Q : ℕ → Type 0) → ((n : ℕ) → P n → Q n) → (s : Stop) → IfBefore s P → IfBefore s Q
if_before P Q f (Before n) h = f n h
if_before P Q f OutOfMemory h = tt

pub if_stop : {X : Type 0} (P Q : ℕ → Type 0) → ((n : ℕ) → P n → Q n) → (r : Result X Stop) → IfErr r (λ s. IfBefore s P) → IfErr r (λ s. IfBefore s Q)
if_stop P Q f (Ok x) h = tt
if_stop P Q f (Err e) h = if_before P Q f e h

-- ---- the known packages
pub known_first : (text : List ℕ) → ((behind : List ℕ) → IsLine text (codes "aptly root 0") behind → ⊥) → Stops KnownPart text (length text)
unfolding KnownPart
known_first text none = fixed_in (codes "aptly root 0") refl KnownSeries _ _ counted_known text none

pub known_count : (text rest : List ℕ) (most : ℕ) → IsLine text (codes "aptly root 0") rest → most ≡ limit_number Known → NoLine known_line (λ n. n ≤ most) rest → Stops KnownPart text (length rest)
unfolding KnownPart
known_count text rest most l e none =
    fixed_up (codes "aptly root 0") refl KnownSeries _ _ counted_known text rest (length rest) l
    (counted_in (codes "known ") (limit_number Known) known_other (omega arith) NextPackage package_pieces (AllLess package_cmp) package_part rest most e none)

pub known_rest : (text rest mid : List ℕ) (n most left : ℕ) → IsLine text (codes "aptly root 0") rest → most ≡ limit_number Known → n ≤ most → IsLine rest (known_line n) mid → Stops (Series n NextPackage []) mid left → Stops KnownPart text left
unfolding KnownPart
known_rest text rest mid n most left l e few m s =
    fixed_up (codes "aptly root 0") refl KnownSeries _ _ counted_known text rest left l
    (counted_up (codes "known ") (limit_number Known) known_other (omega arith) NextPackage package_pieces (AllLess package_cmp) package_part rest mid n left (omega arith) m s)

pub known_read : (text rest mid : List ℕ) (n most : ℕ) → IsLine text (codes "aptly root 0") rest → most ≡ limit_number Known → n ≤ most → IsLine rest (known_line n) mid → (xs : List Card) (behind : List ℕ) → ReadsSeries package_pieces (AllLess package_cmp) n mid xs behind → ReadsPart known_pieces GoodKnown text xs behind
unfolding known_pieces
known_read text rest mid n most l e few m xs behind r = record {
  good = (let c = r.counted in omega arith, r.good);
  takes = (rest, l, (mid, subst (λ (k : ℕ). IsLine rest (known_line k) mid) (sym r.counted) m, subst (λ (ys : List Piece). Takes mid ys behind) (flat_map_single packed xs) r.takes));
}

-- ---- a list
module _ (known : List Card) where
  pub set_count : (text : List ℕ) (most : ℕ) → most ≡ limit_number Packages → NoLine set_line (λ n. n ≤ most) text → Stops (SetPart known) text (length text)
  set_count text most e none = counted_in (codes "set ") (limit_number Packages) set_other (omega arith) (NextMember known) member_pieces (MayJoin known) (member_part known) text most e none

  pub set_rest : (text mid : List ℕ) (n most left : ℕ) → most ≡ limit_number Packages → n ≤ most → IsLine text (set_line n) mid → Stops (Series n (NextMember known) []) mid left → Stops (SetPart known) text left
  set_rest text mid n most left e few m s = counted_up (codes "set ") (limit_number Packages) set_other (omega arith) (NextMember known) member_pieces (MayJoin known) (member_part known) text mid n left (omega arith) m s

  pub set_read : (text mid : List ℕ) (n most : ℕ) → most ≡ limit_number Packages → n ≤ most → IsLine text (set_line n) mid → (xs : List Card) (behind : List ℕ) → ReadsSeries member_pieces (MayJoin known) n mid xs behind → ReadsPart set_pieces (GoodSet known) text xs behind
  unfolding set_pieces
  set_read text mid n most e few m xs behind r = record {
    good = (let c = r.counted in omega arith, r.good);
    takes = (mid, subst (λ (k : ℕ). IsLine text (set_line k) mid) (sym r.counted) m, subst (λ (ys : List Piece). Takes mid ys behind) (flat_map_single (λ p. alone (id_of p)) xs) r.takes);
  }
