-- The reading of publications: what is read, and where it stops.
use Rattle.std.proofs.Common.{◌≡◌, ℕ, zero, suc, ◌+◌, ◌<◌, ◌≤◌, ◌↔◌, Bool, true, false, pos, List, [], ◌∷◌, ◌++◌, length, take, drop, get_or, codes, Option, Some, None, IsTrue, All, refl, sym, ap, ◌∙◌, subst, arith, Ordering, Less}
use Rattle.std.specs.Prelude.{slice_get, nat_lt, if◌then◌else◌, IsFalse}
use Rattle.std.specs.List.{flat_map}
use Rattle.std.specs.Fmt.{decimal}
use Rattle.std.specs.Ordering.{is_lt}
use Rattle.std.proofs.lemmas.Bool.{true≢false}
use Rattle.std.proofs.lemmas.List.{map-append}
use Rattle.std.proofs.lemmas.List.Concat.{flat_map_single}
use Rattle.package_core.specs.Card.{Card}
use Rattle.package_core.specs.Order.{package_cmp}
use Rattle.package_list.specs.Sorted.{AllLess, IsAscending}
use Rattle.package_list.specs.Lists.{clashes}
use Rattle.machine_state.specs.declared.limit.Kind.{Kind}
use Rattle.machine_state.specs.declared.limit.Limit.TheVariants.{Packages, Publications, Date}
use Rattle.machine_state.specs.declared.repo.Repo.{Repo}
use Rattle.machine_state.specs.declared.snapshot.Snapshot.{Snapshot}
use Rattle.machine_state.specs.Ascending as ascending
use Rattle.machine_state.specs.Limits.{limit_number}
use Rattle.machine_state.specs.Publications.{is_published, is_for, components_of}
use Rattle.machine_state.specs.State.{place_cmp, publication_cmp}
use Rattle.machine_state.specs.Texts.{IsTitle}
use Rattle.machine_state.specs.Values.{GenerationView, PublicationView}
use Rattle.machine_state.proofs.PlaceLemmas.{Place, place_of, two_cmp, two_total}
use Rattle.catalogue_publications.specs.declared.publication_values.Head.{Head}
use Rattle.catalogue_publications.specs.declared.publication_values.Titles.{Titles}
use Rattle.catalogue_lines.specs.Lines.{IsLine}
use Rattle.catalogue_lines.specs.Pieces.{Piece, alone, Takes}
use Rattle.catalogue_lines.specs.SetLines.{id_of, set_line, set_pieces}
use Rattle.catalogue_lines.specs.PartForms.{Line, Series}
use Rattle.catalogue_lines.specs.NameLines.{architectures_line}
use Rattle.machine_state.specs.Words.{place_text}
use Rattle.catalogue_publications.specs.PublicationLines.{publications_line, publication_line, kind_line, origin_line, label_line, suite_line, codename_line, serial_line, sources_line, source_line, current_line, previous_line, parts_pieces, generation_pieces, previous_pieces, sources_pieces, publication_pieces, publications_pieces}
use Rattle.catalogue_publications.specs.PublicationGrammar.{IsNextPlace, TitlesPart, HeadPart, ArePublished, IsSerial, IsNextSource, NextSource, IsAny, SourcesPart, MayJoinPart, NextPartMember, PartSet, Parts, GenerationPart, PreviousPart, published, ContentsPart, NextPublication, has_source_in, PublicationsPart}
use Rattle.catalogue_lines.specs.Reading.{NamesKnown, Each, Stops, IdsApart, NoLine, ReadsLine, ReadsSeries, ReadsPart}
use Rattle.catalogue_publications.specs.PublicationReading.{AddsPartMember, GoodTitles, GoodHead, GoodSources, GoodPartSet, GoodParts, GoodGeneration, GoodPrevious, titles_pieces, head_pieces, contents_pieces, GoodContents, GoodPublication, GoodPublications}
use Rattle.catalogue_lines.proofs.OrderLemmas.{key_follows, rising_each}
use Rattle.catalogue_lines.proofs.LineLemmas.{line_unique}
use Rattle.catalogue_lines.proofs.Parts.{line_of, takes_both}
use Rattle.catalogue_lines.proofs.KnownParts.{member_pieces}
use Rattle.catalogue_lines.proofs.ValidLemmas.{all_cons, all_tail, all_none, known_at}
use Rattle.catalogue_lines.proofs.ReadLemmas.{takes_push}
use Rattle.catalogue_lines.proofs.Forms.{stops_in, stops_past, stops_to, stops_each, stops_longer, stops_at_line, at_line, past_line, at_number, past_number}
use Rattle.catalogue_publications.proofs.PublicationParts.{origin_form, label_form, suite_form, codename_form, titles_form, place_form, kind_form, head_form, architectures_form, serial_form, source_form, sources_count_form, sources_form, part_member_form, set_count_form, parts_form, stops_part, current_form, before_form, previous_form, FromCurrent, FromSources, FromSerial, FromHead, publication_form, publications_count_form}

-- nothing is asked of ids
abbrev pub Free : Type 0
Free = Unit {0}

-- ---- in the order of their places
pub follows_place : (lt : Bool) (answer : Ordering) (done front : List PublicationView) (last : PublicationView) (place : Place) → ascending.IsAscending publication_cmp done → done ≡ front ++ last ∷ [] → lt ≡ is_lt answer → answer ≡ place_cmp last place.0 place.1
    → IsTrue lt ↔ All (λ one. place_cmp one place.0 place.1 ≡ Less) done
follows_place = key_follows place_of two_cmp two_total

pub places_each : (known : List Card) (has : Kind → List ℕ → Bool) (xs : List PublicationView) → Each (GoodPublication known has) [] xs → ascending.IsAscending publication_cmp xs
places_each known has xs e = rising_each publication_cmp (GoodPublication known has) (λ done x g. g.head.place.after) [] xs tt e

-- ---- the texts of a Release
module _ (place : Place) where
  abbrev pub FromSuite : List ℕ → List ℕ → List ℕ → (Titles → List Piece → Type 0) → List Piece → Type 0
  FromSuite o l s K = Line codename_line (IsTitle place.1) (λ c. K (record { origin = o; label = l; suite = s; codename = c }))

  abbrev pub FromLabel : List ℕ → List ℕ → (Titles → List Piece → Type 0) → List Piece → Type 0
  FromLabel o l K = Line suite_line (IsTitle place.1) (λ s. FromSuite o l s K)

  abbrev pub FromOrigin : List ℕ → (Titles → List Piece → Type 0) → List Piece → Type 0
  FromOrigin o K = Line label_line (IsTitle (place_text place)) (λ l. FromLabel o l K)

  module _ (text r1 : List ℕ) (o : List ℕ) where
    pub at_origin : NoLine origin_line (IsTitle (place_text place)) text → Stops (TitlesPart place) text (length text)
    at_origin none = at_line (origin_form Free place) FromOrigin text none

    pub at_label : ReadsLine origin_line (IsTitle (place_text place)) text o r1 → NoLine label_line (IsTitle (place_text place)) r1 → Stops (TitlesPart place) text (length r1)
    at_label a none = past_line (origin_form Free place) FromOrigin tt text r1 (length r1) o a (at_line (label_form Free place) (FromLabel o) r1 none)

    module _ (r2 l : List ℕ) where
      pub at_suite : ReadsLine origin_line (IsTitle (place_text place)) text o r1 → ReadsLine label_line (IsTitle (place_text place)) r1 l r2 → NoLine suite_line (IsTitle place.1) r2 → Stops (TitlesPart place) text (length r2)
      at_suite a b none =
          past_line (origin_form Free place) FromOrigin tt text r1 (length r2) o a (past_line (label_form Free place) (FromLabel o) tt r1 r2 (length r2) l b (at_line (suite_form Free place) (FromSuite o l) r2 none))

      module _ (r3 s : List ℕ) where
        pub at_codename : ReadsLine origin_line (IsTitle (place_text place)) text o r1 → ReadsLine label_line (IsTitle (place_text place)) r1 l r2 → ReadsLine suite_line (IsTitle place.1) r2 s r3 → NoLine codename_line (IsTitle place.1) r3 → Stops (TitlesPart place) text (length r3)
        at_codename a b c none =
            past_line (origin_form Free place) FromOrigin tt text r1 (length r3) o a (past_line (label_form Free place) (FromLabel o) tt r1 r2 (length r3) l b
            (past_line (suite_form Free place) (FromSuite o l) tt r2 r3 (length r3) s c (stops_to (codename_form Free place) (λ c. record { origin = o; label = l; suite = s; codename = c }) r3 (length r3) (stops_at_line codename_line (IsTitle place.1) r3 none))))

        pub titles_read : (r4 d : List ℕ) → ReadsLine origin_line (IsTitle (place_text place)) text o r1 → ReadsLine label_line (IsTitle (place_text place)) r1 l r2 → ReadsLine suite_line (IsTitle place.1) r2 s r3 → ReadsLine codename_line (IsTitle place.1) r3 d r4
            → ReadsPart titles_pieces (GoodTitles place) text (record { origin = o; label = l; suite = s; codename = d }) r4
        titles_read r4 d a b c e = record { good = record { origin = a.0; label = b.0; suite = c.0; codename = e.0 }; takes = (r1, a.1, (r2, b.1, (r3, c.1, (r4, e.1, refl)))) }

-- ---- what is published where
module _ (before : List PublicationView) where
  abbrev pub IsPublishedKind : Kind → Type 0
  IsPublishedKind kind = IsTrue (is_published kind)

  abbrev pub FromKind : Place → Kind → (Head → List Piece → Type 0) → List Piece → Type 0
  FromKind place kind K = TitlesPart place (λ titles. K (record { place = place; kind = kind; titles = titles }))

  abbrev pub FromPlace : Place → (Head → List Piece → Type 0) → List Piece → Type 0
  FromPlace place K = Line kind_line IsPublishedKind (λ kind. FromKind place kind K)

  pub at_place : (text : List ℕ) → NoLine publication_line (IsNextPlace before) text → Stops (HeadPart before) text (length text)
  at_place text none = at_line (place_form Free before) FromPlace text none

  module _ (text r1 : List ℕ) (place : Place) (a : ReadsLine publication_line (IsNextPlace before) text place r1) where
    pub at_kind : NoLine kind_line IsPublishedKind r1 → Stops (HeadPart before) text (length r1)
    at_kind none = past_line (place_form Free before) FromPlace tt text r1 (length r1) place a (at_line (kind_form Free before) (FromKind place) r1 none)

    module _ (r2 : List ℕ) (kind : Kind) (b : ReadsLine kind_line IsPublishedKind r1 kind r2) where
      pub at_titles : (left : ℕ) → Stops (TitlesPart place) r2 left → Stops (HeadPart before) text left
      at_titles left s =
          past_line (place_form Free before) FromPlace tt text r1 left place a (past_line (kind_form Free before) (FromKind place) tt r1 r2 left kind b
          (stops_to (titles_form Free place) (λ titles. record { place = place; kind = kind; titles = titles }) r2 left s))

      pub head_read : (r3 : List ℕ) (titles : Titles) → ReadsPart titles_pieces (GoodTitles place) r2 titles r3 → ReadsPart head_pieces (GoodHead before) text (record { place = place; kind = kind; titles = titles }) r3
      head_read r3 titles t = record { good = record { place = a.0; kind = b.0; titles = t.good }; takes = (r1, a.1, (r2, b.1, t.takes)) }

-- ---- sources
module _ (Has : List ℕ → Type 0) where
  abbrev pub SourcesFrom : ℕ → (List (List ℕ × List ℕ) → List Piece → Type 0) → List Piece → Type 0
  SourcesFrom n K = Series n (NextSource Has) [] K

  pub at_sources : (text : List ℕ) → NoLine sources_line IsAny text → Stops (SourcesPart Has) text (length text)
  at_sources text none = at_line (sources_count_form Free Has) SourcesFrom text none

  pub past_sources : (text rest : List ℕ) (n left : ℕ) → IsLine text (sources_line n) rest → Stops (Series n (NextSource Has) []) rest left → Stops (SourcesPart Has) text left
  past_sources text rest n left l s = past_line (sources_count_form Free Has) SourcesFrom tt text rest left n (tt, l) s

  pub sources_read : (text mid : List ℕ) (n : ℕ) → IsLine text (sources_line n) mid → (xs : List (List ℕ × List ℕ)) (rest : List ℕ) → ReadsSeries (line_of source_line) (IsNextSource Has) n mid xs rest → ReadsPart sources_pieces (GoodSources Has) text xs rest
  sources_read text mid n l xs rest r = record {
    good = r.good;
    takes = (mid, subst (λ (k : ℕ). IsLine text (sources_line k) mid) (sym r.counted) l, subst (λ (ys : List Piece). Takes mid ys rest) (flat_map_single (λ source. alone (source_line source)) xs) r.takes);
  }

  pub stops_source : (count : ℕ) (text rest : List ℕ) (xs : List (List ℕ × List ℕ)) → length xs < count → GoodSources Has xs → Takes text (flat_map (line_of source_line) xs) rest → NoLine source_line (IsNextSource Has xs) rest → Stops (Series count (NextSource Has) []) text (length rest)
  stops_source count text rest xs few g t none = stops_each (source_form Free Has) tt count text rest xs (length rest) few g t (stops_at_line source_line (IsNextSource Has xs) rest none)

  pub stops_more_sources : (a n : ℕ) (text : List ℕ) (left : ℕ) → a ≤ n → Stops (Series a (NextSource Has) []) text left → Stops (Series n (NextSource Has) []) text left
  stops_more_sources a n text left le s = stops_longer (source_form Free Has) a n text left le s

-- ---- members
module _ (known : List Card) (architectures : List (List ℕ)) where
  pub fits_not : (list : List Card) (text rest : List ℕ) (place : ℕ) (fits : Bool) (h : NamesKnown known text place rest) → IsAscending package_cmp known → ((p : Card) → slice_get known place ≡ Some p → fits ≡ is_for architectures p) → fits ≡ false → IdsApart known → NoLine id_of (MayJoinPart known architectures list) text
  fits_not list text rest place fits h sorted is f apart a behind m l =
      let same : a ≡ h.0 = apart a h.0 m.join.known_is (known_at known place h.0 sorted h.1) (sym (line_unique text (id_of h.0) (id_of a) rest behind h.2 l).0) in
      true≢false (sym m.fits ∙ ap (is_for architectures) same ∙ sym (is h.0 h.1) ∙ f)

  pub joins_part : (list after : List Card) (text rest : List ℕ) (place : ℕ) (fits done : Bool) (h : NamesKnown known text place rest) → IsAscending package_cmp known → ((p : Card) → slice_get known place ≡ Some p → fits ≡ is_for architectures p) → fits ≡ true → done ≡ true
      → (IsTrue done ↔ (AllLess package_cmp list h.0 × IsFalse (clashes list h.0))) → after ≡ (if done then list ++ h.0 ∷ [] else list) → AddsPartMember known architectures list text after rest
  joins_part list after text rest place fits done h sorted is f t answer e =
      let both = answer.0 t in (
        h.0,
        (record { join = record { known_is = known_at known place h.0 sorted h.1; after = both.0; apart = both.1 }; fits = sym (is h.0 h.1) ∙ f }, h.2),
        e ∙ ap (λ b. if b then list ++ h.0 ∷ [] else list) t,
      )

  abbrev pub MembersFrom : ℕ → (List Card → List Piece → Type 0) → List Piece → Type 0
  MembersFrom n K = Series n (NextPartMember known architectures) [] K

  pub stops_part_member : IdsApart known → (count : ℕ) (text rest : List ℕ) (xs : List Card) → length xs < count → Each (MayJoinPart known architectures) [] xs → Takes text (flat_map member_pieces xs) rest → NoLine id_of (MayJoinPart known architectures xs) rest → Stops (Series count (NextPartMember known architectures) []) text (length rest)
  stops_part_member apart count text rest xs few g t none = stops_each (part_member_form known architectures) apart count text rest xs (length rest) few g t (stops_at_line id_of (MayJoinPart known architectures xs) rest none)

  pub at_part : (text : List ℕ) (most : ℕ) → most ≡ limit_number Packages → NoLine set_line (λ n. n ≤ most) text → Stops (PartSet known architectures) text (length text)
  at_part text most e none = at_line (set_count_form known architectures) MembersFrom text (subst (λ (m : ℕ). NoLine set_line (λ n. n ≤ m) text) e none)

  pub past_part : IdsApart known → (text rest : List ℕ) (n most left : ℕ) → most ≡ limit_number Packages → n ≤ most → IsLine text (set_line n) rest → Stops (Series n (NextPartMember known architectures) []) rest left → Stops (PartSet known architectures) text left
  past_part apart text rest n most left e few l s = past_line (set_count_form known architectures) MembersFrom apart text rest left n (subst (λ (m : ℕ). n ≤ m) e few, l) s

  pub part_read : (text mid : List ℕ) (n most : ℕ) → most ≡ limit_number Packages → n ≤ most → IsLine text (set_line n) mid → (xs : List Card) (rest : List ℕ) → ReadsSeries member_pieces (MayJoinPart known architectures) n mid xs rest → ReadsPart set_pieces (GoodPartSet known architectures) text xs rest
  unfolding set_pieces
  part_read text mid n most e few l xs rest r = record {
    good = (let c = r.counted in omega arith, r.good);
    takes = (mid, subst (λ (k : ℕ). IsLine text (set_line k) mid) (sym r.counted) l, subst (λ (ys : List Piece). Takes mid ys rest) (flat_map_single (λ p. alone (id_of p)) xs) r.takes);
  }

  -- ---- the lists of a generation
  abbrev pub Part : Type 0
  Part = List ℕ × List Card

  abbrev pub IsGood : Part → Type 0
  IsGood part = GoodPartSet known architectures part.1

  cut_place : {X : Type 0} (xs : List X) (i : ℕ) (x : X) → slice_get xs i ≡ Some x → xs ≡ take i xs ++ x ∷ drop (suc i) xs
  cut_place [] i x e = cc
  cut_place (y ∷ ys) zero x e = let same : y ≡ x = cc in λ i. same i ∷ ys
  cut_place (y ∷ ys) (suc i) x e = ap (λ l. y ∷ l) (cut_place ys i x e)

  pub found_at : {X : Type 0} (xs : List X) (i : ℕ) (x : X) → i < length xs → x ≡ get_or xs i x → slice_get xs i ≡ Some x
  found_at [] i x l e = absurd (omega arith)
  found_at (y ∷ ys) zero x l e = ap Some (sym e)
  found_at (y ∷ ys) (suc i) x l e = found_at ys i x (omega arith) e

  pub at_parts : IdsApart known → (text mid : List ℕ) (left : ℕ) (sources : List (List ℕ × List ℕ)) (parts : List Part) (i : ℕ) (source : List ℕ × List ℕ) → slice_get sources i ≡ Some source → components_of parts ≡ components_of (take i sources)
      → All IsGood parts → Takes text (parts_pieces parts) mid → Stops (PartSet known architectures) mid left → Stops (Parts known architectures (components_of sources)) text left
  at_parts apart text mid left sources parts i source e named good t s =
      subst (λ (cs : List (List ℕ)). Stops (Parts known architectures cs) text left)
      (ap (λ cs. cs ++ source.0 ∷ components_of (drop (suc i) sources)) named ∙ sym (map-append (λ one. one.0) (take i sources) (source ∷ drop (suc i) sources)) ∙ ap components_of (sym (cut_place sources i source e)))
      (stops_part known architectures apart parts source.0 (components_of (drop (suc i) sources)) text mid left good t s)

  all_push : {X : Type 0} (P : X → Type 0) (xs : List X) (x : X) → All P xs → P x → All P (xs ++ x ∷ [])
  all_push P [] x a h = all_cons P x [] h (all_none P)
  all_push P (y ∷ ys) x a h = all_cons P y (ys ++ x ∷ []) (a 0 y (omega arith)) (all_push P ys x (all_tail P y ys a) h)

  take_next : {X : Type 0} (xs : List X) (i : ℕ) (x : X) → slice_get xs i ≡ Some x → take (i + 1) xs ≡ take i xs ++ x ∷ []
  take_next [] i x e = cc
  take_next (y ∷ ys) zero x e = let same : y ≡ x = cc in ap (λ n. take n (y ∷ ys)) {x = 0 + 1} {y = suc zero} (omega arith) ∙ ap (λ z. z ∷ []) same
  take_next (y ∷ ys) (suc i) x e = ap (λ n. take n (y ∷ ys)) {x = suc i + 1} {y = suc (i + 1)} (omega arith) ∙ ap (λ l. y ∷ l) (take_next ys i x e)

  -- one part more
  pub record PartsRead (sources : List (List ℕ × List ℕ)) (count : ℕ) (text : List ℕ) (parts : List Part) (rest : List ℕ) : Type 0 where
    pub named : components_of parts ≡ components_of (take count sources)
    pub good : All IsGood parts
    pub takes : Takes text (parts_pieces parts) rest

  pub parts_more : (sources : List (List ℕ × List ℕ)) (i : ℕ) (source : List ℕ × List ℕ) (text mid rest : List ℕ) (parts after : List Part) (component : List ℕ) (list : List Card) → slice_get sources i ≡ Some source → PartsRead sources i text parts mid
      → component ≡ source.0 → ReadsPart set_pieces (GoodPartSet known architectures) mid list rest → after ≡ parts ++ (component, list) ∷ [] → PartsRead sources (i + 1) text after rest
  parts_more sources i source text mid rest parts after component list e r c s a = subst (λ (l : List Part). PartsRead sources (i + 1) text l rest) (sym a) (record {
    named = map-append (λ one. one.0) parts ((component, list) ∷ []) ∙ (λ j. r.named j ++ c j ∷ []) ∙ sym (map-append (λ one. one.0) (take i sources) (source ∷ [])) ∙ ap components_of (sym (take_next sources i source e));
    good = all_push IsGood parts (component, list) r.good s.good;
    takes = takes_push (λ (part : Part). set_pieces part.1) parts (component, list) text mid rest r.takes s.takes;
  })

  -- ---- generations
  module _ (components : List (List ℕ)) where
    abbrev pub FromMoment : ℕ → (GenerationView → List Piece → Type 0) → List Piece → Type 0
    FromMoment moment K = Parts known architectures components (λ parts. K (record { moment = pos moment; parts = parts }))

    pub at_generation : (key text : List ℕ) (most : ℕ) → most ≡ limit_number Date → NoLine (λ n. key ++ decimal n) (λ n. n ≤ most) text → Stops (GenerationPart known architectures components (λ n. key ++ decimal n)) text (length text)
    at_generation key text most e none = at_number key (limit_number Date) (omega arith) FromMoment text (subst (λ (m : ℕ). NoLine (λ n. key ++ decimal n) (λ n. n ≤ m) text) e none)

    pub past_generation : (key text rest : List ℕ) (n most left : ℕ) → most ≡ limit_number Date → n ≤ most → IsLine text (key ++ decimal n) rest → Stops (Parts known architectures components) rest left → Stops (GenerationPart known architectures components (λ n. key ++ decimal n)) text left
    past_generation key text rest n most left e few l s =
        past_number key (limit_number Date) (omega arith) FromMoment text rest left n (subst (λ (m : ℕ). n ≤ m) e few) l
        (stops_to (parts_form known architectures components) (λ parts. record { moment = pos n; parts = parts }) rest left s)

    pub generation_read : (key text mid rest : List ℕ) (n most : ℕ) (parts : List Part) (generation : GenerationView) → most ≡ limit_number Date → n ≤ most → IsLine text (key ++ decimal n) mid → ReadsPart parts_pieces (GoodParts known architectures components) mid parts rest
        → generation ≡ record { moment = pos n; parts = parts } → ReadsPart (generation_pieces (λ n. key ++ decimal n)) (GoodGeneration known architectures components) text generation rest
    generation_read key text mid rest n most parts generation e few l r is = subst (λ (g : GenerationView). ReadsPart (generation_pieces (λ n. key ++ decimal n)) (GoodGeneration known architectures components) text g rest) (sym is) (record {
      good = record { moment = refl; early = subst (λ (m : ℕ). n ≤ m) e few; parts = r.good };
      takes = (mid, l, r.takes);
    })

    abbrev pub Previous : Bool → (Option GenerationView → List Piece → Type 0) → List Piece → Type 0
    Previous later K = PreviousPart known architectures components later K

    pub at_before : (text : List ℕ) (later : Bool) (left : ℕ) → later ≡ true → Stops (GenerationPart known architectures components previous_line) text left → Stops (Previous later) text left
    at_before text later left t s = subst (λ (b : Bool). Stops (Previous b) text left) (sym t) (stops_to (before_form known architectures components) (λ g. Some g) text left s)

    pub before_read : (text rest : List ℕ) (later : Bool) (generation : GenerationView) → later ≡ true → ReadsPart (generation_pieces previous_line) (GoodGeneration known architectures components) text generation rest → ReadsPart previous_pieces (GoodPrevious known architectures components later) text (Some generation) rest
    before_read text rest later generation t r = subst (λ (b : Bool). ReadsPart previous_pieces (GoodPrevious known architectures components b) text (Some generation) rest) (sym t) (record { good = r.good; takes = r.takes })

    pub at_none : (text : List ℕ) (later : Bool) → later ≡ false → ((behind : List ℕ) → IsLine text (codes "previous -") behind → ⊥) → Stops (Previous later) text (length text)
    at_none text later f none = subst (λ (b : Bool). Stops (Previous b) text (length text)) (sym f) (of (stops_at_line {A = Unit {0}} (λ u. codes "previous -") (λ u. Unit {0}) text (λ u behind g l. none behind l)))
      where
        of : Stops (Line {A = Unit {0}} (λ u. codes "previous -") (λ u. Unit {0})) text (length text) → Stops (Previous false) text (length text)
        of s = record {
          good = s.good;
          rest = s.rest;
          takes = s.takes;
          left_is = s.left_is;
          stand = s.stand;
          bad = s.bad;
        }

    pub none_read : (text rest : List ℕ) (later : Bool) → later ≡ false → IsLine text (codes "previous -") rest → ReadsPart previous_pieces (GoodPrevious known architectures components later) text None rest
    none_read text rest later f l = subst (λ (b : Bool). ReadsPart previous_pieces (GoodPrevious known architectures components b) text None rest) (sym f) (record { good = tt; takes = (rest, l, refl) })

-- ---- the sources and the generations of a publication
module _ (known : List Card) (has : Kind → List ℕ → Bool) where
  module _ (head : Head) (architectures : List (List ℕ)) (serial : ℕ) where
    abbrev pub Contents : (PublicationView → List Piece → Type 0) → List Piece → Type 0
    Contents K = ContentsPart known has head architectures serial K

    abbrev pub Has : List ℕ → Type 0
    Has name = IsTrue (has head.kind name)

    pub in_sources : (text : List ℕ) (left : ℕ) → Stops (SourcesPart Has) text left → Stops Contents text left
    in_sources text left s = stops_in (sources_form (IdsApart known) Has) (FromSources known has head architectures serial) text left s

    module _ (apart : IdsApart known) (text mid : List ℕ) (sources : List (List ℕ × List ℕ)) (r : ReadsPart sources_pieces (GoodSources Has) text sources mid) where
      pub in_current : (left : ℕ) → Stops (GenerationPart known architectures (components_of sources) current_line) mid left → Stops Contents text left
      in_current left s =
          stops_past (sources_form (IdsApart known) Has) (FromSources known has head architectures serial) apart text mid left sources r.good r.takes
          (stops_in (current_form known architectures (components_of sources)) (FromCurrent known has head architectures serial sources) mid left s)

      pub in_previous : (rest : List ℕ) (current : GenerationView) → ReadsPart (generation_pieces current_line) (GoodGeneration known architectures (components_of sources)) mid current rest → (left : ℕ)
          → Stops (PreviousPart known architectures (components_of sources) (nat_lt 1 serial)) rest left → Stops Contents text left
      in_previous rest current q left s =
          stops_past (sources_form (IdsApart known) Has) (FromSources known has head architectures serial) apart text mid left sources r.good r.takes
          (stops_past (current_form known architectures (components_of sources)) (FromCurrent known has head architectures serial sources) apart mid rest left current q.good q.takes
          (stops_to (previous_form known architectures (components_of sources) (nat_lt 1 serial)) (published head architectures serial sources current) rest left s))

    pub contents_read : (text mid end rest : List ℕ) (sources : List (List ℕ × List ℕ)) (current : GenerationView) (previous : Option GenerationView) (publication : PublicationView) → ReadsPart sources_pieces (GoodSources Has) text sources mid
        → ReadsPart (generation_pieces current_line) (GoodGeneration known architectures (components_of sources)) mid current end → ReadsPart previous_pieces (GoodPrevious known architectures (components_of sources) (nat_lt 1 serial)) end previous rest
        → publication ≡ published head architectures serial sources current previous → ReadsPart contents_pieces (GoodContents known has head architectures serial) text publication rest
    contents_read text mid end rest sources current previous publication r q p e = subst (λ (x : PublicationView). ReadsPart contents_pieces (GoodContents known has head architectures serial) text x rest) (sym e) (record {
      good = record { sources = r.good; current = q.good; previous = p.good; made = refl };
      takes = takes_both text mid rest (sources_pieces sources) (generation_pieces current_line current ++ previous_pieces previous) r.takes
          (takes_both mid end rest (generation_pieces current_line current) (previous_pieces previous) q.takes p.takes);
    })

  -- ---- a publication
  module _ (before : List PublicationView) where
    abbrev pub Next : (PublicationView → List Piece → Type 0) → List Piece → Type 0
    Next K = NextPublication known has before K

    pub in_head : (text : List ℕ) (left : ℕ) → Stops (HeadPart before) text left → Stops Next text left
    unfolding NextPublication
    in_head text left s = stops_in (head_form (IdsApart known) before) (FromHead known has before) text left s

    module _ (text r1 : List ℕ) (head : Head) (h : ReadsPart head_pieces (GoodHead before) text head r1) where
      pub at_architectures : IdsApart known → NoLine architectures_line ArePublished r1 → Stops Next text (length r1)
      unfolding NextPublication
      at_architectures apart none =
          stops_past (head_form (IdsApart known) before) (FromHead known has before) apart text r1 (length r1) head h.good h.takes
          (at_line (architectures_form (IdsApart known)) (FromSerial known has before head) r1 none)

      module _ (r2 : List ℕ) (architectures : List (List ℕ)) (a : ReadsLine architectures_line ArePublished r1 architectures r2) where
        abbrev pub Rest : ℕ → (PublicationView → List Piece → Type 0) → List Piece → Type 0
        Rest serial K = ContentsPart known has head architectures serial K

        pub at_serial : IdsApart known → NoLine serial_line IsSerial r2 → Stops Next text (length r2)
        unfolding NextPublication
        at_serial apart none =
            stops_past (head_form (IdsApart known) before) (FromHead known has before) apart text r1 (length r2) head h.good h.takes
            (past_line (architectures_form (IdsApart known)) (FromSerial known has before head) apart r1 r2 (length r2) architectures a
            (at_line (serial_form (IdsApart known)) Rest r2 none))

        module _ (r3 : List ℕ) (serial : ℕ) (b : ReadsLine serial_line IsSerial r2 serial r3) where
          pub in_contents : IdsApart known → (left : ℕ) → Stops (Rest serial) r3 left → Stops Next text left
          unfolding NextPublication
          in_contents apart left s =
              stops_past (head_form (IdsApart known) before) (FromHead known has before) apart text r1 left head h.good h.takes
              (past_line (architectures_form (IdsApart known)) (FromSerial known has before head) apart r1 r2 left architectures a
              (past_line (serial_form (IdsApart known)) Rest apart r2 r3 left serial b s))

          pub publication_read : (publication : PublicationView) (rest : List ℕ) → ReadsPart contents_pieces (GoodContents known has head architectures serial) r3 publication rest → ReadsPart publication_pieces (GoodPublication known has before) text publication rest
          unfolding publication_pieces
          publication_read publication rest p = subst (λ (x : PublicationView). ReadsPart publication_pieces (GoodPublication known has before) text x rest) p.good.made (of p)
            where
              of : ReadsPart contents_pieces (GoodContents known has head architectures serial) r3 publication rest
                  → ReadsPart publication_pieces (GoodPublication known has before) text (published head architectures serial publication.sources publication.current publication.previous) rest
              of p = record {
                good = record { head = h.good; architectures = a.0; serial = b.0; contents = record { sources = p.good.sources; current = p.good.current; previous = p.good.previous; made = refl } };
                takes = takes_both text r1 rest (head_pieces head) (alone (architectures_line architectures) ∷ alone (serial_line serial) ∷ contents_pieces publication) h.takes (r2, a.1, (r3, b.1, p.takes));
              }

  pub stops_publications : IdsApart known → (count : ℕ) (text rest : List ℕ) (xs : List PublicationView) (left : ℕ) → length xs < count → Each (GoodPublication known has) [] xs → Takes text (flat_map publication_pieces xs) rest → Stops (NextPublication known has xs) rest left → Stops (Series count (NextPublication known has) []) text left
  stops_publications apart count text rest xs left few g t s = stops_each (publication_form known has) apart count text rest xs left few g t s

-- ---- all publications
module _ (known : List Card) (repos : List Repo) (snapshots : List Snapshot) where
  abbrev pub PublicationsFrom : ℕ → (List PublicationView → List Piece → Type 0) → List Piece → Type 0
  PublicationsFrom n K = Series n (NextPublication known (has_source_in repos snapshots)) [] K

  pub at_publications : (text : List ℕ) (most : ℕ) → most ≡ limit_number Publications → NoLine publications_line (λ n. n ≤ most) text → Stops (PublicationsPart known repos snapshots) text (length text)
  unfolding PublicationsPart
  at_publications text most e none = at_line (publications_count_form known repos snapshots) PublicationsFrom text (subst (λ (m : ℕ). NoLine publications_line (λ n. n ≤ m) text) e none)

  pub past_publications : IdsApart known → (text rest : List ℕ) (n most left : ℕ) → most ≡ limit_number Publications → n ≤ most → IsLine text (publications_line n) rest → Stops (Series n (NextPublication known (has_source_in repos snapshots)) []) rest left → Stops (PublicationsPart known repos snapshots) text left
  unfolding PublicationsPart
  past_publications apart text rest n most left e few l s = past_line (publications_count_form known repos snapshots) PublicationsFrom apart text rest left n (subst (λ (m : ℕ). n ≤ m) e few, l) s

  pub publications_read : (text mid : List ℕ) (n most : ℕ) → most ≡ limit_number Publications → n ≤ most → IsLine text (publications_line n) mid → (xs : List PublicationView) (rest : List ℕ) → ReadsSeries publication_pieces (GoodPublication known (has_source_in repos snapshots)) n mid xs rest
      → ReadsPart publications_pieces (GoodPublications known repos snapshots) text xs rest
  unfolding publications_pieces
  publications_read text mid n most e few l xs rest r = record {
    good = (let c = r.counted in omega arith, r.good);
    takes = (mid, subst (λ (k : ℕ). IsLine text (publications_line k) mid) (sym r.counted) l, r.takes);
  }
