-- The publications of a root: what is written goes on, what is read is told by it.
use Rattle.std.proofs.Common.{◌≡◌, ℕ, ◌≤◌, Bool, true, false, pos, List, [], ◌∷◌, ◌++◌, length, codes, Option, Some, None, IsTrue, All, refl, sym, ap, subst, arith, append_assoc}
use Rattle.std.specs.Prelude.{nat_lt}
use Rattle.std.specs.List.{flat_map}
use Rattle.std.specs.Fmt.{decimal}
use Rattle.std.proofs.lemmas.Fmt.{decimal_injective}
use Rattle.std.proofs.lemmas.List.{append_cancel_left}
use Rattle.std.proofs.lemmas.List.Concat.{flat_map_single}
use Rattle.package_core.specs.Card.{Card}
use Rattle.machine_state.specs.declared.limit.Kind.{Kind}
use Rattle.machine_state.specs.declared.limit.Kind.TheVariants as kinds
use Rattle.machine_state.specs.declared.limit.Limit.TheVariants.{Packages, Publications, Date}
use Rattle.machine_state.specs.declared.repo.Repo.{Repo}
use Rattle.machine_state.specs.declared.snapshot.Snapshot.{Snapshot}
use Rattle.machine_state.specs.Limits.{limit_number}
use Rattle.machine_state.specs.Publications.{is_published, components_of}
use Rattle.machine_state.specs.Texts.{IsTitle}
use Rattle.machine_state.specs.Values.{GenerationView, PublicationView}
use Rattle.catalogue_publications.specs.declared.publication_values.Head.{Head}
use Rattle.catalogue_publications.specs.declared.publication_values.Titles.{Titles}
use Rattle.catalogue_lines.specs.declared.shared_values.Listed.TheVariants.{Architectures}
use Rattle.catalogue_lines.specs.Pieces.{Piece, alone, Takes}
use Rattle.catalogue_lines.specs.SetLines.{id_of, set_line, set_pieces}
use Rattle.catalogue_lines.specs.PartForms.{Line, Count}
use Rattle.catalogue_lines.specs.NameLines.{architectures_line}
use Rattle.machine_state.specs.Words.{place_text}
use Rattle.catalogue_publications.specs.PublicationLines.{moment_of, publications_line, publication_line, kind_line, origin_line, label_line, suite_line, codename_line, serial_line, sources_line, source_line, current_line, previous_line, parts_pieces, generation_pieces, previous_pieces, sources_pieces, publication_pieces, publications_pieces}
use Rattle.catalogue_publications.specs.PublicationGrammar.{IsNextPlace, TitlesPart, HeadPart, ArePublished, IsSerial, IsNextSource, NextSource, IsAny, SourcesPart, MayJoinPart, NextPartMember, PartSet, Parts, GenerationPart, PreviousPart, published, ContentsPart, NextPublication, has_source_in, PublicationsPart}
use Rattle.catalogue_publications.specs.PublicationReading.{GoodTitles, GoodHead, GoodSources, GoodPartSet, GoodParts, GoodGeneration, GoodPrevious, head_of, titles_pieces, head_pieces, contents_pieces, GoodContents, GoodPublication, GoodPublications}
use Rattle.catalogue_lines.specs.Reading.{Stops, IdsApart}
use Rattle.catalogue_lines.proofs.Parts.{IsPart, IsTold, IsOther, Others, line_of}
use Rattle.catalogue_lines.proofs.KnownParts.{Any, fixed_part, fixed_told, member_pieces}
use Rattle.catalogue_lines.proofs.PlainLemmas.{id_other, set_other}
use Rattle.catalogue_lines.proofs.ValidLemmas.{all_tail}
use Rattle.catalogue_lines.proofs.Forms.{IsForm, form_line, form_count, form_both, form_as, form_when, form_series, stops_in, stops_past, stops_to}
use Rattle.catalogue_publications.proofs.PublicationLineLemmas.{same_place, same_kind_line, numeral_injective, same_source}
use Rattle.catalogue_lines.proofs.SharedValues.{names_apart}

-- what stands for two lists of pieces stands for one and then for the other
pub takes_cut : (xs ys : List Piece) (text rest : List ℕ) → Takes text (xs ++ ys) rest → (mid : List ℕ) × Takes text xs mid × Takes mid ys rest
takes_cut [] ys text rest t = (text, refl, t)
takes_cut (x ∷ xs) ys text rest t = let u = takes_cut xs ys t.0 rest t.2 in (u.0, (t.0, t.1, u.1), u.2)

-- ---- the head of a publication
module _ (Apart : Type 0) where
  title_form : (key default : List ℕ) → ((text : List ℕ) → IsOther (key ++ text)) → IsForm Apart (Line (λ text. key ++ text) (IsTitle default)) (line_of (λ text. key ++ text)) (IsTitle default)
  title_form key default other = form_line (λ text. key ++ text) (IsTitle default) (λ a g. other a) (λ h a b g k e. sym (append_cancel_left key a b e))

  module _ (place : Option (List ℕ) × List ℕ) where
    abbrev pub made : List ℕ → List ℕ → List ℕ → List ℕ → Titles
    made origin label suite codename = record { origin = origin; label = label; suite = suite; codename = codename }

    pub origin_form : IsForm Apart (Line origin_line (IsTitle (place_text place))) (line_of origin_line) (IsTitle (place_text place))
    origin_form = title_form (codes "origin ") (place_text place) (λ text. refl)

    pub label_form : IsForm Apart (Line label_line (IsTitle (place_text place))) (line_of label_line) (IsTitle (place_text place))
    label_form = title_form (codes "label ") (place_text place) (λ text. refl)

    pub suite_form : IsForm Apart (Line suite_line (IsTitle place.1)) (line_of suite_line) (IsTitle place.1)
    suite_form = title_form (codes "suite ") place.1 (λ text. refl)

    pub codename_form : IsForm Apart (Line codename_line (IsTitle place.1)) (line_of codename_line) (IsTitle place.1)
    codename_form = title_form (codes "codename ") place.1 (λ text. refl)

    pub titles_form : IsForm Apart (TitlesPart place) titles_pieces (GoodTitles place)
    titles_form =
        form_when (GoodTitles place) (λ t g. (g.origin, (g.label, (g.suite, (g.codename, refl)))))
        (form_both origin_form (λ t. t.origin) (λ o. form_both label_form (λ t. t.label) (λ l. form_both suite_form (λ t. t.suite) (λ s. form_as codename_form (made o l s) (λ t. t.codename)))))

  module _ (before : List PublicationView) where
    abbrev pub IsKindOf : Kind → Type 0
    IsKindOf kind = IsTrue (is_published kind)

    abbrev pub headed : Option (List ℕ) × List ℕ → Kind → Titles → Head
    headed place kind titles = record { place = place; kind = kind; titles = titles }

    pub place_form : IsForm Apart (Line publication_line (IsNextPlace before)) (line_of publication_line) (IsNextPlace before)
    place_form = form_line publication_line (IsNextPlace before) (λ a g. refl) (λ h a b g k e. same_place b a k.is g.is (sym (append_cancel_left (codes "publication ") (place_text a) (place_text b) e)))

    kind_other : (kind : Kind) → IsOther (kind_line kind)
    kind_other kinds.Repo = refl
    kind_other kinds.Snapshot = refl
    kind_other kinds.Mirror = refl
    kind_other kinds.Component = refl

    pub kind_form : IsForm Apart (Line kind_line IsKindOf) (line_of kind_line) IsKindOf
    kind_form = form_line kind_line IsKindOf (λ a g. kind_other a) (λ h a b g k e. same_kind_line a b g k e)

    pub head_form : IsForm Apart (HeadPart before) head_pieces (GoodHead before)
    head_form =
        form_when (GoodHead before) (λ head g. (g.place, (g.kind, (g.titles, refl))))
        (form_both place_form (λ head. head.place) (λ place. form_both kind_form (λ head. head.kind) (λ kind. form_as (titles_form place) (headed place kind) (λ head. head.titles))))

  pub architectures_form : IsForm Apart (Line architectures_line ArePublished) (line_of architectures_line) ArePublished
  architectures_form =
      form_line architectures_line ArePublished (λ a g. refl)
      (λ h a b g k e. names_apart Architectures b a k.names g.names (sym (append_cancel_left (codes "architectures") _ _ e)))

  pub serial_form : IsForm Apart (Line serial_line IsSerial) (line_of serial_line) IsSerial
  serial_form = form_line serial_line IsSerial (λ a g. refl) (λ h a b g k e. decimal_injective b a (let l = k.last in omega arith) (let l = g.last in omega arith) (sym (append_cancel_left (codes "serial ") _ _ e)))

  -- ---- sources
  module _ (Has : List ℕ → Type 0) where
    pub source_form : (done : List (List ℕ × List ℕ)) → IsForm Apart (NextSource Has done) (line_of source_line) (IsNextSource Has done)
    source_form done = form_line source_line (IsNextSource Has done) (λ a g. refl) (λ h a b g k e. same_source b a k.is g.is (sym e))

    pub sources_count_form : IsForm Apart (Line sources_line IsAny) (line_of sources_line) IsAny
    sources_count_form = form_line sources_line IsAny (λ a g. refl) (λ h a b g k e. numeral_injective b a (sym (append_cancel_left (codes "sources ") _ _ e)))

    sources_is : (sources : List (List ℕ × List ℕ)) → line_of sources_line (length sources) ++ flat_map (line_of source_line) sources ≡ sources_pieces sources
    sources_is sources = ap (λ l. alone (sources_line (length sources)) ∷ l) (flat_map_single (λ source. alone (source_line source)) sources)

    pub sources_form : IsForm Apart (SourcesPart Has) sources_pieces (GoodSources Has)
    sources_form = subst (λ (f : List (List ℕ × List ℕ) → List Piece). IsForm Apart (SourcesPart Has) f (GoodSources Has)) (λ i sources. sources_is sources i)
        (form_when (GoodSources Has) (λ sources g. (tt, (refl, g))) (form_both sources_count_form length (form_series source_form)))

-- ---- the lists of a generation
module _ (known : List Card) (architectures : List (List ℕ)) where
  pub part_member_form : (before : List Card) → IsForm (IdsApart known) (NextPartMember known architectures before) member_pieces (MayJoinPart known architectures before)
  part_member_form before = form_line id_of (MayJoinPart known architectures before) (λ p g. id_other p) (λ apart p q g h e. apart q p h.join.known_is g.join.known_is (sym e))

  set_is : (list : List Card) → line_of set_line (length list) ++ flat_map member_pieces list ≡ set_pieces list
  unfolding set_pieces
  set_is list = ap (λ l. alone (set_line (length list)) ∷ l) (flat_map_single (λ p. alone (id_of p)) list)

  pub set_count_form : IsForm (IdsApart known) (Count set_line (limit_number Packages)) (line_of set_line) (λ n. n ≤ limit_number Packages)
  set_count_form = form_count (codes "set ") (limit_number Packages) (omega arith) set_other

  pub part_set_form : IsForm (IdsApart known) (PartSet known architectures) set_pieces (GoodPartSet known architectures)
  part_set_form = subst (λ (f : List Card → List Piece). IsForm (IdsApart known) (PartSet known architectures) f (GoodPartSet known architectures)) (λ i list. set_is list i)
      (form_when (GoodPartSet known architectures) (λ list g. (g.0, (refl, g.1))) (form_both set_count_form length (form_series part_member_form)))

  abbrev pub PartsOf : List (List ℕ) → (List (List ℕ × List Card) → List Piece → Type 0) → List Piece → Type 0
  PartsOf components = Parts known architectures components

  abbrev pub GoodPartsOf : List (List ℕ) → List (List ℕ × List Card) → Type 0
  GoodPartsOf components = GoodParts known architectures components

  abbrev IsGoodPart : List ℕ × List Card → Type 0
  IsGoodPart part = GoodPartSet known architectures part.1

  tail_good : (c : List ℕ) (cs : List (List ℕ)) (x : List ℕ × List Card) (xs : List (List ℕ × List Card)) → GoodPartsOf (c ∷ cs) (x ∷ xs) → GoodPartsOf cs xs
  tail_good c cs x xs g = record { named = (let e = g.named in cc); each = all_tail IsGoodPart x xs g.each }

  same_head : (c : List ℕ) (cs : List (List ℕ)) (x : List ℕ × List Card) (xs : List (List ℕ × List Card)) → GoodPartsOf (c ∷ cs) (x ∷ xs) → (c, x.1) ∷ xs ≡ x ∷ xs
  same_head c cs x xs g = let e = g.named in let h : c ≡ x.0 = cc in λ i. (h i, x.1) ∷ xs

  parts_along : (components : List (List ℕ)) (K : List (List ℕ × List Card) → List Piece → Type 0) (parts : List (List ℕ × List Card)) (more : List Piece) → GoodPartsOf components parts → K parts more → PartsOf components K (parts_pieces parts ++ more)
  parts_along [] K [] more g k = k
  parts_along [] K (x ∷ xs) more g k = let e = g.named in cc
  parts_along (c ∷ cs) K [] more g k = let e = g.named in cc
  parts_along (c ∷ cs) K (x ∷ xs) more g k =
      subst (PartsOf (c ∷ cs) K) (sym (append_assoc (set_pieces x.1) (parts_pieces xs) more))
      (part_set_form.part.along (λ list. PartsOf cs (λ ps. K ((c, list) ∷ ps))) x.1 (parts_pieces xs ++ more) (g.each 0 x (omega arith))
      (parts_along cs (λ ps. K ((c, x.1) ∷ ps)) xs more (tail_good c cs x xs g) (subst (λ (l : List (List ℕ × List Card)). K l more) (sym (same_head c cs x xs g)) k)))

  parts_mono : (components : List (List ℕ)) (K L : List (List ℕ × List Card) → List Piece → Type 0) → ((a : List (List ℕ × List Card)) (xs : List Piece) → K a xs → L a xs) → (xs : List Piece) → PartsOf components K xs → PartsOf components L xs
  parts_mono [] K L h xs p = h [] xs p
  parts_mono (c ∷ cs) K L h xs p =
      part_set_form.part.mono (λ list. PartsOf cs (λ ps. K ((c, list) ∷ ps))) (λ list. PartsOf cs (λ ps. L ((c, list) ∷ ps)))
      (λ list ys q. parts_mono cs (λ ps. K ((c, list) ∷ ps)) (λ ps. L ((c, list) ∷ ps)) (λ ps zs r. h ((c, list) ∷ ps) zs r) ys q) xs p

  parts_front : (components : List (List ℕ)) (K : List (List ℕ × List Card) → List Piece → Type 0) → ((a : List (List ℕ × List Card)) (xs ys : List Piece) → K a (xs ++ ys) → K a xs) → (xs ys : List Piece) → PartsOf components K (xs ++ ys) → PartsOf components K xs
  parts_front [] K h xs ys p = h [] xs ys p
  parts_front (c ∷ cs) K h xs ys p =
      part_set_form.part.front (λ list. PartsOf cs (λ ps. K ((c, list) ∷ ps)))
      (λ list us vs q. parts_front cs (λ ps. K ((c, list) ∷ ps)) (λ ps zs ws r. h ((c, list) ∷ ps) zs ws r) us vs q) xs ys p

  parts_others : (components : List (List ℕ)) (K : List (List ℕ × List Card) → List Piece → Type 0) → ((a : List (List ℕ × List Card)) (xs : List Piece) → K a xs → Others xs) → (xs : List Piece) → PartsOf components K xs → Others xs
  parts_others [] K h xs p = h [] xs p
  parts_others (c ∷ cs) K h xs p =
      part_set_form.part.others (λ list. PartsOf cs (λ ps. K ((c, list) ∷ ps)))
      (λ list ys q. parts_others cs (λ ps. K ((c, list) ∷ ps)) (λ ps zs r. h ((c, list) ∷ ps) zs r) ys q) xs p

  parts_told : IdsApart known → (components : List (List ℕ)) (K : List (List ℕ × List Card) → List Piece → Type 0) (parts : List (List ℕ × List Card)) (more : List Piece) → GoodPartsOf components parts → PartsOf components K (parts_pieces parts ++ more) → K parts more
  parts_told apart [] K [] more g p = p
  parts_told apart [] K (x ∷ xs) more g p = let e = g.named in cc
  parts_told apart (c ∷ cs) K [] more g p = let e = g.named in cc
  parts_told apart (c ∷ cs) K (x ∷ xs) more g p =
      subst (λ (l : List (List ℕ × List Card)). K l more) (same_head c cs x xs g)
      (parts_told apart cs (λ ps. K ((c, x.1) ∷ ps)) xs more (tail_good c cs x xs g)
      (part_set_form.told apart (λ list. PartsOf cs (λ ps. K ((c, list) ∷ ps))) x.1 (parts_pieces xs ++ more) (g.each 0 x (omega arith))
      (subst (PartsOf (c ∷ cs) K) (append_assoc (set_pieces x.1) (parts_pieces xs) more) p)))

  pub parts_form : (components : List (List ℕ)) → IsForm (IdsApart known) (PartsOf components) parts_pieces (GoodPartsOf components)
  parts_form components = record {
    part = record { along = parts_along components; mono = parts_mono components; front = parts_front components; others = parts_others components };
    told = λ apart. parts_told apart components;
  }

  -- the list of a component stops behind those of the components before it
  pub stops_part : IdsApart known → (done : List (List ℕ × List Card)) (c : List ℕ) (cs : List (List ℕ)) (text mid : List ℕ) (left : ℕ) → All IsGoodPart done → Takes text (parts_pieces done) mid → Stops (PartSet known architectures) mid left
      → Stops (PartsOf (components_of done ++ c ∷ cs)) text left
  stops_part apart [] c cs text mid left g t s =
      stops_in part_set_form (λ list K. PartsOf cs (λ ps. K ((c, list) ∷ ps))) text left (subst (λ (l : List ℕ). Stops (PartSet known architectures) l left) (sym t) s)
  stops_part apart (x ∷ xs) c cs text mid left g t s =
      let u = takes_cut (set_pieces x.1) (parts_pieces xs) text mid t in
      stops_past part_set_form (λ list K. PartsOf (components_of xs ++ c ∷ cs) (λ ps. K ((x.0, list) ∷ ps))) apart text u.0 left x.1 (g 0 x (omega arith)) u.1
      (stops_to (parts_form (components_of xs ++ c ∷ cs)) (λ ps. (x.0, x.1) ∷ ps) u.0 left (stops_part apart xs c cs u.0 mid left (all_tail IsGoodPart x xs g) u.2 s))

  -- ---- a generation
  module _ (key : List ℕ) (other : (n : ℕ) → IsOther (key ++ decimal n)) (components : List (List ℕ)) where
    abbrev pub at_moment : ℕ → List (List ℕ × List Card) → GenerationView
    at_moment moment parts = record { moment = pos moment; parts = parts }

    pub moment_form : IsForm (IdsApart known) (Count (λ n. key ++ decimal n) (limit_number Date)) (line_of (λ n. key ++ decimal n)) (λ n. n ≤ limit_number Date)
    moment_form = form_count key (limit_number Date) (omega arith) other

    same_moment : (generation : GenerationView) → generation.moment ≡ pos (moment_of generation) → at_moment (moment_of generation) generation.parts ≡ generation
    same_moment generation e = λ i. record generation { moment = sym e i }

    pub generation_form : IsForm (IdsApart known) (GenerationPart known architectures components (λ n. key ++ decimal n)) (generation_pieces (λ n. key ++ decimal n)) (GoodGeneration known architectures components)
    generation_form =
        form_when (GoodGeneration known architectures components) (λ generation g. (g.early, (g.parts, same_moment generation g.moment)))
        (form_both moment_form moment_of (λ moment. form_as (parts_form components) (at_moment moment) (λ generation. generation.parts)))

  module _ (components : List (List ℕ)) where
    pub current_form : IsForm (IdsApart known) (GenerationPart known architectures components current_line) (generation_pieces current_line) (GoodGeneration known architectures components)
    current_form = generation_form (codes "current ") (λ n. refl) components

    pub before_form : IsForm (IdsApart known) (GenerationPart known architectures components previous_line) (generation_pieces previous_line) (GoodGeneration known architectures components)
    before_form = generation_form (codes "previous ") (λ n. refl) components

    none_form : IsForm (IdsApart known) (Line {A = Unit {0}} (λ u. codes "previous -") Any) (λ u. alone (codes "previous -") ∷ []) Any
    none_form = record { part = fixed_part (codes "previous -") refl; told = λ apart. fixed_told (codes "previous -") }

    -- the two ways in which the generation before the current one stands there
    pub previous_form : (later : Bool) → IsForm (IdsApart known) (PreviousPart known architectures components later) previous_pieces (GoodPrevious known architectures components later)
    previous_form false = record {
      part = record { along = along; mono = λ K L h. none_form.part.mono (λ u. K None) (λ u. L None) (λ u. h None); front = λ K h. none_form.part.front (λ u. K None) (λ u. h None); others = λ K h. none_form.part.others (λ u. K None) (λ u. h None) };
      told = λ apart. told;
    }
      where
        along : (K : Option GenerationView → List Piece → Type 0) (a : Option GenerationView) (more : List Piece) → GoodPrevious known architectures components false a → K a more → PreviousPart known architectures components false K (previous_pieces a ++ more)
        along K None more g k = none_form.part.along (λ u. K None) tt more tt k
        along K (Some x) more g k = absurd g

        told : (K : Option GenerationView → List Piece → Type 0) (a : Option GenerationView) (more : List Piece) → GoodPrevious known architectures components false a → PreviousPart known architectures components false K (previous_pieces a ++ more) → K a more
        told K None more g p = p.3
        told K (Some x) more g p = absurd g
    previous_form true = record {
      part = record { along = along; mono = λ K L h. before_form.part.mono (λ x. K (Some x)) (λ x. L (Some x)) (λ x. h (Some x)); front = λ K h. before_form.part.front (λ x. K (Some x)) (λ x. h (Some x)); others = λ K h. before_form.part.others (λ x. K (Some x)) (λ x. h (Some x)) };
      told = told;
    }
      where
        along : (K : Option GenerationView → List Piece → Type 0) (a : Option GenerationView) (more : List Piece) → GoodPrevious known architectures components true a → K a more → PreviousPart known architectures components true K (previous_pieces a ++ more)
        along K None more g k = absurd g
        along K (Some x) more g k = before_form.part.along (λ y. K (Some y)) x more g k

        told : IdsApart known → (K : Option GenerationView → List Piece → Type 0) (a : Option GenerationView) (more : List Piece) → GoodPrevious known architectures components true a → PreviousPart known architectures components true K (previous_pieces a ++ more) → K a more
        told apart K None more g p = absurd g
        told apart K (Some x) more g p = before_form.told apart (λ y. K (Some y)) x more g p

-- ---- a publication
module _ (known : List Card) (has : Kind → List ℕ → Bool) where
  module _ (head : Head) (architectures : List (List ℕ)) (serial : ℕ) where
    abbrev pub FromCurrent : List (List ℕ × List ℕ) → GenerationView → (PublicationView → List Piece → Type 0) → List Piece → Type 0
    FromCurrent sources current K = PreviousPart known architectures (components_of sources) (nat_lt 1 serial) (λ previous. K (published head architectures serial sources current previous))

    abbrev pub FromSources : List (List ℕ × List ℕ) → (PublicationView → List Piece → Type 0) → List Piece → Type 0
    FromSources sources K = GenerationPart known architectures (components_of sources) current_line (λ current. FromCurrent sources current K)

    abbrev pub HasIn : List ℕ → Type 0
    HasIn name = IsTrue (has head.kind name)

    pub contents_form : IsForm (IdsApart known) (ContentsPart known has head architectures serial) contents_pieces (GoodContents known has head architectures serial)
    contents_form =
        form_when (GoodContents known has head architectures serial) (λ p g. (g.sources, (g.current, (g.previous, g.made))))
        (form_both (sources_form (IdsApart known) HasIn) (λ p. p.sources) (λ sources. form_both (current_form known architectures (components_of sources)) (λ p. p.current)
        (λ current. form_as (previous_form known architectures (components_of sources) (nat_lt 1 serial)) (published head architectures serial sources current) (λ p. p.previous))))

  module _ (before : List PublicationView) where
    abbrev pub FromSerial : Head → List (List ℕ) → (PublicationView → List Piece → Type 0) → List Piece → Type 0
    FromSerial head architectures K = Line serial_line IsSerial (λ serial. ContentsPart known has head architectures serial K)

    abbrev pub FromHead : Head → (PublicationView → List Piece → Type 0) → List Piece → Type 0
    FromHead head K = Line architectures_line ArePublished (λ architectures. FromSerial head architectures K)

    good_publication : (publication : PublicationView) → GoodPublication known has before publication
        → GoodHead before (head_of publication) × (ArePublished publication.architectures × (IsSerial publication.serial × GoodContents known has (head_of publication) publication.architectures publication.serial publication))
    good_publication publication g = (g.head, (g.architectures, (g.serial, g.contents)))

    pub publication_form : IsForm (IdsApart known) (NextPublication known has before) publication_pieces (GoodPublication known has before)
    unfolding NextPublication publication_pieces
    publication_form =
        form_when (GoodPublication known has before) good_publication
        (form_both (head_form (IdsApart known) before) head_of (λ head. form_both (architectures_form (IdsApart known)) (λ p. p.architectures)
        (λ architectures. form_both (serial_form (IdsApart known)) (λ p. p.serial) (λ serial. contents_form head architectures serial))))

-- ---- all publications
module _ (known : List Card) (repos : List Repo) (snapshots : List Snapshot) where
  pub publications_count_form : IsForm (IdsApart known) (Count publications_line (limit_number Publications)) (line_of publications_line) (λ n. n ≤ limit_number Publications)
  publications_count_form = form_count (codes "publications ") (limit_number Publications) (omega arith) (λ n. refl)

  pub publications_form : IsForm (IdsApart known) (PublicationsPart known repos snapshots) publications_pieces (GoodPublications known repos snapshots)
  unfolding PublicationsPart publications_pieces
  publications_form =
      form_when (GoodPublications known repos snapshots) (λ publications g. (g.0, (refl, g.1)))
      (form_both publications_count_form length (form_series (publication_form known (has_source_in repos snapshots))))

  -- what is written can stand and goes on
  pub publications_part : IsPart (PublicationsPart known repos snapshots) publications_pieces (GoodPublications known repos snapshots)
  publications_part = publications_form.part

  -- what is read is told by it
  pub publications_told : IdsApart known → IsTold (PublicationsPart known repos snapshots) publications_pieces (GoodPublications known repos snapshots)
  publications_told = publications_form.told
