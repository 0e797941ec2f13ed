-- Publications that were read are those of a valid state, and the other way round.
use Rattle.std.proofs.Common.{◌≡◌, ℕ, ◌<◌, ◌≤◌, ◌↔◌, Bool, true, false, ℤ, pos, negsuc, List, [], ◌∷◌, ◌++◌, get_or, Option, Some, None, is_some, IsTrue, All, refl, sym, ap, ◌∙◌, subst, arith, append_assoc, Less, le→leb, leb→le}
use Rattle.std.specs.Prelude.{nat_lt, ◌≤ℤ◌, find, if◌then◌else◌}
use Rattle.std.specs.Option.{option_to_list}
use Rattle.std.specs.Ordering.{nat_cmp}
use Rattle.std.specs.Cmp.Lexicographic.{slice_cmp}
use Rattle.std.specs.Str.{bytes_eq}
use Rattle.std.proofs.lemmas.Bool.{true≢false}
use Rattle.std.proofs.lemmas.Bool.Decides.{nat_tests}
use Rattle.ap_text.specs.Names.{is_name, is_component}
use Rattle.package_core.specs.Card.{Card}
use Rattle.machine_state.specs.declared.limit.Kind.{Kind}
use Rattle.machine_state.specs.declared.limit.Kind.TheVariants as kinds
use Rattle.machine_state.specs.declared.limit.Limit.TheVariants.{Date}
use Rattle.machine_state.specs.declared.repo.Repo.{Repo}
use Rattle.machine_state.specs.declared.snapshot.Snapshot.{Snapshot}
use Rattle.machine_state.specs.Ascending as ascending
use Rattle.machine_state.specs.Limits.{limit_number}
use Rattle.machine_state.specs.Lists.{IsNamedList}
use Rattle.machine_state.specs.Named.{named_cmp}
use Rattle.machine_state.specs.Publications.{is_for, components_of, IsGeneration, IsPublication, GenerationLists, PublicationLists}
use Rattle.machine_state.specs.State.{Valid, ArePublications, HasSources, has_source, publication_cmp, IsRepo, IsSnapshot, repo_name, snapshot_name}
use Rattle.machine_state.specs.Texts.{AreNames}
use Rattle.machine_state.specs.Values.{GenerationView, PublicationView, StateView}
use Rattle.catalogue_publications.specs.PublicationLines.{natural, moment_of}
use Rattle.catalogue_publications.specs.PublicationGrammar.{IsNextSource, MayJoinPart, has_source_in}
use Rattle.catalogue_publications.specs.PublicationReading.{component_of, GoodSources, GoodPartSet, GoodGeneration, GoodPrevious, GoodPublication, GoodPublications}
use Rattle.catalogue_lines.specs.PartForms.{MayJoin}
use Rattle.catalogue_lines.specs.Reading.{Each}
use Rattle.catalogue_lines.proofs.LineLemmas.{same_bytes}
use Rattle.catalogue_lines.proofs.ValidLemmas.{all_cons, all_tail, all_none, sorted_each, apart_each, each_join, all_known}
use Rattle.catalogue_lines.proofs.NameLemmas.{names_before, names_each}
use Rattle.catalogue_publications.proofs.PublicationRead.{places_each}
use Rattle.catalogue_lines.proofs.OrderLemmas.{rising_before}

-- ---- the two places of a source
there_is : (state : StateView) (kind : Kind) (name : List ℕ) → has_source_in state.repos state.snapshots kind name ≡ has_source state kind name
there_is state kinds.Repo name = refl
there_is state kinds.Snapshot name = refl
there_is state kinds.Mirror name = refl
there_is state kinds.Component name = refl

-- ---- from what was read
module _ (known : List Card) where
  part_join : (architectures : List (List ℕ)) (done xs : List Card) → Each (MayJoinPart known architectures) done xs → Each (MayJoin known) done xs
  part_join architectures done [] e = tt
  part_join architectures done (x ∷ xs) e = (e.0.join, part_join architectures (done ++ x ∷ []) xs e.1)

  part_fits : (architectures : List (List ℕ)) (done xs : List Card) → Each (MayJoinPart known architectures) done xs → All (λ p. IsTrue (is_for architectures p)) xs
  part_fits architectures done [] e = all_none (λ p. IsTrue (is_for architectures p))
  part_fits architectures done (x ∷ xs) e = all_cons (λ p. IsTrue (is_for architectures p)) x xs e.0.fits (part_fits architectures (done ++ x ∷ []) xs e.1)

  part_list : (architectures : List (List ℕ)) (list : List Card) → GoodPartSet known architectures list → IsNamedList known list
  part_list architectures list g = let e = part_join architectures [] list g.1 in record {
    sorted = sorted_each (MayJoin known) (λ done x m. m.after) [] list tt e;
    apart = apart_each known [] list refl e;
    listed = all_known known [] list e;
    few = g.0;
  }

  module _ (architectures components : List (List ℕ)) where
    abbrev IsGen : GenerationView → Type 0
    IsGen = IsGeneration architectures components

    generation_is : (generation : GenerationView) → GoodGeneration known architectures components generation → IsGen generation
    generation_is generation g = record {
      after = subst (λ (z : ℤ). pos 0 ≤ℤ z) (sym g.moment) (not_negative (moment_of generation));
      before = subst (λ (z : ℤ). z ≤ℤ pos (limit_number Date)) (sym g.moment) (at_most (moment_of generation) (limit_number Date) g.early);
      named = g.parts.named;
      members = λ k d l. part_fits architectures [] (get_or generation.parts k d).1 (g.parts.each k d l).1;
    }
      where
        not_negative : (n : ℕ) → pos 0 ≤ℤ pos n
        not_negative n = record { le = le→leb 0 n (omega arith) }

        at_most : (m n : ℕ) → m ≤ n → pos m ≤ℤ pos n
        at_most m n l = record { le = le→leb m n l }

    generation_lists : (generation : GenerationView) → GoodGeneration known architectures components generation → GenerationLists known generation
    generation_lists generation g k d l = part_list architectures (get_or generation.parts k d).1 (g.parts.each k d l)

    previous_is : (later : Bool) (previous : Option GenerationView) → GoodPrevious known architectures components later previous → All IsGen (option_to_list previous) × All (GenerationLists known) (option_to_list previous)
    previous_is false None g = (all_none IsGen, all_none (GenerationLists known))
    previous_is false (Some x) g = absurd g
    previous_is true None g = absurd g
    previous_is true (Some x) g = (all_cons IsGen x [] (generation_is x g) (all_none IsGen), all_cons (GenerationLists known) x [] (generation_lists x g) (all_none (GenerationLists known)))

    previous_some : (later : Bool) (previous : Option GenerationView) → GoodPrevious known architectures components later previous → is_some previous ≡ later
    previous_some false None g = refl
    previous_some false (Some x) g = absurd g
    previous_some true None g = absurd g
    previous_some true (Some x) g = refl

later_is : (n : ℕ) (is : Bool) → is ≡ nat_lt 1 n → IsTrue is ↔ (1 < n)
later_is n is e = (λ t. grind (arith, nat_tests), λ l. grind (arith, nat_tests))

map_ascending : (xs : List (List ℕ × List ℕ)) → ascending.IsAscending (named_cmp component_of) xs → ascending.IsAscending (slice_cmp nat_cmp) (components_of xs)
map_ascending [] a = tt
map_ascending (x ∷ xs) a = (below xs a.0, map_ascending xs a.1)
  where
    below : (ys : List (List ℕ × List ℕ)) → ascending.IsBelow (named_cmp component_of) x ys → ascending.IsBelow (slice_cmp nat_cmp) x.0 (components_of ys)
    below [] b = tt
    below (y ∷ ys) b = (b.0, below ys b.1)

module _ (Has : List ℕ → Type 0) where
  source_components : (done xs : List (List ℕ × List ℕ)) → Each (IsNextSource Has) done xs → All (λ name. IsTrue (is_component name)) (components_of xs)
  source_components done [] e = all_none (λ name. IsTrue (is_component name))
  source_components done (x ∷ xs) e = all_cons (λ name. IsTrue (is_component name)) x.0 (components_of xs) e.0.is.component (source_components (done ++ x ∷ []) xs e.1)

  each_there : (done xs : List (List ℕ × List ℕ)) → Each (IsNextSource Has) done xs → All (λ source. Has source.1) xs
  each_there done [] e = all_none (λ source. Has source.1)
  each_there done (x ∷ xs) e = all_cons (λ source. Has source.1) x xs e.0.there (each_there (done ++ x ∷ []) xs e.1)

  sources_are : (sources : List (List ℕ × List ℕ)) → GoodSources Has sources → AreNames is_component (components_of sources)
  sources_are sources g = record {
    each = source_components [] sources g;
    sorted = map_ascending sources (names_each component_of (IsNextSource Has) (λ done x h. h.after) [] sources tt g);
  }

module _ (known : List Card) (has : Kind → List ℕ → Bool) where
  publication_is : (before : List PublicationView) (p : PublicationView) → GoodPublication known has before p → IsPublication p
  publication_is before p g = record {
    prefix = g.head.place.is.prefix;
    dist = g.head.place.is.dist;
    kind = g.head.kind;
    origin = g.head.titles.origin;
    label = g.head.titles.label;
    suite = g.head.titles.suite;
    codename = g.head.titles.codename;
    architectures = g.architectures.names;
    some = g.architectures.some;
    components = sources_are (λ name. IsTrue (has p.kind name)) p.sources g.contents.sources;
    first = g.serial.first;
    last = g.serial.last;
    previous = later_is p.serial (is_some p.previous) (previous_some known p.architectures (components_of p.sources) (nat_lt 1 p.serial) p.previous g.contents.previous);
    generations = all_cons (IsGeneration p.architectures (components_of p.sources)) p.current (option_to_list p.previous) (generation_is known p.architectures (components_of p.sources) p.current g.contents.current) (previous_is known p.architectures (components_of p.sources) (nat_lt 1 p.serial) p.previous g.contents.previous).0;
  }

  publication_lists : (before : List PublicationView) (p : PublicationView) → GoodPublication known has before p → PublicationLists known p
  publication_lists before p g =
      all_cons (GenerationLists known) p.current (option_to_list p.previous) (generation_lists known p.architectures (components_of p.sources) p.current g.contents.current)
      (previous_is known p.architectures (components_of p.sources) (nat_lt 1 p.serial) p.previous g.contents.previous).1

  each_all : (Is : PublicationView → Type 0) → ((before : List PublicationView) (p : PublicationView) → GoodPublication known has before p → Is p) → (done xs : List PublicationView) → Each (GoodPublication known has) done xs → All Is xs
  each_all Is w done [] e = all_none Is
  each_all Is w done (x ∷ xs) e = all_cons Is x xs (w done x e.0) (each_all Is w (done ++ x ∷ []) xs e.1)

pub valid_publications : (known : List Card) (repos : List Repo) (snapshots : List Snapshot) (publications : List PublicationView) → GoodPublications known repos snapshots publications → ArePublications known publications
valid_publications known repos snapshots publications g = record {
  each = each_all known (has_source_in repos snapshots) IsPublication (publication_is known (has_source_in repos snapshots)) [] publications g.1;
  lists = each_all known (has_source_in repos snapshots) (PublicationLists known) (publication_lists known (has_source_in repos snapshots)) [] publications g.1;
  sorted = places_each known (has_source_in repos snapshots) publications g.1;
  few = g.0;
}

-- the sources are there in each state with these repositories and snapshots
pub sources_there : (state : StateView) → GoodPublications state.known state.repos state.snapshots state.publications → All (HasSources state) state.publications
sources_there state g = each_all state.known (has_source_in state.repos state.snapshots) (HasSources state) one [] state.publications g.1
  where
    one : (before : List PublicationView) (p : PublicationView) → GoodPublication state.known (has_source_in state.repos state.snapshots) before p → HasSources state p
    one before p h k d l = sym (there_is state p.kind (get_or p.sources k d).1) ∙ each_there (λ name. IsTrue (has_source_in state.repos state.snapshots p.kind name)) [] p.sources h.contents.sources k d l

-- ---- from a valid state
module _ (known : List Card) where
  each_part : (architectures : List (List ℕ)) (done xs : List Card) → Each (MayJoin known) done xs → All (λ p. IsTrue (is_for architectures p)) xs → Each (MayJoinPart known architectures) done xs
  each_part architectures done [] e f = tt
  each_part architectures done (x ∷ xs) e f = (record { join = e.0; fits = f 0 x (omega arith) }, each_part architectures (done ++ x ∷ []) xs e.1 (all_tail (λ p. IsTrue (is_for architectures p)) x xs f))

  good_part : (architectures : List (List ℕ)) (list : List Card) → IsNamedList known list → All (λ p. IsTrue (is_for architectures p)) list → GoodPartSet known architectures list
  good_part architectures list n f = (n.few, each_part architectures [] list (each_join known [] list n.listed n.sorted n.apart) f)

  natural_is : (z : ℤ) → pos 0 ≤ℤ z → z ≡ pos (natural z)
  natural_is (pos n) l = refl
  natural_is (negsuc n) l = absurd l.le

  natural_few : (z : ℤ) (n : ℕ) → z ≤ℤ pos n → natural z ≤ n
  natural_few (pos m) n l = leb→le m n l.le
  natural_few (negsuc m) n l = omega arith

  module _ (architectures components : List (List ℕ)) where
    good_generation : (generation : GenerationView) → IsGeneration architectures components generation → GenerationLists known generation → GoodGeneration known architectures components generation
    good_generation generation g l = record {
      moment = natural_is generation.moment g.after;
      early = natural_few generation.moment (limit_number Date) g.before;
      parts = record { named = g.named; each = λ k d m. good_part architectures (get_or generation.parts k d).1 (l k d m) (g.members k d m) };
    }

    good_previous : (later : Bool) (previous : Option GenerationView) → is_some previous ≡ later → All (IsGeneration architectures components) (option_to_list previous) → All (GenerationLists known) (option_to_list previous) → GoodPrevious known architectures components later previous
    good_previous false None e g l = tt
    good_previous false (Some x) e g l = absurd (true≢false e)
    good_previous true None e g l = absurd (true≢false (sym e))
    good_previous true (Some x) e g l = good_generation x (g 0 x (omega arith)) (l 0 x (omega arith))

later_when : (n : ℕ) (is : Bool) → IsTrue is ↔ (1 < n) → is ≡ nat_lt 1 n
later_when n true h = let l = h.0 refl in grind (arith, nat_tests)
later_when n false h = of (nat_lt 1 n) refl
  where
    of : (b : Bool) → nat_lt 1 n ≡ b → false ≡ nat_lt 1 n
    of false e = sym e
    of true e = absurd (true≢false (sym (h.1 (grind (arith, nat_tests)))))

-- what is found by a name has the name
found_named : {X : Type 0} (name_of : X → List ℕ) (Is : X → Type 0) → ((x : X) → Is x → IsTrue (is_name (name_of x))) → (xs : List X) (name : List ℕ) → All Is xs → is_some (find (λ x. bytes_eq (name_of x) name) xs) ≡ true → IsTrue (is_name name)
found_named name_of Is w [] name a e = cc
found_named name_of Is w (x ∷ xs) name a e = by_test (bytes_eq (name_of x) name) refl e (found_named name_of Is w xs name (all_tail Is x xs a))
  where
    by_test : (b : Bool) → bytes_eq (name_of x) name ≡ b → is_some (if b then Some x else find (λ x. bytes_eq (name_of x) name) xs) ≡ true → (is_some (find (λ x. bytes_eq (name_of x) name) xs) ≡ true → IsTrue (is_name name)) → IsTrue (is_name name)
    by_test true h k more = ap is_name (sym (same_bytes (name_of x) name h)) ∙ w x (a 0 x (omega arith))
    by_test false h k more = more k

there_named : (state : StateView) → Valid state → (kind : Kind) (name : List ℕ) → has_source state kind name ≡ true → IsTrue (is_name name)
there_named state v kinds.Repo name e = found_named repo_name IsRepo (λ x g. g.name) state.repos name v.repos.each e
there_named state v kinds.Snapshot name e = found_named snapshot_name IsSnapshot (λ x g. g) state.snapshots name v.snapshots.each e
there_named state v kinds.Mirror name e = cc
there_named state v kinds.Component name e = cc

unmapped : (xs : List (List ℕ × List ℕ)) → ascending.IsAscending (slice_cmp nat_cmp) (components_of xs) → ascending.IsAscending (named_cmp component_of) xs
unmapped [] a = tt
unmapped (x ∷ xs) a = (below xs a.0, unmapped xs a.1)
  where
    below : (ys : List (List ℕ × List ℕ)) → ascending.IsBelow (slice_cmp nat_cmp) x.0 (components_of ys) → ascending.IsBelow (named_cmp component_of) x ys
    below [] b = tt
    below (y ∷ ys) b = (b.0, below ys b.1)

module _ (state : StateView) (v : Valid state) where
  abbrev HasIt : Kind → List ℕ → Bool
  HasIt = has_source_in state.repos state.snapshots

  good_sources : (kind : Kind) (done xs : List (List ℕ × List ℕ)) → All (λ name. IsTrue (is_component name)) (components_of xs) → All (λ source. IsTrue (has_source state kind source.1)) xs → ascending.IsAscending (named_cmp component_of) (done ++ xs) → Each (IsNextSource (λ name. IsTrue (HasIt kind name))) done xs
  good_sources kind done [] c h a = tt
  good_sources kind done (x ∷ xs) c h a = (
    record {
      is = record { component = c 0 x.0 (omega arith); name = there_named state v kind x.1 (h 0 x (omega arith)) };
      after = names_before component_of done x xs a;
      there = there_is state kind x.1 ∙ h 0 x (omega arith);
    },
    good_sources kind (done ++ x ∷ []) xs (all_tail (λ name. IsTrue (is_component name)) x.0 (components_of xs) c) (all_tail (λ source. IsTrue (has_source state kind source.1)) x xs h) (subst (ascending.IsAscending (named_cmp component_of)) (sym (append_assoc done (x ∷ []) xs)) a),
  )

  each_publication : (done xs : List PublicationView) → All IsPublication xs → All (PublicationLists state.known) xs → All (HasSources state) xs → ascending.IsAscending publication_cmp (done ++ xs) → Each (GoodPublication state.known HasIt) done xs
  each_publication done [] i l h a = tt
  each_publication done (x ∷ xs) i l h a = (
    good x (i 0 x (omega arith)) (l 0 x (omega arith)) (h 0 x (omega arith)) (rising_before publication_cmp done x xs a),
    each_publication (done ++ x ∷ []) xs (all_tail IsPublication x xs i) (all_tail (PublicationLists state.known) x xs l) (all_tail (HasSources state) x xs h) (subst (ascending.IsAscending publication_cmp) (sym (append_assoc done (x ∷ []) xs)) a),
  )
    where
      good : (p : PublicationView) → IsPublication p → PublicationLists state.known p → HasSources state p → All (λ y. publication_cmp y p ≡ Less) done → GoodPublication state.known HasIt done p
      good p g lists there after = record {
        head = record {
          place = record { is = record { prefix = g.prefix; dist = g.dist }; after = after };
          kind = g.kind;
          titles = record { origin = g.origin; label = g.label; suite = g.suite; codename = g.codename };
        };
        architectures = record { names = g.architectures; some = g.some };
        serial = record { first = g.first; last = g.last };
        contents = record {
          sources = good_sources p.kind [] p.sources g.components.each there (unmapped p.sources g.components.sorted);
          current = good_generation state.known p.architectures (components_of p.sources) p.current (g.generations 0 p.current (omega arith)) (lists 0 p.current (omega arith));
          previous = good_previous state.known p.architectures (components_of p.sources) (nat_lt 1 p.serial) p.previous (later_when p.serial (is_some p.previous) g.previous)
              (all_tail (IsGeneration p.architectures (components_of p.sources)) p.current (option_to_list p.previous) g.generations) (all_tail (GenerationLists state.known) p.current (option_to_list p.previous) lists);
          made = refl;
        };
      }

  pub good_publications : GoodPublications state.known state.repos state.snapshots state.publications
  good_publications = (v.publications.few, each_publication [] state.publications v.publications.each v.publications.lists v.sources v.publications.sorted)
