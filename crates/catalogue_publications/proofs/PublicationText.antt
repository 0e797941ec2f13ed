-- The pieces of publications: lines alone, with no line end in any of them.
use Rattle.std.proofs.Common.{ℕ, ◌≤◌, Bool, true, false, inl, inr, List, [], ◌∷◌, ◌++◌, length, map, Option, Some, None, IsTrue, All, refl, subst, sym, arith}
use Rattle.std.specs.Prelude.{nat_lt}
use Rattle.std.specs.List.{flat_map}
use Rattle.package_core.specs.Card.{Card}
use Rattle.machine_state.specs.declared.limit.Kind.{Kind}
use Rattle.machine_state.specs.declared.limit.Kind.TheVariants as kinds
use Rattle.machine_state.specs.declared.limit.Limit.TheVariants.{Packages}
use Rattle.machine_state.specs.declared.repo.Repo.{Repo}
use Rattle.machine_state.specs.declared.snapshot.Snapshot.{Snapshot}
use Rattle.machine_state.specs.Limits.{limit_number}
use Rattle.machine_state.specs.Publications.{components_of}
use Rattle.machine_state.specs.Texts.{IsTitle}
use Rattle.machine_state.specs.Values.{GenerationView, PublicationView}
use Rattle.catalogue_lines.specs.Lines.{IsPlain}
use Rattle.catalogue_lines.specs.Pieces.{Piece, alone, packed}
use Rattle.catalogue_lines.specs.SetLines.{id_of, set_pieces}
use Rattle.machine_state.specs.Words.{place_text}
use Rattle.catalogue_publications.specs.PublicationLines.{kind_line, current_line, source_line, parts_pieces, generation_pieces, previous_pieces, sources_pieces, publication_pieces, publications_pieces}
use Rattle.catalogue_publications.specs.PublicationGrammar.{IsNextSource, has_source_in}
use Rattle.catalogue_publications.specs.PublicationReading.{GoodPartSet, GoodGeneration, GoodPrevious, GoodPublication, GoodPublications}
use Rattle.catalogue_lines.specs.Reading.{Each}
use Rattle.catalogue_lines.proofs.PlainLemmas.{digits_plain, set_plain, id_plain, is_line_plain}
use Rattle.catalogue_lines.proofs.SetPieces.{ArePieces}
use Rattle.catalogue_lines.proofs.TakesLemmas.{Shorts}
use Rattle.catalogue_lines.proofs.ValidLemmas.{all_tail}
use Rattle.catalogue_publications.proofs.PublicationLineLemmas.{place_one_line, name_one_line, architectures_plain, sources_plain, source_plain}

-- lines alone, each without a line end
abbrev pub AreLines : List Piece → Type 0
AreLines [] = Unit {0}
AreLines (alone line ∷ pieces) = IsPlain line × AreLines pieces
AreLines (packed p ∷ pieces) = ⊥

lines_both : (xs ys : List Piece) → AreLines xs → AreLines ys → AreLines (xs ++ ys)
lines_both [] ys a b = b
lines_both (alone line ∷ xs) ys a b = (a.0, lines_both xs ys a.1 b)
lines_both (packed p ∷ xs) ys a b = absurd a

id_lines : (list : List Card) → AreLines (map (λ p. alone (id_of p)) list)
id_lines [] = tt
id_lines (p ∷ ps) = (id_plain p, id_lines ps)

set_lines : (list : List Card) → length list ≤ limit_number Packages → AreLines (set_pieces list)
unfolding set_pieces
set_lines list few = (set_plain (length list) (omega arith), id_lines list)

title_plain : (default text : List ℕ) → IsPlain default → IsTitle default text → IsPlain text
title_plain default text p (inl e) = subst IsPlain (sym e) p
title_plain default text p (inr g) = is_line_plain text g.0.line

kind_plain : (kind : Kind) → IsPlain (kind_line kind)
kind_plain kinds.Repo = refl
kind_plain kinds.Snapshot = refl
kind_plain kinds.Mirror = refl
kind_plain kinds.Component = refl

module _ (known : List Card) where
  part_lines : (architectures : List (List ℕ)) (parts : List (List ℕ × List Card)) → All (λ part. GoodPartSet known architectures part.1) parts → AreLines (parts_pieces parts)
  part_lines architectures [] g = tt
  part_lines architectures (x ∷ xs) g = lines_both (set_pieces x.1) (parts_pieces xs) (set_lines x.1 (g 0 x (omega arith)).0) (part_lines architectures xs (all_tail (λ part. GoodPartSet known architectures part.1) x xs g))

  current_lines : (architectures components : List (List ℕ)) (generation : GenerationView) → GoodGeneration known architectures components generation → AreLines (generation_pieces current_line generation)
  current_lines architectures components generation g = (digits_plain _ (let e = g.early in omega arith), part_lines architectures generation.parts g.parts.each)

  previous_lines : (architectures components : List (List ℕ)) (later : Bool) (previous : Option GenerationView) → GoodPrevious known architectures components later previous → AreLines (previous_pieces previous)
  previous_lines architectures components later None g = (refl, tt)
  previous_lines architectures components false (Some x) g = absurd g
  previous_lines architectures components true (Some x) g = (digits_plain _ (let e = g.early in omega arith), part_lines architectures x.parts g.parts.each)

  source_lines : (Has : List ℕ → Type 0) (done xs : List (List ℕ × List ℕ)) → Each (IsNextSource Has) done xs → AreLines (map (λ source. alone (source_line source)) xs)
  source_lines Has done [] e = tt
  source_lines Has done (x ∷ xs) e = (source_plain x e.0.is, source_lines Has (done ++ x ∷ []) xs e.1)

  module _ (has : Kind → List ℕ → Bool) where
    publication_lines : (before : List PublicationView) (p : PublicationView) → GoodPublication known has before p → AreLines (publication_pieces p)
    unfolding publication_pieces
    publication_lines before p g =
        let place = place_one_line (p.prefix, p.dist) g.head.place.is in
        let dist = name_one_line p.dist g.head.place.is.dist in (
          place,
          (
            kind_plain p.kind,
            (
              title_plain (place_text (p.prefix, p.dist)) p.origin place g.head.titles.origin,
              (
                title_plain (place_text (p.prefix, p.dist)) p.label place g.head.titles.label,
                (
                  title_plain p.dist p.suite dist g.head.titles.suite,
                  (
                    title_plain p.dist p.codename dist g.head.titles.codename,
                    (
                      architectures_plain p.architectures g.architectures.names,
                      (
                        digits_plain p.serial (let l = g.serial.last in omega arith),
                        lines_both (sources_pieces p.sources) (generation_pieces current_line p.current ++ previous_pieces p.previous) (sources_plain (length p.sources), source_lines (λ name. IsTrue (has p.kind name)) [] p.sources g.contents.sources)
                            (lines_both (generation_pieces current_line p.current) (previous_pieces p.previous) (current_lines p.architectures (components_of p.sources) p.current g.contents.current)
                            (previous_lines p.architectures (components_of p.sources) (nat_lt 1 p.serial) p.previous g.contents.previous)),
                      ),
                    ),
                  ),
                ),
              ),
            ),
          ),
        )

    each_lines : (done xs : List PublicationView) → Each (GoodPublication known has) done xs → AreLines (flat_map publication_pieces xs)
    each_lines done [] e = tt
    each_lines done (x ∷ xs) e = lines_both (publication_pieces x) (flat_map publication_pieces xs) (publication_lines done x e.0) (each_lines (done ++ x ∷ []) xs e.1)

pub publications_lines : (known : List Card) (repos : List Repo) (snapshots : List Snapshot) (publications : List PublicationView) → GoodPublications known repos snapshots publications → AreLines (publications_pieces publications)
unfolding publications_pieces
publications_lines known repos snapshots publications g = (digits_plain (length publications) (let f = g.0 in omega arith), each_lines known (has_source_in repos snapshots) [] publications g.1)

-- no package is among such pieces
pub lines_short : (xs : List Piece) → AreLines xs → Shorts xs
lines_short [] a = tt
lines_short (alone line ∷ xs) a = lines_short xs a.1
lines_short (packed p ∷ xs) a = absurd a

-- each is a line without a line end
pub lines_are : (xs : List Piece) → AreLines xs → ArePieces xs
lines_are [] a = tt
lines_are (alone line ∷ xs) a = (a.0, lines_are xs a.1)
lines_are (packed p ∷ xs) a = absurd a
