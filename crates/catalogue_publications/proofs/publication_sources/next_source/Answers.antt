use Rattle.std.proofs.Common.{◌≡◌, All, Less, List, ℕ, sym, ap, ◌∙◌, subst}
use Rattle.std.specs.Ordering.{nat_cmp}
use Rattle.std.specs.Cmp.Lexicographic.{slice_cmp}
use Rattle.std.proofs.lemmas.Bool.{true≢false}
use Rattle.catalogue_publications.specs.PublicationGrammar.{has_source_in}
use Rattle.catalogue_lines.proofs.LineLemmas.{line_unique}
use Rattle.catalogue_lines.proofs.ValueLemmas.{at_default, at_some}
use Rattle.catalogue_publications.proofs.PublicationLineLemmas.{same_source}
use Rattle.catalogue_publications.proofs.publication_sources.next_source.Goals.{else-component_follows-via-then-component_follows+else-is_there, else-component_follows-via-else-component_follows}
use Rattle.catalogue_publications.proofs.publication_sources.next_source.Goals as goal

pub returns-in_default : goal.returns-in_default
returns-in_default c = λ a behind g l. at_default _ _ _ c.in_ok-source.ensures c.in_default.not-Some a behind g.is l

pub returns : goal.returns
returns c = λ a behind g l.
    let n = at_some _ _ _ _ c.in_ok-source.ensures c.in-Some.is in
    let same = same_source c.in-Some.source a n.0 g.is (line_unique c.args.text.now _ _ c.in-Some.rest.now behind n.1 l).0 in
    elim c.else-component_follows.branch [
      | else-component_follows-via-then-component_follows+else-is_there w ↦ true≢false (sym g.there ∙ ap (λ s. has_source_in c.args.repos.now c.args.snapshots.now c.args.kind s.1) (sym same) ∙ sym w.is_there.ensures ∙ w.if-is_there.false)
      | else-component_follows-via-else-component_follows w ↦ true≢false (sym (c.component_follows.ensures.1 (subst (λ (s : List ℕ × List ℕ). All (λ one. slice_cmp nat_cmp one.0 s.0 ≡ Less) c.args.done.now) (sym same) g.after)) ∙ w.if-component_follows.false)
    ]
