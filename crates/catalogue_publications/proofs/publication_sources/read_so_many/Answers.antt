use Rattle.std.proofs.Common.{[], List, ℕ, refl, sym, subst, arith}
use Rattle.machine_state.specs.Ascending.{IsAscending}
use Rattle.machine_state.specs.Named.{named_cmp}
use Rattle.catalogue_publications.specs.PublicationLines.{source_line}
use Rattle.catalogue_publications.specs.PublicationGrammar.{IsNextSource}
use Rattle.catalogue_publications.specs.PublicationReading.{IsThere, component_of}
use Rattle.catalogue_lines.specs.Reading.{NoLine}
use Rattle.catalogue_lines.proofs.Parts.{line_of}
use Rattle.catalogue_lines.proofs.NameLemmas.{names_each}
use Rattle.catalogue_lines.proofs.ValueLemmas.{at_none, at_some}
use Rattle.catalogue_lines.proofs.ReadLemmas.{reads_more}
use Rattle.catalogue_publications.proofs.PublicationRead.{stops_source}
use Rattle.catalogue_publications.proofs.publication_sources.read_so_many.Goals as goal

pub next_source-requires-clause-sorted : goal.next_source-requires-clause-sorted
next_source-requires-clause-sorted c = subst (IsAscending (named_cmp component_of)) (sym c.deref.ensures.value) (names_each component_of (IsNextSource (IsThere c.args.repos.now c.args.snapshots.now c.args.kind)) (λ done x g. g.after) [] c.loop-read.sources.items tt c.loop-read.invariant.good)

pub returns-in-None-clause-stops : goal.returns-in-None-clause-stops
returns-in-None-clause-stops c =
    let i = c.loop-read.invariant in
    stops_source (IsThere c.args.repos.now c.args.snapshots.now c.args.kind) c.args.count c.args.text.now c.loop-read.rest.now c.loop-read.sources.items (let e = i.counted in omega arith) i.good i.takes
    (subst (λ (d : List (List ℕ × List ℕ)). NoLine source_line (IsNextSource (IsThere c.args.repos.now c.args.snapshots.now c.args.kind) d) c.loop-read.rest.now) c.deref.ensures.value (at_none _ _ _ c.in_ok-next_source.ensures c.in-None.is))

pub loop-read-preserved : goal.loop-read-preserved
loop-read-preserved c =
    let i = c.loop-read.invariant in
    let h = at_some _ _ _ _ c.in_ok-next_source.ensures c.in-Some.is in
    let g = subst (λ (d : List (List ℕ × List ℕ)). IsNextSource (IsThere c.args.repos.now c.args.snapshots.now c.args.kind) d c.in-Some.source) c.deref.ensures.value h.0 in
    let r = reads_more (line_of source_line) (IsNextSource (IsThere c.args.repos.now c.args.snapshots.now c.args.kind)) c.loop-read._read c.args.text.now c.loop-read.rest.now c.in-Some.behind.now c.loop-read.sources.items _ c.in-Some.source (record { counted = i.counted; good = i.good; takes = i.takes }) g (c.in-Some.behind.now, h.1, refl) c.in_ok-push-in-Some.ensures.items in
    record { counted = r.counted; good = r.good; takes = r.takes }
