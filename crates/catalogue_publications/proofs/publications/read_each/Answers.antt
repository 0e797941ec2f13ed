use Rattle.std.proofs.Common.{List, sym, subst, arith}
use Rattle.machine_state.specs.Ascending.{IsAscending}
use Rattle.machine_state.specs.State.{publication_cmp}
use Rattle.machine_state.specs.Values.{PublicationView}
use Rattle.catalogue_publications.specs.PublicationLines.{publication_pieces}
use Rattle.catalogue_publications.specs.PublicationGrammar.{has_source_in, NextPublication}
use Rattle.catalogue_publications.specs.PublicationReading.{GoodPublication}
use Rattle.catalogue_lines.specs.Reading.{Stops}
use Rattle.catalogue_lines.proofs.ReadLemmas.{reads_more, if_before}
use Rattle.catalogue_publications.proofs.PublicationRead.{places_each, stops_publications}
use Rattle.catalogue_publications.proofs.publications.read_each.Goals as goal

pub read_publication-requires-clause-sorted : goal.read_publication-requires-clause-sorted
read_publication-requires-clause-sorted c = subst (IsAscending publication_cmp) (sym c.deref.ensures.value) (places_each c.args.known.now.list (has_source_in c.args.repos.now c.args.snapshots.now) c.loop-read.publications.items c.loop-read.invariant.good)

pub returns-in-Err-clause-stops : goal.returns-in-Err-clause-stops
returns-in-Err-clause-stops c =
    let i = c.loop-read.invariant in
    if_before _ _ (λ left s apart. stops_publications c.args.known.now.list (has_source_in c.args.repos.now c.args.snapshots.now) apart c.args.count c.args.text.now c.loop-read.rest.now c.loop-read.publications.items left (let e = i.counted in omega arith) i.good i.takes
    (subst (λ (d : List PublicationView). Stops (NextPublication c.args.known.now.list (has_source_in c.args.repos.now c.args.snapshots.now) d) c.loop-read.rest.now left) c.deref.ensures.value (s apart))) c.in-Err.stop c.in-Err.ensures.stops

pub loop-read-preserved : goal.loop-read-preserved
loop-read-preserved c =
    let i = c.loop-read.invariant in
    let h = c.in-Ok.ensures.read in
    let g = subst (λ (d : List PublicationView). GoodPublication c.args.known.now.list (has_source_in c.args.repos.now c.args.snapshots.now) d c.in-Ok.publication) c.deref.ensures.value h.good in
    let r = reads_more publication_pieces (GoodPublication c.args.known.now.list (has_source_in c.args.repos.now c.args.snapshots.now)) c.loop-read._read c.args.text.now c.loop-read.rest.now c.in-Ok.behind.now c.loop-read.publications.items _ c.in-Ok.publication (record { counted = i.counted; good = i.good; takes = i.takes }) g h.takes (c.in_ok-push-in-Ok.ensures.items) in
    record { counted = r.counted; good = r.good; takes = r.takes }
