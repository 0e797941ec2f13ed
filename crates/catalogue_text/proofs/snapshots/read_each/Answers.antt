use Rattle.std.proofs.Common.{[], List, sym, subst, arith}
use Rattle.machine_state.specs.declared.snapshot.Snapshot.{Snapshot}
use Rattle.machine_state.specs.Ascending.{IsAscending}
use Rattle.machine_state.specs.State.{snapshot_name, snapshot_cmp}
use Rattle.catalogue_text.specs.Root.{snapshot_pieces}
use Rattle.catalogue_text.specs.Grammar.{NextSnapshot}
use Rattle.catalogue_lines.specs.Reading.{Stops}
use Rattle.catalogue_text.specs.RootReading.{GoodSnapshot}
use Rattle.catalogue_lines.proofs.NameLemmas.{names_each}
use Rattle.catalogue_lines.proofs.ReadLemmas.{reads_more, if_before}
use Rattle.catalogue_text.proofs.RootReads.{stops_snapshots}
use Rattle.catalogue_text.proofs.snapshots.read_each.Goals as goal

pub read_snapshot-requires-clause-sorted : goal.read_snapshot-requires-clause-sorted
read_snapshot-requires-clause-sorted c = subst (IsAscending snapshot_cmp) (sym c.deref.ensures.value) (names_each snapshot_name (GoodSnapshot c.args.known.now.list) (λ done x g. g.name.1) [] c.loop-read.snapshots.items tt c.loop-read.invariant.good)

pub returns-in-Err-clause-stops : goal.returns-in-Err-clause-stops
returns-in-Err-clause-stops c =
    let i = c.loop-read.invariant in
    if_before _ _ (λ left s apart. stops_snapshots c.args.known.now.list apart c.args.count c.args.text.now c.loop-read.rest.now c.loop-read.snapshots.items left (let e = i.counted in omega arith) i.good i.takes
    (subst (λ (d : List Snapshot). Stops (NextSnapshot c.args.known.now.list d) c.loop-read.rest.now left) c.deref.ensures.value (s apart))) c.in-Err.stop c.in-Err.ensures.stops

pub loop-read-preserved : goal.loop-read-preserved
loop-read-preserved c =
    let i = c.loop-read.invariant in
    let h = c.in-Ok.ensures.read in
    let g = subst (λ (d : List Snapshot). GoodSnapshot c.args.known.now.list d c.in-Ok.snapshot) c.deref.ensures.value h.good in
    let r = reads_more snapshot_pieces (GoodSnapshot c.args.known.now.list) c.loop-read._read c.args.text.now c.loop-read.rest.now c.in-Ok.behind.now c.loop-read.snapshots.items _ c.in-Ok.snapshot (record { counted = i.counted; good = i.good; takes = i.takes }) g h.takes (c.in_ok-push-in-Ok.ensures.items) in
    record { counted = r.counted; good = r.good; takes = r.takes }
