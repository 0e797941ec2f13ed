use Rattle.std.proofs.Common.{[], List, sym, subst, arith}
use Rattle.machine_state.specs.Values.{MirrorView}
use Rattle.machine_state.specs.Ascending.{IsAscending}
use Rattle.machine_state.specs.State.{mirror_name, mirror_cmp}
use Rattle.catalogue_text.specs.Root.{mirror_pieces}
use Rattle.catalogue_text.specs.Grammar.{NextMirror}
use Rattle.catalogue_lines.specs.Reading.{Stops}
use Rattle.catalogue_text.specs.MirrorReading.{GoodMirror}
use Rattle.catalogue_lines.proofs.NameLemmas.{names_each}
use Rattle.catalogue_lines.proofs.ReadLemmas.{reads_more, if_before}
use Rattle.catalogue_text.proofs.MirrorParts.{stops_mirrors}
use Rattle.catalogue_text.proofs.mirrors.read_each.Goals as goal

pub read_mirror-requires-clause-sorted : goal.read_mirror-requires-clause-sorted
read_mirror-requires-clause-sorted c = subst (IsAscending mirror_cmp) (sym c.deref.ensures.value) (names_each mirror_name (GoodMirror c.args.known.now.list) (λ done x g. g.name.1) [] c.loop-read.mirrors.items tt c.loop-read.invariant.good)

pub returns-in-Err-clause-stops : goal.returns-in-Err-clause-stops
returns-in-Err-clause-stops c =
    let i = c.loop-read.invariant in
    if_before _ _ (λ left s apart. stops_mirrors c.args.known.now.list apart c.args.count c.args.text.now c.loop-read.rest.now c.loop-read.mirrors.items left (let e = i.counted in omega arith) i.good i.takes
    (subst (λ (d : List MirrorView). Stops (NextMirror c.args.known.now.list d) c.loop-read.rest.now left) c.deref.ensures.value (s apart))) c.in-Err.stop c.in-Err.ensures.stops

pub loop-read-preserved : goal.loop-read-preserved
loop-read-preserved c =
    let i = c.loop-read.invariant in
    let h = c.in-Ok.ensures.read in
    let g = subst (λ (d : List MirrorView). GoodMirror c.args.known.now.list d c.in-Ok.mirror) c.deref.ensures.value h.good in
    let r = reads_more mirror_pieces (GoodMirror c.args.known.now.list) c.loop-read._read c.args.text.now c.loop-read.rest.now c.in-Ok.behind.now c.loop-read.mirrors.items _ c.in-Ok.mirror (record { counted = i.counted; good = i.good; takes = i.takes }) g h.takes (c.in_ok-push-in-Ok.ensures.items) in
    record { counted = r.counted; good = r.good; takes = r.takes }
