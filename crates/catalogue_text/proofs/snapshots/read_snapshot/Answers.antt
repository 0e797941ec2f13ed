use Rattle.std.proofs.Common.{codes}
use Rattle.machine_state.specs.State.{snapshot_name}
use Rattle.catalogue_text.specs.Root.{snapshot_line}
use Rattle.catalogue_lines.specs.PartForms.{IsNext}
use Rattle.catalogue_lines.proofs.Parts.{stops_line}
use Rattle.catalogue_lines.proofs.ValueLemmas.{at_default, at_some}
use Rattle.catalogue_lines.proofs.NameLemmas.{not_next}
use Rattle.catalogue_text.proofs.RootReads.{at_title, past_title, snapshot_read}
use Rattle.catalogue_lines.proofs.ReadLemmas.{if_before}
use Rattle.catalogue_text.proofs.snapshots.read_snapshot.Goals as goal

pub returns-in_default-clause-stops : goal.returns-in_default-clause-stops
returns-in_default-clause-stops c = λ apart.
    at_title c.args.known.now.list c.args.done.now c.args.text.now _ (stops_line snapshot_line (IsNext snapshot_name c.args.done.now) c.args.text.now (λ a behind g l. at_default _ _ _ c.in_ok-name.ensures c.in_default.not-Some a behind g.0 l))

pub returns-then-not-follows-clause-stops : goal.returns-then-not-follows-clause-stops
returns-then-not-follows-clause-stops c = λ apart.
    let n = at_some _ _ _ _ c.in_ok-name.ensures c.in-Some.is in
    at_title c.args.known.now.list c.args.done.now c.args.text.now _ (stops_line snapshot_line (IsNext snapshot_name c.args.done.now) c.args.text.now (not_next snapshot_name (codes "snapshot ") c.args.done.now c.args.text.now c.in-Some.behind.now c.in-Some.name c.follows.result c.if-not-follows.true c.follows.ensures n.1))

pub returns-in-Err-clause-stops : goal.returns-in-Err-clause-stops
returns-in-Err-clause-stops c =
    let n = at_some _ _ _ _ c.in_ok-name.ensures c.in-Some.is in
    if_before _ _ (λ left s apart. past_title c.args.known.now.list c.args.done.now c.args.text.now c.in-Some.behind.now left c.in-Some.name (n.0, c.follows.ensures.0 c.if-not-follows.false) n.1 (s apart)) c.in-Err.stop c.in-Err.ensures.stops

pub returns-clause-read : goal.returns-clause-read
returns-clause-read c =
    let n = at_some _ _ _ _ c.in_ok-name.ensures c.in-Some.is in
    snapshot_read c.args.known.now.list c.args.done.now c.args.text.now c.in-Some.behind.now c.in-Ok.set.1.now c.in-Some.name c.in-Ok.set.0 ((n.0, c.follows.ensures.0 c.if-not-follows.false), n.1) c.in-Ok.ensures.read
