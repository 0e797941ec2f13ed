use Rattle.std.proofs.Common.{codes, sym, subst}
use Rattle.std.specs.Option.{option_map}
use Rattle.query_tree.specs.Tree.{plain}
use Rattle.machine_state.specs.Values.{MirrorView}
use Rattle.catalogue_text.specs.Root.{mirror_pieces}
use Rattle.catalogue_lines.specs.Reading.{ReadsPart}
use Rattle.catalogue_text.specs.MirrorReading.{GoodMirror}
use Rattle.machine_state.specs.State.{mirror_name}
use Rattle.catalogue_text.specs.MirrorLines.{mirror_line}
use Rattle.catalogue_lines.specs.PartForms.{IsNext}
use Rattle.catalogue_lines.proofs.Parts.{stops_line}
use Rattle.catalogue_lines.proofs.ValueLemmas.{at_default, at_some}
use Rattle.catalogue_lines.proofs.NameLemmas.{not_next}
use Rattle.catalogue_lines.proofs.ReadLemmas.{if_before}
use Rattle.catalogue_text.proofs.MirrorParts.{at_mirror, at_settings, at_updated, mirror_read}
use Rattle.catalogue_text.proofs.mirrors.read_mirror.Goals as goal

pub returns-in_default-clause-stops : goal.returns-in_default-clause-stops
returns-in_default-clause-stops c = λ apart.
    at_mirror c.args.known.now.list c.args.done.now c.args.text.now _ (stops_line mirror_line (IsNext mirror_name c.args.done.now) c.args.text.now (λ a behind g l. at_default _ _ _ c.in_ok-name.ensures c.in_default.not-Some a behind g.0 l))

pub returns-then-not-follows-clause-stops : goal.returns-then-not-follows-clause-stops
returns-then-not-follows-clause-stops c = λ apart.
    let n = at_some _ _ _ _ c.in_ok-name.ensures c.in-Some.is in
    at_mirror c.args.known.now.list c.args.done.now c.args.text.now _ (stops_line mirror_line (IsNext mirror_name c.args.done.now) c.args.text.now (not_next mirror_name (codes "mirror ") c.args.done.now c.args.text.now c.in-Some.behind.now c.in-Some.name c.follows.result c.if-not-follows.true c.follows.ensures n.1))

pub returns-in-Err-clause-stops : goal.returns-in-Err-clause-stops
returns-in-Err-clause-stops c =
    let n = at_some _ _ _ _ c.in_ok-name.ensures c.in-Some.is in
    if_before _ _ (λ left s apart. at_settings c.args.known.now.list c.args.done.now c.args.text.now c.in-Some.behind.now left c.in-Some.name ((n.0, c.follows.ensures.0 c.if-not-follows.false), n.1) s) c.in-Err.stop c.in-Err.ensures.stops

pub returns-in-Ok-read_updated-clause-read : goal.returns-in-Ok-read_updated-clause-read
returns-in-Ok-read_updated-clause-read c =
    let n = at_some _ _ _ _ c.in_ok-name.ensures c.in-Some.is in
    subst (λ (m : MirrorView). ReadsPart mirror_pieces (GoodMirror c.args.known.now.list c.args.done.now) c.args.text.now m c.in-Ok-read_updated.rest.now) (sym c.mirror_of.ensures)
    (mirror_read c.args.known.now.list c.args.done.now c.args.text.now c.in-Some.behind.now c.in-Ok.settings.1.now c.in-Ok-read_updated.rest.now c.in-Some.name
    ((c.in-Ok.settings.0.0.0, c.in-Ok.settings.0.0.1), ((c.in-Ok.settings.0.1.0.0.items, c.in-Ok.settings.0.1.0.1.items), (option_map plain c.in-Ok.settings.0.1.1.0, c.in-Ok.settings.0.1.1.1)))
    c.in-Ok-read_updated.updated ((n.0, c.follows.ensures.0 c.if-not-follows.false), n.1) c.in-Ok.ensures.read c.in-Ok-read_updated.ensures.read)

pub returns-clause-stops : goal.returns-clause-stops
returns-clause-stops c =
    let n = at_some _ _ _ _ c.in_ok-name.ensures c.in-Some.is in
    if_before _ _ (λ left s apart. at_updated c.args.known.now.list c.args.done.now c.args.text.now c.in-Some.behind.now c.in-Ok.settings.1.now left c.in-Some.name
    ((c.in-Ok.settings.0.0.0, c.in-Ok.settings.0.0.1), ((c.in-Ok.settings.0.1.0.0.items, c.in-Ok.settings.0.1.0.1.items), (option_map plain c.in-Ok.settings.0.1.1.0, c.in-Ok.settings.0.1.1.1)))
    ((n.0, c.follows.ensures.0 c.if-not-follows.false), n.1) c.in-Ok.ensures.read (s apart)) c.in-Err-read_updated.stop c.in-Err-read_updated.ensures.stops
