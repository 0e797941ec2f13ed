use Rattle.std.proofs.Common.{codes}
use Rattle.machine_state.specs.State.{IsLineText, repo_name}
use Rattle.catalogue_text.specs.Root.{name_line, comment_line, distribution_line, component_line}
use Rattle.catalogue_lines.specs.PartForms.{IsNext}
use Rattle.catalogue_lines.proofs.Parts.{stops_line}
use Rattle.catalogue_text.proofs.RootParts.{IsDistribution, IsComponent}
use Rattle.catalogue_lines.proofs.ValueLemmas.{at_default, at_some}
use Rattle.catalogue_lines.proofs.NameLemmas.{not_next}
use Rattle.catalogue_text.proofs.RootReads.{at_name, past_name, at_comment, past_comment, at_distribution, past_distribution, at_component, past_component, at_set, repo_read}
use Rattle.catalogue_lines.proofs.ReadLemmas.{if_before}
use Rattle.catalogue_text.proofs.repos.read_repo.Goals as goal

pub returns-in_default-clause-stops : goal.returns-in_default-clause-stops
returns-in_default-clause-stops c = λ apart.
    at_name c.args.known.now.list c.args.done.now c.args.text.now _ (stops_line name_line (IsNext repo_name c.args.done.now) c.args.text.now (λ a behind g l. at_default _ _ _ c.in_ok-name.ensures c.in_default.not-Some a behind g.0 l))

pub returns-then-not-follows-clause-stops : goal.returns-then-not-follows-clause-stops
returns-then-not-follows-clause-stops c = λ apart.
    let n = at_some _ _ _ _ c.in_ok-name.ensures c.in-Some.is in
    at_name c.args.known.now.list c.args.done.now c.args.text.now _ (stops_line name_line (IsNext repo_name c.args.done.now) c.args.text.now (not_next repo_name (codes "repo ") c.args.done.now c.args.text.now c.in-Some.behind.now c.in-Some.name c.follows.result c.if-not-follows.true c.follows.ensures n.1))

pub returns-in_default-2-clause-stops : goal.returns-in_default-2-clause-stops
returns-in_default-2-clause-stops c = λ apart.
    let n = at_some _ _ _ _ c.in_ok-name.ensures c.in-Some.is in
    past_name c.args.known.now.list c.args.done.now c.args.text.now c.in-Some.behind.now _ c.in-Some.name (n.0, c.follows.ensures.0 c.if-not-follows.false) n.1
    (at_comment c.args.known.now.list c.args.done.now c.in-Some.name c.in-Some.behind.now _ (stops_line comment_line IsLineText c.in-Some.behind.now (at_default _ _ _ c.in_ok-comment.ensures c.in_default-2.not-Some)))

pub returns-in_default-3-clause-stops : goal.returns-in_default-3-clause-stops
returns-in_default-3-clause-stops c = λ apart.
    let n = at_some _ _ _ _ c.in_ok-name.ensures c.in-Some.is in
    let m = at_some _ _ _ _ c.in_ok-comment.ensures c.in-Some-2.is in
    past_name c.args.known.now.list c.args.done.now c.args.text.now c.in-Some.behind.now _ c.in-Some.name (n.0, c.follows.ensures.0 c.if-not-follows.false) n.1
    (past_comment c.args.known.now.list c.args.done.now c.in-Some.name c.in-Some.behind.now c.in-Some-2.rest.now _ c.in-Some-2.comment m.0 m.1
    (at_distribution c.args.known.now.list c.args.done.now c.in-Some.name c.in-Some-2.comment c.in-Some-2.rest.now _ (stops_line distribution_line IsDistribution c.in-Some-2.rest.now (at_default _ _ _ c.in_ok-distribution.ensures c.in_default-3.not-Some))))

pub returns-in_default-4-clause-stops : goal.returns-in_default-4-clause-stops
returns-in_default-4-clause-stops c = λ apart.
    let n = at_some _ _ _ _ c.in_ok-name.ensures c.in-Some.is in
    let m = at_some _ _ _ _ c.in_ok-comment.ensures c.in-Some-2.is in
    let d = at_some _ _ _ _ c.in_ok-distribution.ensures c.in-Some-3.is in
    past_name c.args.known.now.list c.args.done.now c.args.text.now c.in-Some.behind.now _ c.in-Some.name (n.0, c.follows.ensures.0 c.if-not-follows.false) n.1
    (past_comment c.args.known.now.list c.args.done.now c.in-Some.name c.in-Some.behind.now c.in-Some-2.rest.now _ c.in-Some-2.comment m.0 m.1
    (past_distribution c.args.known.now.list c.args.done.now c.in-Some.name c.in-Some-2.comment c.in-Some-2.rest.now c.in-Some-3.behind.now _ c.in-Some-3.distribution d.0 d.1
    (at_component c.args.known.now.list c.args.done.now c.in-Some.name c.in-Some-2.comment c.in-Some-3.distribution c.in-Some-3.behind.now _ (stops_line component_line IsComponent c.in-Some-3.behind.now (at_default _ _ _ c.in_ok-component.ensures c.in_default-4.not-Some)))))

pub returns-in-Err-clause-stops : goal.returns-in-Err-clause-stops
returns-in-Err-clause-stops c =
    let n = at_some _ _ _ _ c.in_ok-name.ensures c.in-Some.is in
    let m = at_some _ _ _ _ c.in_ok-comment.ensures c.in-Some-2.is in
    let d = at_some _ _ _ _ c.in_ok-distribution.ensures c.in-Some-3.is in
    let k = at_some _ _ _ _ c.in_ok-component.ensures c.in-Some-4.is in
    if_before _ _ (λ left s apart. past_name c.args.known.now.list c.args.done.now c.args.text.now c.in-Some.behind.now left c.in-Some.name (n.0, c.follows.ensures.0 c.if-not-follows.false) n.1
    (past_comment c.args.known.now.list c.args.done.now c.in-Some.name c.in-Some.behind.now c.in-Some-2.rest.now left c.in-Some-2.comment m.0 m.1
    (past_distribution c.args.known.now.list c.args.done.now c.in-Some.name c.in-Some-2.comment c.in-Some-2.rest.now c.in-Some-3.behind.now left c.in-Some-3.distribution d.0 d.1
    (past_component c.args.known.now.list c.args.done.now c.in-Some.name c.in-Some-2.comment c.in-Some-3.distribution c.in-Some-3.behind.now c.in-Some-4.rest.now left c.in-Some-4.component k.0 k.1
    (at_set c.args.known.now.list c.args.done.now c.in-Some.name c.in-Some-2.comment c.in-Some-3.distribution c.in-Some-4.component c.in-Some-4.rest.now left (s apart)))))) c.in-Err.stop c.in-Err.ensures.stops

pub returns-clause-read : goal.returns-clause-read
returns-clause-read c =
    let n = at_some _ _ _ _ c.in_ok-name.ensures c.in-Some.is in
    let m = at_some _ _ _ _ c.in_ok-comment.ensures c.in-Some-2.is in
    let d = at_some _ _ _ _ c.in_ok-distribution.ensures c.in-Some-3.is in
    let k = at_some _ _ _ _ c.in_ok-component.ensures c.in-Some-4.is in
    repo_read c.args.known.now.list c.args.done.now c.args.text.now c.in-Some.behind.now c.in-Some-2.rest.now c.in-Some-3.behind.now c.in-Some-4.rest.now c.in-Ok.set.1.now c.in-Some.name c.in-Some-2.comment c.in-Some-3.distribution c.in-Some-4.component c.in-Ok.set.0 ((n.0, c.follows.ensures.0 c.if-not-follows.false), n.1) m d k c.in-Ok.ensures.read
