use Rattle.std.proofs.Common.{◌∙◌, ap, sym}
use Rattle.machine_state.specs.Values.{MirrorView}
use Rattle.reply_text.specs.Mirrors as replies
use Rattle.mirror_ops.specs.Updates.{fetched_of}
use Rattle.mirror_ops.proofs.UpdateLemmas.{taken_none, taken_some, updated_new}
use Rattle.mirror_ops.proofs.updating.take_in.Goals as goal

pub returns-then-has_fetched-clause-taken : goal.returns-then-has_fetched-clause-taken
returns-then-has_fetched-clause-taken c = λ v found f.
    let fetched = fetched_of c.args.list.now c.args.date.now in
    let has = sym c.has_fetched.ensures ∙ c.if-has_fetched.true in
    let reply = c.in_ok-reply.ensures ∙ ap (λ (m : MirrorView). replies.mirror_updated m.name c.len.result) c.mirror.view_is in
    taken_none c.args.state.now c.args.mirror.now fetched c.in_ok-reply.reply c.len.result found v f has reply c.len.ensures

pub returns-clause-taken : goal.returns-clause-taken
returns-clause-taken c = λ v found f.
    let fetched = fetched_of c.args.list.now c.args.date.now in
    let reply = c.in_ok-reply.ensures ∙ ap (λ (m : MirrorView). replies.mirror_updated m.name c.len.result) c.mirror.view_is in
    taken_some c.args.state.now c.args.mirror.now fetched c.in_ok-reply.reply c.len.result c.in_ok-state_with.field-0 reply c.len.ensures (c.in_ok-state_with.ensures.same v found)

pub returns-clause-new : goal.returns-clause-new
returns-clause-new c = λ v found e.
    let fetched = fetched_of c.args.list.now c.args.date.now in
    updated_new c.args.state.now c.args.mirror.now.name c.args.mirror.now fetched found (sym c.has_fetched.ensures ∙ c.if-has_fetched.false) (sym (c.in_ok-state_with.ensures.same v found) ∙ e)
