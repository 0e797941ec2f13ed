use Rattle.std.proofs.Common.{◌∙◌, ap}
use Rattle.machine_state.specs.Values.{MirrorView}
use Rattle.reply_text.specs.Mirrors.{mirror_created}
use Rattle.mirror_ops.proofs.NewLemmas.{put_change}
use Rattle.mirror_ops.proofs.creation.put_mirror.Goals as goal

pub returns-clause-same : goal.returns-clause-same
returns-clause-same c = λ v.
    put_change _ c.args.state.now c.put_named.new.items.items c.args.mirror c.in_ok-reply.reply (c.state.view_is ∙ c.in_ok-state.ensures) v c.in_ok-put_named.ensures.put
    (c.in_ok-reply.ensures ∙ ap (λ (m : MirrorView). mirror_created m.name) c.mirror.view_is)
