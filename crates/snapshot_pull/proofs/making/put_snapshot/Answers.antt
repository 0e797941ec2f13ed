use Rattle.std.proofs.Common.{◌∙◌}
use Rattle.snapshot_pull.proofs.NewLemmas.{put_change}
use Rattle.snapshot_pull.proofs.making.put_snapshot.Goals as goal

pub returns-clause-same : goal.returns-clause-same
returns-clause-same c = λ v. put_change _ c.args.state.now c.put_named.new.items.items c.args.snapshot c.args.reply (c.state.view_is ∙ c.in_ok-state.ensures) v c.in_ok-put_named.ensures.put
