use Rattle.std.proofs.Common.{◌∙◌}
use Rattle.local_repo.proofs.CaseLemmas.{put_change}
use Rattle.local_repo.proofs.creation.add_repo.Goals as goal

pub returns-clause-same : goal.returns-clause-same
returns-clause-same c = λ v. put_change _ c.args.state.now c.put_named.new.items.items c.args.repo c.in_ok-reply.reply (c.state.view_is ∙ c.in_ok-state.ensures) v c.in_ok-put_named.ensures.put c.in_ok-reply.ensures
