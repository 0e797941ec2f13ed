use Rattle.std.proofs.Common.{true≢false, sym, ◌∙◌}
use Rattle.local_repo.proofs.NameLemmas.{edited_new, same_comes}
use Rattle.local_repo.proofs.editing.put_back.Goals as goal

pub returns-then-is_same-clause-same : goal.returns-then-is_same-clause-same
returns-then-is_same-clause-same c = λ comment distribution component v found is.
    same_comes c.args.state.now comment distribution component c.args.repo.now c.args.made is v found c.in_ok-reply.reply c.in_ok-reply.ensures (c.is_same.ensures.0 c.if-is_same.true)

pub returns-clause-new : goal.returns-clause-new
returns-clause-new c = λ comment distribution component v found is.
    edited_new c.args.state.now comment distribution component c.args.repo.now c.args.made is v found c.in_ok-state_with.field-0
    (λ s. true≢false (sym (c.is_same.ensures.1 s) ∙ c.if-is_same.false))
    (c.in_ok-state_with.ensures comment distribution component c.args.repo.now v found is)
