use Rattle.local_repo.proofs.NameLemmas.{dropped_comes, dropped_new}
use Rattle.local_repo.proofs.naming.drop_named.Goals as goal

pub returns-clause-ok : goal.returns-clause-ok
returns-clause-ok c = λ arrived v.
    dropped_comes c.args.state.now c.args.name.now c.in_ok-name.name c.in_ok-name.ensures.name c.in_ok-state_without.field-0 (c.in_ok-state_without.ensures v) (c.in_ok-name.ensures.good v) c.in_ok-reply.reply arrived c.in_ok-reply.ensures

pub returns-clause-new : goal.returns-clause-new
returns-clause-new c = λ v. dropped_new c.args.state.now c.args.name.now c.in_ok-name.name c.in_ok-name.ensures.name c.in_ok-state_without.field-0 (c.in_ok-state_without.ensures v) (c.in_ok-name.ensures.good v)
