use Rattle.local_repo.proofs.CaseLemmas.{listed_comes}
use Rattle.local_repo.proofs.shown.list.Goals as goal

pub returns-clause-ok : goal.returns-clause-ok
returns-clause-ok c = λ arrived. listed_comes c.args.state.now c.in_ok-reply.reply arrived c.in_ok-reply.ensures
