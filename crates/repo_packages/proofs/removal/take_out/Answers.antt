use Rattle.std.proofs.Common.{arith}
use Rattle.repo_packages.proofs.PairLemmas.{removal_new, removal_none, removal_some}
use Rattle.repo_packages.proofs.removal.take_out.Goals as goal

pub returns-then-count-eq0-clause-comes : goal.returns-then-count-eq0-clause-comes
returns-then-count-eq0-clause-comes c = λ name v e.
    removal_none c.args.state.now name c.args.repo.now e c.in_ok-reply.reply c.in_ok-left.left c.args.gone.now v (omega (arith, c.if-count-eq0.true, c.len-count.ensures)) c.in_ok-left.ensures
    (cc (c.in_ok-reply.ensures, c.len-count.ensures))

pub returns-clause-comes : goal.returns-clause-comes
returns-clause-comes c = λ name v e.
    removal_some c.args.state.now name c.args.repo.now e c.in_ok-reply.reply c.in_ok-left.left c.args.gone.now c.in_ok-new.new c.in_ok-left.ensures (cc (c.in_ok-reply.ensures, c.len-count.ensures)) (c.in_ok-new.ensures v.repos.sorted)

pub returns-clause-new : goal.returns-clause-new
returns-clause-new c = λ name queries v e chose.
    removal_new c.args.state.now name c.args.repo.now e c.in_ok-left.left c.args.gone.now c.in_ok-new.new queries c.in_ok-left.ensures chose (λ none. c.if-count-eq0.false (omega (arith, none, c.len-count.ensures))) (c.in_ok-new.ensures v.repos.sorted)
