use Rattle.std.proofs.Common.{arith}
use Rattle.repo_packages.proofs.PairLemmas.{copying_new, copying_none, copying_some}
use Rattle.repo_packages.proofs.pairs.put_in.Goals as goal

pub returns-then-count-before-clause-comes : goal.returns-then-count-before-clause-comes
returns-then-count-before-clause-comes c = λ name more v found all.
    copying_none c.args.state.now name c.args.destination.now found c.in_ok-reply.reply c.args.all more v all (omega (arith, c.if-count-before.true, c.len-count.ensures, c.len-before.ensures)) c.in_ok-reply.ensures

pub returns-clause-comes : goal.returns-clause-comes
returns-clause-comes c = λ name more v found all.
    copying_some c.args.state.now name c.args.destination.now found c.in_ok-reply.reply c.args.all more c.in_ok-new.new all c.in_ok-reply.ensures (c.in_ok-new.ensures v.repos.sorted)

pub returns-clause-new : goal.returns-clause-new
returns-clause-new c = λ name more v found all.
    copying_new c.args.state.now name c.args.destination.now found c.args.all c.in_ok-new.new (λ few. absurd (omega (arith, few, c.if-count-before.false, c.len-count.ensures, c.len-before.ensures))) (c.in_ok-new.ensures v.repos.sorted)
