use Rattle.std.proofs.Common.{ap, sym, refl, None, List, ℕ}
use Rattle.step_model.specs.Case.{changes}
use Rattle.mirror_ops.specs.Cases.{mirror_case}
use Rattle.mirror_ops.proofs.CaseLemmas.{plain_comes}
use Rattle.mirror_ops.proofs.shown.list.Goals as goal

pub returns-clause-ok : goal.returns-clause-ok
unfolding mirror_case
returns-clause-ok c = λ arrived. plain_comes None _ refl arrived _ (ap (λ (t : List ℕ). changes t c.args.state.now) (sym c.in_ok-reply.ensures))
