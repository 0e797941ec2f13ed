use Rattle.std.proofs.Common.{ap, None}
use Rattle.command_value.specs.Plain.{plain}
use Rattle.step_model.proofs.FaultLemmas.{ok_along, fault_along}
use Rattle.mirror_ops.specs.Cases.{mirror_case}
use Rattle.mirror_ops.proofs.CaseLemmas.{case_along, is_drop}
use Rattle.mirror_ops.proofs.naming.drop.Goals as goal

pub returns-in-MirrorDrop-clause-ok : goal.returns-in-MirrorDrop-clause-ok
unfolding mirror_case
returns-in-MirrorDrop-clause-ok g c = λ k arrived e is v.
    ok_along None c.args.state.now _ _ arrived c.drop_named.result (case_along c.args.state.now c.args.command.now k _ e (ap plain c.in-MirrorDrop.is)) (c.drop_named.ensures.ok arrived v)

pub returns-in-MirrorDrop-clause-fault : goal.returns-in-MirrorDrop-clause-fault
unfolding mirror_case
returns-in-MirrorDrop-clause-fault g c = λ k arrived e is v.
    fault_along None _ _ arrived c.drop_named.result (case_along c.args.state.now c.args.command.now k _ e (ap plain c.in-MirrorDrop.is)) (c.drop_named.ensures.fault arrived v)

pub returns-in_default-clause-fault : goal.returns-in_default-clause-fault
returns-in_default-clause-fault g c = λ k arrived e is v. absurd (is_drop c.args.command.now k e is c.in_default.not-MirrorDrop)
