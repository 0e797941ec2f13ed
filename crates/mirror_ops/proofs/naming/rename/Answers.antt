use Rattle.std.proofs.Common.{ap, None}
use Rattle.command_value.specs.Plain.{plain}
use Rattle.step_model.proofs.FaultLemmas.{ok_along, fault_along}
use Rattle.mirror_ops.specs.Cases.{mirror_case}
use Rattle.mirror_ops.proofs.CaseLemmas.{case_along, is_rename}
use Rattle.mirror_ops.proofs.naming.rename.Goals as goal

pub returns-in-MirrorRename-clause-ok : goal.returns-in-MirrorRename-clause-ok
unfolding mirror_case
returns-in-MirrorRename-clause-ok g c = λ k arrived e is v.
    ok_along None c.args.state.now _ _ arrived c.rename_named.result (case_along c.args.state.now c.args.command.now k _ e (ap plain c.in-MirrorRename.is)) (c.rename_named.ensures.ok arrived v)

pub returns-in-MirrorRename-clause-fault : goal.returns-in-MirrorRename-clause-fault
unfolding mirror_case
returns-in-MirrorRename-clause-fault g c = λ k arrived e is v.
    fault_along None _ _ arrived c.rename_named.result (case_along c.args.state.now c.args.command.now k _ e (ap plain c.in-MirrorRename.is)) (c.rename_named.ensures.fault arrived v)

pub returns-in_default-clause-fault : goal.returns-in_default-clause-fault
returns-in_default-clause-fault g c = λ k arrived e is v. absurd (is_rename c.args.command.now k e is c.in_default.not-MirrorRename)
