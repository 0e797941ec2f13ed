use Rattle.std.proofs.Common.{ap, None}
use Rattle.command_value.specs.Plain.{plain}
use Rattle.step_model.proofs.FaultLemmas.{ok_along, fault_along}
use Rattle.mirror_ops.specs.Cases.{mirror_case}
use Rattle.mirror_ops.proofs.CaseLemmas.{case_along, is_show}
use Rattle.mirror_ops.proofs.shown.show.Goals as goal

pub returns-in-MirrorShow-clause-ok : goal.returns-in-MirrorShow-clause-ok
unfolding mirror_case
returns-in-MirrorShow-clause-ok g c = λ k arrived e is v.
    ok_along None c.args.state.now _ _ arrived c.show_named.result (case_along c.args.state.now c.args.command.now k _ e (ap plain c.in-MirrorShow.is)) (c.show_named.ensures.ok arrived v)

pub returns-in-MirrorShow-clause-fault : goal.returns-in-MirrorShow-clause-fault
unfolding mirror_case
returns-in-MirrorShow-clause-fault g c = λ k arrived e is v.
    fault_along None _ _ arrived c.show_named.result (case_along c.args.state.now c.args.command.now k _ e (ap plain c.in-MirrorShow.is)) (c.show_named.ensures.fault arrived v)

pub returns-in_default-clause-fault : goal.returns-in_default-clause-fault
returns-in_default-clause-fault g c = λ k arrived e is v. absurd (is_show c.args.command.now k e is c.in_default.not-MirrorShow)
