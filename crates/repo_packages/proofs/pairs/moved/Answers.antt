use Rattle.std.proofs.Common.{◌∙◌, Bool, ap, refl, sym, subst}
use Rattle.std.proofs.lemmas.Result.{IfOk-weaker}
use Rattle.machine_state.specs.declared.change.Change.{Change}
use Rattle.step_model.specs.Answers.{came, IsNew}
use Rattle.step_model.proofs.FaultLemmas.{err_map, fault_memory}
use Rattle.repo_packages.specs.PackageCases.{moving}
use Rattle.repo_packages.proofs.PairLemmas.{joins_well, moving_dry}
use Rattle.repo_packages.proofs.pairs.moved.Goals as goal

pub returns-then-dry_run-clause-comes : goal.returns-then-dry_run-clause-comes
returns-then-dry_run-clause-comes c = λ from to v there here.
    IfOk-weaker c.dry_run_change.result _ _
    (λ change e.
    joins_well c.args.state.now to c.args.destination.now here c.args.more.now _ c.in_ok-all.ensures.good ∙ ap (λ (d : Bool). moving c.args.state.now d from to c.args.more.now) c.if-dry_run.true
    ∙ moving_dry c.args.state.now from to c.args.source.now c.args.destination.now there here _ c.args.more.now refl ∙ ap (came c.args.state.now) (sym e))
    c.dry_run_change.ensures.same

pub returns-then-dry_run-clause-fault : goal.returns-then-dry_run-clause-fault
returns-then-dry_run-clause-fault c = err_map c.dry_run_change.result _ _ (λ fault h. fault_memory _ fault h) c.dry_run_change.ensures.fault

pub returns-then-dry_run-clause-new : goal.returns-then-dry_run-clause-new
returns-then-dry_run-clause-new c = λ from to test v there here chose.
    IfOk-weaker c.dry_run_change.result _ _ (λ change e. subst (λ (k : Change). IsNew c.args.state.now k.state) (sym e) tt) c.dry_run_change.ensures.same

pub returns-clause-comes : goal.returns-clause-comes
returns-clause-comes c = λ from to v there here.
    IfOk-weaker c.carry.result _ _
    (λ change h.
    joins_well c.args.state.now to c.args.destination.now here c.args.more.now _ c.in_ok-all.ensures.good ∙ ap (λ (d : Bool). moving c.args.state.now d from to c.args.more.now) c.if-dry_run.false ∙ h)
    (c.carry.ensures.comes from to v there here c.in_ok-all.ensures.same)

pub returns-clause-fault : goal.returns-clause-fault
returns-clause-fault c = err_map c.carry.result _ _ (λ fault h. fault_memory _ fault h) c.carry.ensures.fault

pub returns-clause-new : goal.returns-clause-new
returns-clause-new c = λ from to test v there here chose. c.carry.ensures.new from to test v there here chose
