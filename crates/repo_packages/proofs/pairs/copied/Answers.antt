use Rattle.std.proofs.Common.{◌∙◌, Bool, List, ap, sym, subst}
use Rattle.package_core.specs.Card.{Card}
use Rattle.package_list.specs.Lists.{without}
use Rattle.repo_packages.specs.PackageReplies.{dry_run_of}
use Rattle.std.proofs.lemmas.Result.{IfOk-weaker}
use Rattle.machine_state.specs.declared.change.Change.{Change}
use Rattle.step_model.specs.Answers.{came, IsNew}
use Rattle.step_model.proofs.FaultLemmas.{err_map, fault_memory}
use Rattle.repo_packages.specs.PackageCases.{copying}
use Rattle.repo_packages.proofs.PairLemmas.{joins_well, copying_dry}
use Rattle.repo_packages.proofs.pairs.copied.Goals as goal

pub returns-then-dry_run-clause-comes : goal.returns-then-dry_run-clause-comes
returns-then-dry_run-clause-comes c = λ name v here.
    IfOk-weaker c.dry_run_change.result _ _
    (λ change e.
    joins_well c.args.state.now name c.args.destination.now here c.args.more.now _ c.in_ok-all.ensures.good ∙ ap (λ (d : Bool). copying c.args.state.now d name c.args.more.now) c.if-dry_run.true
    ∙ copying_dry c.args.state.now name c.args.destination.now here _ c.args.more.now (ap (λ (l : List Card). dry_run_of l (without c.args.more.now c.args.destination.now.list)) c.new-none.ensures) ∙ ap (came c.args.state.now) (sym e))
    c.dry_run_change.ensures.same

pub returns-then-dry_run-clause-fault : goal.returns-then-dry_run-clause-fault
returns-then-dry_run-clause-fault c = err_map c.dry_run_change.result _ _ (λ fault h. fault_memory _ fault h) c.dry_run_change.ensures.fault

pub returns-then-dry_run-clause-new : goal.returns-then-dry_run-clause-new
returns-then-dry_run-clause-new c = λ name v here.
    IfOk-weaker c.dry_run_change.result _ _ (λ change e. subst (λ (k : Change). IsNew c.args.state.now k.state) (sym e) tt) c.dry_run_change.ensures.same

pub returns-clause-comes : goal.returns-clause-comes
returns-clause-comes c = λ name v here.
    IfOk-weaker c.put_in.result _ _
    (λ change h.
    joins_well c.args.state.now name c.args.destination.now here c.args.more.now _ c.in_ok-all.ensures.good ∙ ap (λ (d : Bool). copying c.args.state.now d name c.args.more.now) c.if-dry_run.false ∙ h)
    (c.put_in.ensures.comes name c.args.more.now v here c.in_ok-all.ensures.same)

pub returns-clause-fault : goal.returns-clause-fault
returns-clause-fault c = err_map c.put_in.result _ _ (λ fault h. fault_memory _ fault h) c.put_in.ensures.fault

pub returns-clause-new : goal.returns-clause-new
returns-clause-new c = λ name v here. c.put_in.ensures.new name c.args.more.now v here c.in_ok-all.ensures.same
