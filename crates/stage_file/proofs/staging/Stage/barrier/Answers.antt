use Rattle.std.proofs.Common.{◌≡◌, IsTrue, Result, Ok, Err, sym, ap, ◌∙◌, subst}
use Rattle.std.proofs.lemmas.Result.{err_from_is_err_and}
use Rattle.ap_host.specs.declared.host.Op.TheVariants.{Barrier}
use Rattle.ap_host.specs.declared.host.HostErr.{HostErr}
use Rattle.ap_host.specs.Changes.{GoesOn}
use Rattle.ap_host.proofs.ChangeLemmas.{does, GoesOn-map}
use Rattle.stage_file.specs.Stage.{StageState, Barriers}
use Rattle.stage_file.proofs.StageLemmas.{barriers_made, ran}
use Rattle.stage_file.proofs.staging.Stage.barrier.Goals as goal

pub returns-in_err-barrier-clause-log : goal.returns-in_err-barrier-clause-log
returns-in_err-barrier-clause-log g c =
    let p = err_from_is_err_and c.from_residual.result c.from_residual.ensures.1 in
    let same : c.barrier.result ≡ c.from_residual.result = c.in_err-barrier.was ∙ ap (λ (e : HostErr). let r : Result (Unit {0}) HostErr = Err e in r) (sym p.2) ∙ sym p.1 in
    subst (λ (r : Result (Unit {0}) HostErr). GoesOn (g.H.Host.log c.args.host.now) (g.H.Host.log c.barrier.new.self) (Barriers c.args.self.now r)) same
    (GoesOn-map _ _ _ _ (does Barrier c.barrier.result _ _ c.barrier.ensures.log) (λ l a d. barriers_made c.args.self.now _ l a (subst (λ (s : StageState). IsTrue s.touched) c.self.view_is c.if-self.true) d))

pub returns-in_ok-barrier-clause-log : goal.returns-in_ok-barrier-clause-log
returns-in_ok-barrier-clause-log g c =
    let done : Result (Unit {0}) HostErr = Ok tt in
    GoesOn-map _ _ _ _ (ran _ _ _ c.in_ok-barrier.ensures.log.ok)
    (λ l a is. barriers_made c.args.self.now done l a (subst (λ (s : StageState). IsTrue s.touched) c.self.view_is c.if-self.true) is)
