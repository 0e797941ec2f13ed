use Rattle.std.proofs.Common.{Bool, true, List, [], ◌∷◌, ◌++◌, inl, inr, ◌∙◌, ap, subst}
use Rattle.std.proofs.lemmas.Result.{err_from_is_err_and}
use Rattle.ap_host.specs.declared.host.Op.{Op}
use Rattle.ap_host.specs.declared.host.Op.TheVariants.{Claim, Barrier}
use Rattle.ap_host.specs.Calls.{Added}
use Rattle.ap_host.proofs.ChangeLemmas.{does, GoesOn-map, GoesOn-then}
use Rattle.stage_file.proofs.StageLemmas.{ran}
use Rattle.catalogue_root.proofs.OpenLemmas.{enters_err, failed_barrier}
use Rattle.catalogue_root.proofs.opening.enter.Goals as goal

pub returns-in_err-claim-clause-log : goal.returns-in_err-claim-clause-log
returns-in_err-claim-clause-log g c =
    let e = err_from_is_err_and c.from_residual.result c.from_residual.ensures.1 in
    GoesOn-map _ _ _ _ (ran [] _ _ c.in_err-claim.ensures.err) (λ l a is. enters_err c.from_residual.result e.0 a e.1 (inl is))

pub returns-in_err-barrier-clause-log : goal.returns-in_err-barrier-clause-log
returns-in_err-barrier-clause-log g c =
    let r = c.from_residual-in_err-barrier.result in
    let e = err_from_is_err_and r c.from_residual-in_err-barrier.ensures.1 in
    let claimed = subst (λ (x : Bool). Added (Claim x ∷ []) (g.H.Host.log c.args.host.now) (g.H.Host.log c.claim.new.self)) c.if-not-branch.false c.in_ok-claim.ensures.log in
    GoesOn-then _ _ _ _ _ _ (ran (Claim true ∷ []) _ _ claimed) (does Barrier c.barrier.result _ _ c.barrier.ensures.log)
    (λ l a b is did. enters_err r e.0 (a ++ b) e.1 (inr (failed_barrier (Unit {0}) a b c.barrier.result _ c.in_err-barrier.was is did)))

pub returns-clause-log : goal.returns-clause-log
returns-clause-log g c =
    let claimed = subst (λ (x : Bool). Added (Claim x ∷ []) (g.H.Host.log c.args.host.now) (g.H.Host.log c.claim.new.self)) c.if-not-branch.false c.in_ok-claim.ensures.log in
    GoesOn-then _ _ _ _ _ _ (ran (Claim true ∷ []) _ _ claimed) (ran (Barrier ∷ []) _ _ c.in_ok-barrier.ensures.log.ok)
    (λ l a b is did. ap (λ (x : List Op). x ++ b) is ∙ ap (λ (x : List Op). Claim true ∷ x) did)
