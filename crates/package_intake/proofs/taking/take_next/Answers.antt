use Rattle.std.proofs.Common.{refl, subst, IfOk, All}
use Rattle.std.proofs.lemmas.Result.{IfOk-from_err}
use Rattle.ap_host.specs.Changes.{GoesOn}
use Rattle.ap_host.proofs.ChangeLemmas.{GoesOn-none}
use Rattle.package_core.specs.Card.{Card, IsPackage}
use Rattle.package_core.specs.Whole.{IsSaid}
use Rattle.machine_state.specs.State.{IsCatalogue}
use Rattle.package_intake.specs.Additions.{AddsOne}
use Rattle.hash_pool.specs.Bodies.{HasBody}
use Rattle.package_intake.specs.Taking.{IsTakenIn}
use Rattle.package_intake.proofs.LogLemmas.{nothing_adds}
use Rattle.package_intake.proofs.taking.take_next.Goals as goal

pub returns-in_err-path-clause-log : goal.returns-in_err-path-clause-log
returns-in_err-path-clause-log g c =
    GoesOn-none _ _ _ refl (λ l. nothing_adds _ _ _ c.from_residual.result _ l (IfOk-from_err c.from_residual.result _ c.from_residual.ensures.0))

pub returns-clause-taken : goal.returns-clause-taken
returns-clause-taken g c =
    subst (λ (x : Card). IfOk c.take_one.result (λ q. IsCatalogue c.args.known.now → IsPackage x → IsSaid x.said → IsTakenIn c.args.known.now x q)) c.as_ref.ensures c.take_one.ensures.taken

pub returns-clause-log : goal.returns-clause-log
returns-clause-log g c =
    subst (λ (x : Card). GoesOn (g.H.Host.log c.args.host.now) (g.H.Host.log c.take_one.new.host) (AddsOne (g.I.Inbox.map c.args.inbox.now) x (λ f. All (HasBody f) c.args.known.now) c.take_one.result c.args.stage.now c.take_one.new.stage)) c.as_ref.ensures c.take_one.ensures.log
