use Rattle.std.proofs.Common.{◌∙◌, ap, subst, Err, arith}
use Rattle.std.specs.Rc.{rc_value}
use Rattle.std.proofs.lemmas.Result.{err_from_is_err_and}
use Rattle.ap_host.specs.Disk.{live_of}
use Rattle.catalogue_root.specs.Loads.{IsLookedFor}
use Rattle.catalogue_root.specs.Store.{HasFile}
use Rattle.package_core.specs.Card.{Card}
use Rattle.catalogue_root.proofs.LoadLemmas.{files_more, files_all, looked_err}
use Rattle.catalogue_root.proofs.loading.look_for_all.Goals as goal

pub loop-member-preserved : goal.loop-member-preserved
loop-member-preserved g c = record {
  later = omega (arith, c.loop-member.invariant.later, c.look_for.ensures.cause.later);
  log = c.look_for.ensures.log ∙ c.loop-member.invariant.log;
  told = λ x is. files_more rc_value c.args.packages.now c.loop-member.member-index c.member-item.result c.loop-member-test.true c.member-item.is (live_of x) (c.loop-member.invariant.told x is) (subst (HasFile (live_of x)) (c.package.ensures ∙ c.as_ref.ensures) (c.in_ok-look_for.ensures.told x (c.loop-member.invariant.log ∙ is)));
}

pub returns-in_err-look_for-clause-told : goal.returns-in_err-look_for-clause-told
returns-in_err-look_for-clause-told g c x is =
    let e = err_from_is_err_and c.from_residual.result c.from_residual.ensures.1 in
    let fault = c.in_err-look_for.field-0.0 in
    looked_err rc_value (live_of x) c.args.packages.now c.loop-member.member-index c.member-item.result c.loop-member-test.true c.member-item.is (c.loop-member.invariant.told x is) fault c.from_residual.result (e.1 ∙ ap Err e.2)
    (subst (λ (p : Card). IsLookedFor {T = Unit {0}} (live_of x) p (Err fault)) (c.package.ensures ∙ c.as_ref.ensures) (c.in_err-look_for.ensures.told x (c.loop-member.invariant.log ∙ is)))

pub returns-clause-told : goal.returns-clause-told
returns-clause-told g c x is = files_all rc_value (live_of x) c.args.packages.now c.loop-member.member-index c.loop-member-test.false (c.loop-member.invariant.told x is)
