use Rattle.std.proofs.Common.{refl, ◌∙◌}
use Rattle.std.proofs.lemmas.Result.{err_from_is_err_and}
use Rattle.ap_host.specs.declared.host.Op.TheVariants.{Say}
use Rattle.ap_host.proofs.ChangeLemmas.{does, GoesOn-map, GoesOn-none}
use Rattle.aptly_core.proofs.CallLemmas.{says_none, says_so}
use Rattle.aptly_core.proofs.run.say_usage.Goals as goal

pub returns-in_err-line-clause-log : goal.returns-in_err-line-clause-log
returns-in_err-line-clause-log g c =
    let e = err_from_is_err_and c.from_residual.result c.from_residual.ensures.1 in
    GoesOn-none _ _ _ refl (λ l. says_none c.args.place _ e.0 e.1)

pub returns-clause-log : goal.returns-clause-log
returns-clause-log g c =
    GoesOn-map _ _ _ _ (does (Say c.as_bytes.result.now) c.say.result _ _ c.say.ensures.log) (λ l b d. says_so (Unit {0}) c.args.place c.as_bytes.result.now c.say.result b (c.as_bytes.ensures.value ∙ c.as_str.ensures ∙ c.in_ok-line.ensures) d)
