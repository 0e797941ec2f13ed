use Rattle.std.proofs.Common.{◌≤◌, length}
use Rattle.package_list.specs.declared.list.TheConstants.{MOST_KNOWN}
use Rattle.machine_state.specs.declared.repo.Repo.{Repo}
use Rattle.package_intake.specs.Fits.{with_more}
use Rattle.step_model.proofs.FaultLemmas.{at_exit}
use Rattle.repo_packages.proofs.JoinLemmas.{at_member}
use Rattle.repo_packages.proofs.addition.all_with_more.Goals as goal

pub returns-in_err-with_more-clause-fits : goal.returns-in_err-with_more-clause-fits
returns-in_err-with_more-clause-fits c = λ all.
    at_exit c.from_residual.result c.in_err-with_more.field-0.0 _ c.from_residual.ensures.1
    (c.in_err-with_more.ensures.fits
    (at_member (λ (r : Repo). length r.list ≤ MOST_KNOWN) (with_more c.args.name.now c.args.list.now) c.args.repos.now c.loop-repo.repo-index c.repo-item.result all c.loop-repo-test.true c.repo-item.is))
