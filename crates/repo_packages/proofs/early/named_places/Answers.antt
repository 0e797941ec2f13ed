use Rattle.std.proofs.Common.{◌∙◌, ap, sym}
use Rattle.step_model.specs.Names.{bad_name}
use Rattle.step_model.proofs.FaultLemmas.{at_exit, first_decides, second_decides}
use Rattle.mirror_lists.specs.Mirrors.{unknown_mirror}
use Rattle.mirror_lists.proofs.MirrorLemmas.{mirror_along}
use Rattle.repo_packages.specs.PackageCases.{unknown}
use Rattle.repo_packages.proofs.CaseLemmas.{unknown_along}
use Rattle.repo_packages.proofs.early.named_places.Goals as goal

pub returns-in_err-source-clause-fault : goal.returns-in_err-source-clause-fault
returns-in_err-source-clause-fault c = λ v.
    let fault = c.in_err-source.field-0.0 in
    let state = c.args.state.now in
    let mirror = c.args.mirror.now in
    let repo = c.args.repo.now in
    at_exit c.from_residual-in_err-source.result fault _ c.from_residual-in_err-source.ensures.1
    (second_decides (bad_name mirror) _ fault c.in_ok-from.ensures.good
    (second_decides (bad_name repo) _ fault c.in_ok-to.ensures.good
    (first_decides (unknown_mirror state.mirrors mirror) (unknown state.repos repo) fault (mirror_along state.mirrors _ _ fault c.in_ok-from.ensures.same (c.in_err-source.ensures.fault v)))))

pub returns-in_err-destination-clause-fault : goal.returns-in_err-destination-clause-fault
returns-in_err-destination-clause-fault c = λ v.
    let fault = c.in_err-destination.field-0.0 in
    let state = c.args.state.now in
    let mirror = c.args.mirror.now in
    let repo = c.args.repo.now in
    at_exit c.from_residual-in_err-destination.result fault _ c.from_residual-in_err-destination.ensures.1
    (second_decides (bad_name mirror) _ fault c.in_ok-from.ensures.good
    (second_decides (bad_name repo) _ fault c.in_ok-to.ensures.good
    (second_decides (unknown_mirror state.mirrors mirror) (unknown state.repos repo) fault (ap (unknown_mirror state.mirrors) (sym c.in_ok-from.ensures.same) ∙ c.in_ok-source.ensures.good v)
    (unknown_along state.repos _ _ fault c.in_ok-to.ensures.same (c.in_err-destination.ensures.fault v)))))
