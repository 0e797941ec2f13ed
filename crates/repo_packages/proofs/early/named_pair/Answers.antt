use Rattle.std.proofs.Common.{◌∙◌, ap, sym}
use Rattle.step_model.specs.Names.{bad_name}
use Rattle.step_model.proofs.FaultLemmas.{at_exit, first_decides, second_decides}
use Rattle.repo_packages.specs.PackageCases.{unknown}
use Rattle.repo_packages.proofs.CaseLemmas.{unknown_along}
use Rattle.repo_packages.proofs.early.named_pair.Goals as goal

pub returns-in_err-source-clause-fault : goal.returns-in_err-source-clause-fault
returns-in_err-source-clause-fault c = λ v.
    let fault = c.in_err-source.field-0.0 in
    let repos = c.args.state.now.repos in
    let source = c.args.source.now in
    let destination = c.args.destination.now in
    at_exit c.from_residual-in_err-source.result fault _ c.from_residual-in_err-source.ensures.1
    (second_decides (bad_name source) _ fault c.in_ok-from.ensures.good
    (second_decides (bad_name destination) _ fault c.in_ok-to.ensures.good
    (first_decides (unknown repos source) (unknown repos destination) fault (unknown_along repos _ _ fault c.in_ok-from.ensures.same (c.in_err-source.ensures.fault v)))))

pub returns-in_err-destination-clause-fault : goal.returns-in_err-destination-clause-fault
returns-in_err-destination-clause-fault c = λ v.
    let fault = c.in_err-destination.field-0.0 in
    let repos = c.args.state.now.repos in
    let source = c.args.source.now in
    let destination = c.args.destination.now in
    at_exit c.from_residual-in_err-destination.result fault _ c.from_residual-in_err-destination.ensures.1
    (second_decides (bad_name source) _ fault c.in_ok-from.ensures.good
    (second_decides (bad_name destination) _ fault c.in_ok-to.ensures.good
    (second_decides (unknown repos source) (unknown repos destination) fault (ap (unknown repos) (sym c.in_ok-from.ensures.same) ∙ c.in_ok-source.ensures.good v)
    (unknown_along repos _ _ fault c.in_ok-to.ensures.same (c.in_err-destination.ensures.fault v)))))
