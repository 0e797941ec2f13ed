use Rattle.std.proofs.Common.{◌∙◌, Bool, ap}
use Rattle.std.proofs.lemmas.Result.{IfOk-weaker}
use Rattle.repo_packages.specs.PackageCases.{removal}
use Rattle.repo_packages.proofs.PairLemmas.{removal_dry}
use Rattle.repo_packages.proofs.removal.removed.Goals as goal

pub returns-then-dry_run-clause-comes : goal.returns-then-dry_run-clause-comes
returns-then-dry_run-clause-comes c = λ name v found.
    ap (λ (d : Bool). removal c.args.state.now d name c.args.gone.now) c.if-dry_run.true
    ∙ removal_dry c.args.state.now name c.args.repo.now found c.in_ok-reply.reply c.args.gone.now (cc (c.in_ok-reply.ensures, c.as_slice.ensures, c.as_slice-then-dry_run.ensures, c.new-none.ensures))

pub returns-clause-comes : goal.returns-clause-comes
returns-clause-comes c = λ name v found.
    IfOk-weaker c.take_out.result _ _ (λ change h. ap (λ (d : Bool). removal c.args.state.now d name c.args.gone.now) c.if-dry_run.false ∙ h) (c.take_out.ensures.comes name v found)
