use Rattle.std.proofs.Common.{[], inl, refl, ◌∙◌}
use Rattle.std.proofs.lemmas.Result.{err_from_is_err_and}
use Rattle.ap_host.proofs.ChangeLemmas.{GoesOn-then, GoesOn-map, GoesOn-none}
use Rattle.catalogue_root.specs.Commits.{IsCommitting}
use Rattle.catalogue_root.proofs.CommitLemmas.{barriers_each, barriers_target}
use Rattle.catalogue_root.proofs.ReadyLemmas.{barrier_grows, commits_none, commits_begun, commits_so}
use Rattle.catalogue_root.proofs.committing.commit.Goals as goal

pub returns-in_err-text-clause-log : goal.returns-in_err-text-clause-log
returns-in_err-text-clause-log g c =
    let e = err_from_is_err_and c.from_residual.result c.from_residual.ensures.1 in
    let s = c.args._old.now in
    let t = c.args.new.now in
    GoesOn-none _ _ _ refl (λ l. commits_none s t c.args.stage.now _ e.0 l [] e.1 tt (inl refl) (λ may. commits_begun s t l may.rest))

pub returns-in_err-barrier-clause-log : goal.returns-in_err-barrier-clause-log
returns-in_err-barrier-clause-log g c =
    let e = err_from_is_err_and c.from_residual-in_err-barrier.result c.from_residual-in_err-barrier.ensures.1 in
    let s = c.args._old.now in
    let t = c.args.new.now in
    let st = c.args.stage.now in
    let r = c.barrier.result in
    GoesOn-map _ _ _ _ c.barrier.ensures.log (λ l a w. commits_none s t st _ e.0 l a e.1 (barriers_each (IsCommitting l) st r l a tt w) (inl (barriers_target st r l a w)) (λ may. barrier_grows s t st r l a w may.rest))

pub returns-clause-log : goal.returns-clause-log
returns-clause-log g c =
    let s = c.args._old.now in
    let t = c.args.new.now in
    GoesOn-then _ _ _ _ _ _ c.in_ok-barrier.ensures.log c.set_root.ensures.log (λ l a b w sets. commits_so s t c.args.stage.now _ c.set_root.result l a b w (sets s t (c.as_str.ensures ∙ c.in_ok-text.ensures)))
