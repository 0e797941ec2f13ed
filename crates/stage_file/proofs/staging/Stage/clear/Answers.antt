use Rattle.std.proofs.Common.{List, [], ◌++◌, IsSome, inl, inr, refl, sym, ap, ◌∙◌, subst, arith}
use Rattle.std.proofs.lemmas.Result.{err_from_is_err_and}
use Rattle.std.proofs.lemmas.Option.{slice_get_read, slice_get_within}
use Rattle.std.specs.Option.{ForSome}
use Rattle.ap_host.specs.Disk.{Path, live_of}
use Rattle.ap_host.specs.Names.{NamesOf}
use Rattle.ap_host.proofs.ChangeLemmas.{GoesOn-then, GoesOn-map, GoesOn-none, GoesOn-given, GoesOn-end, EachOp-append}
use Rattle.stage_file.specs.Stage.{StageState, folder, ClearsStaged}
use Rattle.stage_file.proofs.ClearLemmas.{clears_err, clears_none, listed, still_there, removed_staged, clears_more, clears_all}
use Rattle.stage_file.proofs.staging.Stage.clear.Goals as goal

pub returns-in_err-folder-clause-log : goal.returns-in_err-folder-clause-log
returns-in_err-folder-clause-log g c =
    let e = err_from_is_err_and c.from_residual.result c.from_residual.ensures.1 in
    GoesOn-none _ _ _ refl (λ l. clears_err _ _ c.from_residual.result e.0 l [] e.1 (inr (refl, refl)) tt)

pub returns-in_err-names-clause-log : goal.returns-in_err-names-clause-log
returns-in_err-names-clause-log g c =
    let e = err_from_is_err_and c.from_residual-in_err-names.result c.from_residual-in_err-names.ensures.1 in
    GoesOn-none _ _ _ c.names.ensures.log (λ l. clears_err _ _ c.from_residual-in_err-names.result e.0 l [] e.1 (inr (refl, refl)) tt)

pub loop-name-init : goal.loop-name-init
loop-name-init g c = record {
  next = refl;
  log = GoesOn-none _ _ _ c.names.ensures.log (λ l. (inr (refl, refl), clears_none c.deref-name-items.result.now l));
  later = c.names.ensures.cause.later;
}

pub remove-requires : goal.remove-requires
remove-requires g c =
    let names = c.deref-name-items.result.now in
    let i = c.loop-name.name-index in
    let at = slice_get_read names _ i _ refl c.loop-name-test.true c.name-item.is in
    let listing : ForSome (g.H.Host.log c.args.host.now) (λ l. NamesOf folder (live_of l) names) = λ l told.
    subst (λ (f : Path). NamesOf f (live_of l) names) c.in_ok-folder.ensures (subst (λ (v : List Path). NamesOf c.in_ok-folder.folder (live_of l) v) (sym c.deref-name-items.ensures.value) (c.in_ok-names.ensures.names l told)) in
    GoesOn-end _ _ _ (λ l. IsSome (live_of l c.name-item.result)) (GoesOn-given _ _ _ (λ l. NamesOf folder (live_of l) names) c.loop-name.invariant.log listing)
    (λ l a x. still_there l names i c.name-item.result a x.0 at x.1.1)

pub returns-in_err-remove-clause-log : goal.returns-in_err-remove-clause-log
returns-in_err-remove-clause-log g c =
    let e = err_from_is_err_and c.from_residual-in_err-remove.result c.from_residual-in_err-remove.ensures.1 in
    let names = c.deref-name-items.result.now in
    let i = c.loop-name.name-index in
    let p = c.name-item.result in
    let at = slice_get_read names _ i _ refl c.loop-name-test.true c.name-item.is in
    let listing : ForSome (g.H.Host.log c.args.host.now) (λ l. NamesOf folder (live_of l) names) = λ l told.
    subst (λ (f : Path). NamesOf f (live_of l) names) c.in_ok-folder.ensures (subst (λ (v : List Path). NamesOf c.in_ok-folder.folder (live_of l) v) (sym c.deref-name-items.ensures.value) (c.in_ok-names.ensures.names l told)) in
    GoesOn-then _ _ _ _ _ _ (GoesOn-given _ _ _ (λ l. NamesOf folder (live_of l) names) c.loop-name.invariant.log listing) c.remove.ensures.log
    (λ l a b x y. clears_err _ _ c.from_residual-in_err-remove.result e.0 l (a ++ b) e.1 (inl (ap (λ (s : StageState). s.touched) c.remove.ensures.stage)) (EachOp-append ClearsStaged a b x.1.1.only (removed_staged p c.remove.result b (listed l names i p x.0 at).0 y.did)))

pub loop-name-preserved : goal.loop-name-preserved
loop-name-preserved g c =
    let names = c.deref-name-items.result.now in
    let i = c.loop-name.name-index in
    let p = c.name-item.result in
    let at = slice_get_read names _ i _ refl c.loop-name-test.true c.name-item.is in
    let listing : ForSome (g.H.Host.log c.args.host.now) (λ l. NamesOf folder (live_of l) names) = λ l told.
    subst (λ (f : Path). NamesOf f (live_of l) names) c.in_ok-folder.ensures (subst (λ (v : List Path). NamesOf c.in_ok-folder.folder (live_of l) v) (sym c.deref-name-items.ensures.value) (c.in_ok-names.ensures.names l told)) in
    record {
      next = ap (λ (s : StageState). s.next) c.remove.ensures.stage ∙ c.loop-name.invariant.next;
      log = GoesOn-then _ _ _ _ _ _ (GoesOn-given _ _ _ (λ l. NamesOf folder (live_of l) names) c.loop-name.invariant.log listing) c.in_ok-remove.ensures.log
          (λ l a b x y. (inl (ap (λ (s : StageState). s.touched) c.remove.ensures.stage), clears_more l names i p a b x.0 at x.1.1 y.did));
      later = omega (arith, c.loop-name.invariant.later, c.remove.ensures.cause.later);
    }

pub returns-clause-log : goal.returns-clause-log
returns-clause-log g c =
    let names = c.deref-name-items.result.now in
    let i = c.loop-name.name-index in
    let listing : ForSome (g.H.Host.log c.args.host.now) (λ l. NamesOf folder (live_of l) names) = λ l told.
    subst (λ (f : Path). NamesOf f (live_of l) names) c.in_ok-folder.ensures (subst (λ (v : List Path). NamesOf c.in_ok-folder.folder (live_of l) v) (sym c.deref-name-items.ensures.value) (c.in_ok-names.ensures.names l told)) in
    GoesOn-map _ _ _ _ (GoesOn-given _ _ _ (λ l. NamesOf folder (live_of l) names) c.loop-name.invariant.log listing)
    (λ l a x. clears_all _ _ l names i a x.1.0 x.0 (λ k q here. let lt = slice_get_within names k q here in omega (arith, lt, c.loop-name-test.false)) x.1.1)
