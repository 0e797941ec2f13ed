use Rattle.std.proofs.Common.{List, ℕ, [], ◌++◌, ◌≡◌, inl, Result, Ok, refl, ◌∙◌, ap, subst}
use Rattle.std.proofs.lemmas.Result.{err_from_is_err_and}
use Rattle.ap_host.specs.declared.host.HostErr.{HostErr}
use Rattle.ap_host.specs.Disk.{Path, extended}
use Rattle.ap_host.specs.Changes.{GoesOn}
use Rattle.ap_host.proofs.ChangeLemmas.{GoesOn-then, GoesOn-map, GoesOn-none, EachOp-append}
use Rattle.stage_file.specs.Stage.{StageState, stage_path, Lays, Places}
use Rattle.machine_state.specs.Values.{StateView}
use Rattle.catalogue_text.specs.Root.{root_text}
use Rattle.catalogue_root.specs.Commits.{IsCommitting}
use Rattle.catalogue_root.specs.Store.{root}
use Rattle.catalogue_root.proofs.CommitLemmas.{laid_so, setting, set_so, barred, committed, committed_rest, lays_committing, lays_target, lay_phase, set_holds, set_nothing, rest_held, rename_committing, rename_sets, barriers_each, barriers_target, sets_then, sets_before, once_of, sets_err, Set}
use Rattle.catalogue_root.proofs.committing.set_root.Goals as goal

pub returns-in_err-root-clause-log : goal.returns-in_err-root-clause-log
returns-in_err-root-clause-log g c =
    let e = err_from_is_err_and c.from_residual.result c.from_residual.ensures.1 in
    GoesOn-none _ _ _ refl (λ l s t is. sets_err s t _ e.0 l [] e.1 tt (inl refl) (set_nothing s t l))

pub returns-in_err-name-clause-log : goal.returns-in_err-name-clause-log
returns-in_err-name-clause-log g c =
    let e = err_from_is_err_and c.from_residual-in_err-name.result c.from_residual-in_err-name.ensures.1 in
    let n = c.args.stage.now.next in
    GoesOn-map _ _ _ _ c.lay.ensures.log (λ l a lays s t is. sets_err s t _ e.0 l a e.1 (lays_committing l n a lays.only) (inl (lays_target (stage_path n) a lays.only)) (λ may. lay_phase s t (rest_held s l may.rest) may.held n l a (set_holds s t l may) lays.only))

pub returns-in_err-place-clause-log : goal.returns-in_err-place-clause-log
returns-in_err-place-clause-log g c =
    let e = err_from_is_err_and c.from_residual-in_err-place.result c.from_residual-in_err-place.ensures.1 in
    let n = c.args.stage.now.next in
    let r = c.place.result in
    let name = c.in_ok-name.name in
    let placed = subst (λ (p : Path). GoesOn (g.H.Host.log c.lay.new.host) (g.H.Host.log c.place.new.host) (Places p root r)) c.in_ok-name.ensures.name
    (subst (λ (q : Path). GoesOn (g.H.Host.log c.lay.new.host) (g.H.Host.log c.place.new.host) (Places name q r)) c.in_ok-root.ensures c.place.ensures.log) in
    GoesOn-then _ _ _ _ _ _ c.in_ok-name.ensures.log placed (λ l a b lays places s t is. sets_err s t _ e.0 l (a ++ b) e.1
    (EachOp-append (IsCommitting l) a b (lays_committing l n a lays.only) (rename_committing l n r b places.did))
    (sets_then a b (lays_target (stage_path n) a lays.only) (rename_sets (stage_path n) r b places.did))
    (setting n s t r l a b (laid_so n s t name l a (subst (λ (x : List ℕ). Lays (stage_path n) x (Ok name) l a) (c.as_bytes.ensures.value ∙ is) lays)) places))

pub returns-clause-log : goal.returns-clause-log
returns-clause-log g c =
    let n = c.args.stage.now.next in
    let name = c.in_ok-name.name in
    let st = c.place.new.self in
    let ok : Result (Unit {0}) HostErr = Ok tt in
    let r = c.barrier.result in
    let placed = subst (λ (p : Path). GoesOn (g.H.Host.log c.lay.new.host) (g.H.Host.log c.place.new.host) (Places p root ok)) c.in_ok-name.ensures.name
    (subst (λ (q : Path). GoesOn (g.H.Host.log c.lay.new.host) (g.H.Host.log c.place.new.host) (Places name q ok)) c.in_ok-root.ensures c.in_ok-place.ensures.log) in
    let set = GoesOn-then _ _ _ _ _ (λ l ops. (s t : StateView) → c.args.text.now ≡ root_text t → Set s t l ops) c.in_ok-name.ensures.log placed (λ l a b lays places s t is. record {
      only = EachOp-append (IsCommitting l) a b (lays_committing l n a lays.only) (rename_committing l n ok b places.did);
      once = sets_then a b (lays_target (stage_path n) a lays.only) (rename_sets (stage_path n) ok b places.did);
      so = set_so n s t tt l a b (laid_so n s t name l a (subst (λ (x : List ℕ). Lays (stage_path n) x (Ok name) l a) (c.as_bytes.ensures.value ∙ is) lays)) places;
    }) in
    let touched = ap (λ (x : StageState). x.touched) c.in_ok-place.ensures.stage in
    GoesOn-then _ _ _ _ _ _ set c.barrier.ensures.log (λ l a b so barriers s t is. let w = so s t is in record {
      only = EachOp-append (IsCommitting l) a b w.only (barriers_each (IsCommitting l) st r (extended a l) b tt barriers);
      once = once_of (a ++ b) (sets_before a b w.once (barriers_target st r (extended a l) b barriers));
      grows = committed s t st r l a b touched barriers w.so;
      rests = committed_rest s t st r l a b touched barriers w.so;
      durable = barred s t st r l a b touched barriers;
    })
