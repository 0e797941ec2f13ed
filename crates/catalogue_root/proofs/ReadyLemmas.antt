-- The barrier before the root is set: what was taken in is durable behind it.
use Rattle.std.proofs.Common.{◌≡◌, inl, Bool, true, false, List, [], ◌∷◌, ◌++◌, MatchBool, Result, Ok, Err, OnOk, refl, sym, ◌∙◌, ap, subst}
use Rattle.ap_host.specs.declared.host.Op.{Op}
use Rattle.ap_host.specs.declared.host.Op.TheVariants.{Barrier}
use Rattle.ap_host.specs.declared.host.HostErr.{HostErr}
use Rattle.ap_host.specs.Disk.{Path, Content, Files, Log, Disk, Image, disk_of, extended, live_of, said, Durable, Throughout}
use Rattle.ap_host.specs.Calls.{Did}
use Rattle.ap_host.specs.Changes.{EachOp}
use Rattle.ap_host.proofs.DiskLemmas.{disk_of-step, extended-append, extended-none, Throughout-none}
use Rattle.ap_host.proofs.ChangeLemmas.{EachOp-append, IsPart, part_moments, did_part}
use Rattle.ap_host.proofs.LegalLemmas.{law_of_live_image, durable_image}
use Rattle.run_model.specs.Run.{Grows, AtRest}
use Rattle.run_model.proofs.Growing.{onward_part, onward_nothing, grows_then}
use Rattle.stage_file.specs.Stage.{StageState, Barriers, IsInStep}
use Rattle.stage_file.proofs.StageLemmas.{live_step_of}
use Rattle.hash_pool.specs.Growth.{targets, IsOnce}
use Rattle.hash_pool.proofs.GrowthLemmas.{targets-append}
use Rattle.machine_state.specs.Values.{StateView}
use Rattle.catalogue_root.specs.Commits.{IsCommitting, MayCommit, MaySet, SetsRoot, Commits}
use Rattle.catalogue_root.specs.Store.{Open, store}
use Rattle.catalogue_root.proofs.FitLemmas.{open_same, open_serves, bodies_along}
use Rattle.catalogue_root.proofs.CommitLemmas.{did_quiet, barriers_each, barriers_target, SetsOnce, once_of}

-- while each image stands for the state
module _ (s t : StateView) (l : Log) (ops : List Op) where
  rest_grows : said ops ≡ [] → Throughout (AtRest store s) l ops
      → ((earlier between after : List Op) → (earlier ++ between) ++ after ≡ ops → Open (live_of (extended earlier l)) t → Open (live_of (extended (earlier ++ between) l)) t) → Grows store s t l ops
  rest_grows quiet at onward = record { quiet = quiet; each = λ before after e f image. let o = at before after e f image in (inl o, open_serves f s s t o); onward = onward }

module _ {T : Type 0} (s t : StateView) (st : StageState) (r : Result T HostErr) (l : Log) (b : List Op) (barriers : Barriers st r l b) where
  abbrev pub IsNew : Log → Type 0
  IsNew m = Open (live_of m) t

  pub barrier_live : (v : T) → r ≡ Ok v → (q : Path) → live_of (extended b l) q ≡ live_of l q
  barrier_live v is q = go st.touched barriers.made
    where
      go : (x : Bool) → MatchBool x (Did Barrier r b) (b ≡ []) → live_of (extended b l) q ≡ live_of l q
      go true d = ap (λ (o : List Op). live_of (extended o l) q) (subst (λ v. Did Barrier v b) is d) ∙ live_step_of l Barrier q
      go false d = ap (λ (o : List Op). live_of (extended o l) q) d ∙ ap (λ (x : Log). live_of x q) (extended-none l)

  same : (o : Op) → IsPart Barrier o → (q : Path) → live_of (extended (o ∷ []) l) q ≡ live_of l q
  same o is q = ap (λ (p : Op). live_of (extended (p ∷ []) l) q) is ∙ live_step_of l Barrier q

  barred : (o : Op) → IsPart Barrier o → (q : Path) (x : Content) → (disk_of (extended (o ∷ []) l)).may q x → x ≡ live_of l q
  barred o is q x may = subst (λ (e : Disk). e.may q x) (ap (λ (p : Op). disk_of (extended (p ∷ []) l)) is ∙ disk_of-step Barrier l) may

  pub barrier_grows : AtRest store s l → Grows store s t l b
  barrier_grows rest = go st.touched barriers.made
    where
      here : Open (live_of l) s
      here = rest (live_of l) (law_of_live_image l)

      go : (x : Bool) → MatchBool x (Did Barrier r b) (b ≡ []) → Grows store s t l b
      go true d = rest_grows s t l b (did_quiet Barrier r b (λ o is. subst (λ (x : Op). said (x ∷ []) ≡ []) (sym is) refl) d)
          (part_moments (AtRest store s) l Barrier b rest (λ o is f image. open_same s (live_of l) f (λ q. barred o is q (f q) (image q)) here) (did_part Barrier r b d))
          (onward_part IsNew l Barrier b (λ o is h. open_same t _ _ (same o is) h) (did_part Barrier r b d))
      go false d = rest_grows s t l b (ap said d) (subst (Throughout (AtRest store s) l) (sym d) (Throughout-none (AtRest store s) l rest)) (onward_nothing IsNew l b d)

  pub ready : (v : T) → r ≡ Ok v → MayCommit s t st l → MaySet s t (extended b l)
  ready v is may = record {
    rest = λ f image. open_same s (live_of l) f (as_live f image) (may.rest (live_of l) (law_of_live_image l));
    held = may.next.held;
    bodies = λ f image. bodies_along (live_of l) f t.known (as_live f image) may.next.bodies;
  }
    where
      on : (v : Result T HostErr) (x : T) → v ≡ Ok x → OnOk v (IsInStep st l → Durable (extended b l)) → IsInStep st l → Durable (extended b l)
      on (Ok y) x e d = d
      on (Err y) x e d = absurd (cc)

      as_live : (f : Files) → Image (extended b l) f → (q : Path) → f q ≡ live_of l q
      as_live f image q = durable_image (extended b l) (on r v is barriers.durable may.step) f image q ∙ barrier_live v is q

-- a commit: the barrier, and the root
pub commits_none : {T : Type 0} (s t : StateView) (st : StageState) (r : Result T HostErr) (e : HostErr) (l : Log) (ops : List Op) → r ≡ Err e → EachOp (IsCommitting l) ops → SetsOnce ops → (MayCommit s t st l → Grows store s t l ops) → Commits s t st r l ops
commits_none s t st r e l ops is only once grows = record {
  only = only;
  once = once_of ops once;
  grows = grows;
  rests = λ may. subst (λ v. OnOk v (AtRest store t (extended ops l))) (sym is) tt;
  durable = subst (λ v. OnOk v (Durable (extended ops l))) (sym is) tt;
}

pub commits_begun : (s t : StateView) (l : Log) → AtRest store s l → Grows store s t l []
commits_begun s t l rest = rest_grows s t l [] refl (Throughout-none (AtRest store s) l rest) (onward_nothing (λ m. Open (live_of m) t) l [] refl)

pub commits_so : {T U : Type 0} (s t : StateView) (st : StageState) (v : U) (r : Result T HostErr) (l : Log) (a b : List Op) → Barriers {T = U} st (Ok v) l a → SetsRoot s t r (extended a l) b → Commits s t st r l (a ++ b)
commits_so {T = T} {U = U} s t st v r l a b barriers w = record {
  only = EachOp-append (IsCommitting l) a b (barriers_each (IsCommitting l) st ok l a tt barriers) w.only;
  once = subst IsOnce (sym (targets-append a b ∙ ap (λ (x : List Path). x ++ targets b) (barriers_target st ok l a barriers))) w.once;
  grows = λ may. grows_then store s t l a b (barrier_grows s t st ok l a barriers may.rest) (w.grows (ready s t st ok l a barriers v refl may));
  rests = λ may. on_ok (AtRest store t) r (w.rests (ready s t st ok l a barriers v refl may));
  durable = on_ok Durable r w.durable;
}
  where
    ok : Result U HostErr
    ok = Ok v

    on_ok : (P : Log → Type 0) (x : Result T HostErr) → OnOk x (P (extended b (extended a l))) → OnOk x (P (extended (a ++ b) l))
    on_ok P (Ok y) h = subst P (extended-append a b l) h
    on_ok P (Err y) h = tt
