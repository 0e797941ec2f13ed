-- A commit where there is a new state.
use Rattle.std.proofs.Common.{◌≡◌, List, [], ◌∷◌, Option, Some, None, Result, Ok, Err, OnOk, refl, sym, subst}
use Rattle.ap_host.specs.declared.host.Op.{Op}
use Rattle.ap_host.specs.declared.host.HostErr.{HostErr}
use Rattle.ap_host.specs.Disk.{Log, extended, Durable}
use Rattle.ap_host.specs.Changes.{EachOp}
use Rattle.ap_host.proofs.DiskLemmas.{extended-none}
use Rattle.stage_file.specs.Stage.{StageState, IsInStep}
use Rattle.stage_file.proofs.StageLemmas.{on_ok}
use Rattle.run_model.specs.Run.{AtRest}
use Rattle.machine_state.specs.Values.{StateView}
use Rattle.catalogue_root.specs.Commits.{IsCommitting, IsSaving, Commits, Saves}
use Rattle.catalogue_root.specs.Store.{store}
use Rattle.catalogue_root.proofs.ReadyLemmas.{commits_begun}

-- what a save does, a commit may do
pub saving_commits : (new : Option StateView) (l : Log) (ops : List Op) → EachOp (IsSaving new l) ops → EachOp (IsCommitting l) ops
saving_commits (Some t) l ops each = each
saving_commits None l [] each = tt
saving_commits None l (op ∷ ops) each = absurd each.0

-- and where there is no new state it does nothing
pub saving_nothing : (new : Option StateView) (l : Log) (ops : List Op) → new ≡ None → EachOp (IsSaving new l) ops → ops ≡ []
saving_nothing None l [] is each = refl
saving_nothing None l (op ∷ ops) is each = absurd each.0
saving_nothing (Some t) l ops is each = absurd (cc)

pub saves_none : {T : Type 0} (s : StateView) (new : Option StateView) → new ≡ None → (st : StageState) (r : Result T HostErr) (l : Log) → Saves s new st st r l []
saves_none s new is st r l = subst (λ (n : Option StateView). Saves s n st st r l []) (sym is) (record {
  only = tt;
  once = tt;
  grows = λ may. commits_begun s s l may.rest;
  rests = λ may. on_ok r (subst (AtRest store s) (sym (extended-none l)) may.rest);
  step = λ may. on_ok r (subst (IsInStep st) (sym (extended-none l)) may.step);
})

pub saves_some : {T : Type 0} (s : StateView) (new : Option StateView) (t : StateView) → new ≡ Some t → (before now : StageState) (r : Result T HostErr) (l : Log) (ops : List Op) → Commits s t before r l ops → Saves s new before now r l ops
saves_some {T = T} s new t is before now r l ops w = subst (λ (n : Option StateView). Saves s n before now r l ops) (sym is) (record {
  only = w.only;
  once = w.once;
  grows = w.grows;
  rests = w.rests;
  step = λ may. go r w.durable;
})
  where
    go : (v : Result T HostErr) → OnOk v (Durable (extended ops l)) → OnOk v (IsInStep now (extended ops l))
    go (Ok v) d = λ clean. d
    go (Err e) d = tt
