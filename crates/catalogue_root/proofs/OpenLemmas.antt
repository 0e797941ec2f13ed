-- The opening of a store.
use Rattle.std.proofs.Common.{◌≡◌, ◌⊎◌, Bool, true, List, [], ◌∷◌, ◌++◌, Result, Ok, Err, IfOk, refl, sym, ◌∙◌, ap, subst}
use Rattle.ap_host.specs.declared.host.Op.{Op}
use Rattle.ap_host.specs.declared.host.Op.TheVariants.{Claim, Barrier}
use Rattle.ap_host.specs.declared.host.HostErr.{HostErr}
use Rattle.ap_host.specs.declared.host.HostErr.TheVariants.{Failed, OutOfMemory}
use Rattle.ap_host.specs.Calls.{Did}
use Rattle.ap_host.specs.Disk.{Log, live_of, Durable}
use Rattle.run_model.specs.Run.{Keeps}
use Rattle.run_model.proofs.Growing.{keeps_of}
use Rattle.catalogue_root.specs.declared.damage.LoadFault.{LoadFault}
use Rattle.catalogue_root.specs.declared.damage.LoadFault.TheVariants.{Damaged, HostFault, OutOfMemory as NoMemory}
use Rattle.catalogue_root.specs.declared.damage.Damage.{Damage}
use Rattle.catalogue_root.specs.Opens.{Enters, SettlesTo, OpensTo}
use Rattle.catalogue_root.specs.Loads.{MayLoad}
use Rattle.catalogue_root.specs.Store.{Open, Sound, store}
use Rattle.machine_state.specs.Values.{StateView}
use Rattle.catalogue_root.proofs.SettleLemmas.{nothing_settled, keeps_serve, settling_live}

pub enters_err : (r : Result Bool HostErr) (e : HostErr) (ops : List Op) → r ≡ Err e → (ops ≡ []) ⊎ (ops ≡ Claim true ∷ []) → Enters r ops
enters_err r e ops is w = subst (λ v. Enters v ops) (sym is) w

pub failed_barrier : (T : Type 0) (a b : List Op) (r : Result T HostErr) (e : HostErr) → r ≡ Err e → a ≡ Claim true ∷ [] → Did Barrier r b → a ++ b ≡ Claim true ∷ []
failed_barrier T a b r e is claimed did = ap (λ (x : List Op). x ++ b) claimed ∙ ap (λ (x : List Op). Claim true ∷ x) (none e (subst (λ v. Did Barrier v b) is did))
  where
    none : (e : HostErr) → Did {T = T} Barrier (Err e) b → b ≡ []
    none Failed d = d
    none OutOfMemory d = d

-- what was loaded, and then settled
pub opens_so : (state : StateView) (r : Result StateView LoadFault) (l : Log) (ops : List Op) → Sound (live_of l) state → IfOk r (λ loaded. loaded ≡ state) → ((damage : Damage) → r ≡ Err (Damaged damage) → ⊥) → SettlesTo r l ops → OpensTo r l ops
opens_so state r l ops sound same never w = record { settles = w; loads = go r same never; damaged = λ damage is. absurd (never damage is) }
  where
    go : (v : Result StateView LoadFault) → IfOk v (λ loaded. loaded ≡ state) → ((damage : Damage) → v ≡ Err (Damaged damage) → ⊥) → MayLoad (live_of l) v
    go (Ok s) e n = subst (Sound (live_of l)) (sym e) sound
    go (Err (Damaged damage)) e n = absurd (n damage refl)
    go (Err HostFault) e n = tt
    go (Err NoMemory) e n = tt

pub opens_err : (fault : LoadFault) (l : Log) (ops : List Op) → ops ≡ [] → MayLoad (live_of l) (Err fault) → OpensTo (Err fault) l ops
opens_err fault l ops none loads = subst (OpensTo (Err fault) l) (sym none) (record {
  settles = record {
    only = tt;
    keeps = kept;
    serves = λ s durable stands. keeps_serve s l [] (kept s durable stands);
    ready = λ s durable stands. tt;
    durable = λ durable. tt;
    same = λ q not. settling_live q not [] l tt;
  };
  loads = loads;
  damaged = λ damage is. refl;
})
  where
    kept : (s : StateView) → Durable l → Open (live_of l) s → Keeps store s l []
    kept s durable stands = keeps_of store s l [] (nothing_settled s l durable stands)
