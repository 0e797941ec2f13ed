-- What the opening of a store adds to the log.
use Rattle.std.specs.Prelude.{◌≡◌, ◌⊎◌, Bool, true, false, List, [], ◌∷◌, Result, Ok, Err, OnOk, IsTrue, IsFalse}
use Rattle.ap_host.specs.declared.host.Op.{Op}
use Rattle.ap_host.specs.declared.host.Op.TheVariants.{Remove, Barrier, Claim}
use Rattle.ap_host.specs.declared.host.HostErr.{HostErr}
use Rattle.ap_host.specs.Disk.{Path, Log, extended, live_of, Durable}
use Rattle.ap_host.specs.Changes.{EachOp}
use Rattle.run_model.specs.Run.{Keeps, Ready, ServesOn}
use Rattle.stage_file.specs.Stage.{is_staged}
use Rattle.machine_state.specs.Values.{StateView}
use Rattle.catalogue_root.specs.declared.damage.Damage.{Damage}
use Rattle.catalogue_root.specs.declared.damage.LoadFault.{LoadFault}
use Rattle.catalogue_root.specs.declared.damage.LoadFault.TheVariants.{Damaged}
use Rattle.catalogue_root.specs.Loads.{MayLoad}
use Rattle.catalogue_root.specs.Store.{Open, store}

-- a claim, and the first barrier where it was got
abbrev pub Enters : Result Bool HostErr → List Op → Type 0
Enters (Ok true) ops = ops ≡ Claim true ∷ Barrier ∷ []
Enters (Ok false) ops = ops ≡ Claim false ∷ []
Enters (Err error) ops = (ops ≡ []) ⊎ (ops ≡ Claim true ∷ [])

-- an operation of the settling, which removes staged files
abbrev pub IsSettling : Op → Type 0
IsSettling (Remove p) = IsTrue (is_staged p)
IsSettling Barrier = Unit {0}
IsSettling _ = ⊥

-- All staged files are removed, and nothing else. Where what reads give is durable and stands for a state, it goes on to stand for
-- it, and at the end it is durable again and commands may begin.
pub record SettlesTo {T E : Type 0} (result : Result T E) (l : Log) (ops : List Op) : Type 0 where
  pub only : EachOp IsSettling ops
  pub keeps : (s : StateView) → Durable l → Open (live_of l) s → Keeps store s l ops
  pub serves : (s : StateView) → Durable l → Open (live_of l) s → ServesOn store s l ops
  pub ready : (s : StateView) → Durable l → Open (live_of l) s → OnOk result (Ready store s (extended ops l))
  pub durable : Durable l → OnOk result (Durable (extended ops l))
  pub same : (q : Path) → IsFalse (is_staged q) → live_of (extended ops l) q ≡ live_of l q

-- a store was loaded, and then settled; a damaged one was left as it was
pub record OpensTo (result : Result StateView LoadFault) (l : Log) (ops : List Op) : Type 0 where
  pub settles : SettlesTo result l ops
  pub loads : MayLoad (live_of l) result
  pub damaged : (damage : Damage) → result ≡ Err (Damaged damage) → ops ≡ []
