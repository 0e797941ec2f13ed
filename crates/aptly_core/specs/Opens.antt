-- What a call that has the store adds to the log: the opening, and the commands.
use Rattle.std.specs.Prelude.{◌≡◌, ◌⊎◌, ℕ, Bool, true, false, List, [], ◌∷◌, ◌++◌, Option, None, Result, Ok, Err, OnOk, IsTrue, IsFalse}
use Rattle.ap_host.specs.declared.host.Op.{Op}
use Rattle.ap_host.specs.declared.host.Op.TheVariants.{Remove, Barrier, Claim}
use Rattle.ap_host.specs.declared.host.HostErr.{HostErr}
use Rattle.ap_host.specs.Disk.{Path, Log, extended, live_of, Durable}
use Rattle.ap_host.specs.Changes.{EachOp}
use Rattle.command_words.specs.Plain.{PlainCommand}
use Rattle.run_model.specs.Run.{Keeps, Ready, ServesOn}
use Rattle.stage_file.specs.Stage.{is_staged}
use Rattle.machine_state.specs.declared.refusal.Refusal.{Refusal}
use Rattle.machine_step.specs.Step.{Given}
use Rattle.catalogue_root.specs.declared.damage.LoadFault.{LoadFault}
use Rattle.catalogue_root.specs.declared.damage.LoadFault.TheVariants.{Damaged, HostFault, OutOfMemory}
use Rattle.catalogue_root.specs.declared.damage.Damage.{Damage}
use Rattle.aptly_core.specs.declared.status.Status.{Status}
use Rattle.aptly_core.specs.declared.status.Status.TheVariants as statuses
use Rattle.aptly_core.specs.Machine.{Place, IsWork}
use Rattle.aptly_core.specs.Runs.{EndsWith, RanTo, SaysRefusal}
use Rattle.aptly_core.specs.Apart.{Apart}
use Rattle.catalogue_root.specs.Loads.{IsDamage, RootApart}
use Rattle.catalogue_root.specs.Opens.{IsSettling}
use Rattle.catalogue_root.specs.Store.{store, Open, Sound, SoundForNone}

-- how a call ends whose store gave no state
abbrev pub status_of_load : LoadFault → Status
status_of_load (Damaged damage) = statuses.Damaged damage
status_of_load HostFault = statuses.HostFault
status_of_load OutOfMemory = statuses.OutOfMemory

-- a fault of an opening
abbrev pub IsFault : Status → Type 0
IsFault statuses.HostFault = Unit {0}
IsFault statuses.OutOfMemory = Unit {0}
IsFault _ = ⊥

-- what a call that has the store may end with where it stands for no state
abbrev pub IsDamagedOrFault : Status → Type 0
IsDamagedOrFault (statuses.Damaged damage) = Unit {0}
IsDamagedOrFault status = IsFault status

-- what a call that has the store may end with
abbrev pub IsClaimedStatus : Status → Type 0
IsClaimedStatus (statuses.Usage place) = ⊥
IsClaimedStatus statuses.Busy = ⊥
IsClaimedStatus _ = Unit {0}

-- the call broke off within its opening
pub record Broke (s : Place) (status : Status) (l : Log) (ops : List Op) : Type 0 where
  pub fault : IsFault status
  pub only : EachOp IsSettling ops
  pub keeps : Keeps store s l ops
  pub serves : ServesOn store s l ops

-- or the store was opened, and then the commands ran
pub record Went (given : Given) (Told : Option (List ℕ) → Type 0) (s : Place) (commands : List PlainCommand) (status : Status) (l : Log) (ops : List Op) : Type 0 where
  pub opening : List Op
  pub rest : List Op
  pub cut : opening ++ rest ≡ ops
  pub only : EachOp IsSettling opening
  pub keeps : Keeps store s l opening
  pub serves : ServesOn store s l opening
  pub ready : Ready store s (extended opening l)
  pub ran : RanTo given Told (extended opening l) s commands status rest

-- what a call does behind its first barrier
pub record RunsClaimed (given : Given) (Told : Option (List ℕ) → Type 0) (commands : List PlainCommand) (status : Status) (l : Log) (ops : List Op) : Type 0 where
  pub work : EachOp IsWork ops
  pub damaged : (damage : Damage) → status ≡ statuses.Damaged damage → (ops ≡ []) × (RootApart (live_of l) → SoundForNone (live_of l) × IsDamage (live_of l) damage)
  pub none : SoundForNone (live_of l) → IsDamagedOrFault status
  pub refused : (refusal : Refusal) → status ≡ statuses.Refused refusal → SaysRefusal refusal ops × ((s : Place) → Sound (live_of l) s → RootApart (live_of l) → EndsWith given Told s commands status)
  pub went : (s : Place) → Durable l → Open (live_of l) s → Apart given (live_of l) s commands → Broke s status l ops ⊎ Went given Told s commands status l ops
