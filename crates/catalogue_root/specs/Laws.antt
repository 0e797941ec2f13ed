-- Laws of stores.
use Rattle.std.specs.Prelude.{◌≡◌, None}
use Rattle.ap_host.specs.Disk.{Files}
use Rattle.machine_state.specs.State.{empty}
use Rattle.machine_state.specs.Values.{StateView}
use Rattle.catalogue_root.specs.Loads.{RootApart}
use Rattle.catalogue_root.specs.Store.{Open, Stored, Sound}

-- what stands for a state holds it whole, and a load can see it
pub record LawOfOpenStores : Type 0 where
  pub stored : (files : Files) (state : StateView) → Open files state → Stored files state
  pub sound : (files : Files) (state : StateView) → Stored files state → Sound files state
  -- a store with no file stands for the empty state
  pub nothing : Open (λ path. None) empty

-- files hold one state at most
abbrev pub LawOfStoredStates : Type 0
LawOfStoredStates = (files : Files) (s t : StateView) → RootApart files → Stored files s → Stored files t → s ≡ t
