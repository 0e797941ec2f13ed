-- The premise on SHA-256: what is told apart by it.
use Rattle.std.specs.Prelude.{◌≡◌, List, Option, Some}
use Rattle.ap_host.specs.Disk.{Files}
use Rattle.hash_pool.specs.Bodies.{DigestsApart}
use Rattle.command_words.specs.Plain.{PlainCommand}
use Rattle.machine_state.specs.Values.{StateView}
use Rattle.machine_step.specs.Step.{Given}
use Rattle.catalogue_root.specs.Loads.{RootApart}

-- The inbox tells its files, and no two of them and of the pool's files share a SHA-256.
pub record BodiesApart (input : Option Files) (files : Files) : Type 0 where
  pub inbox : Files
  pub told : input ≡ Some inbox
  pub apart : DigestsApart files inbox

-- What is told apart where a call of these commands begins for this state: the package texts in the root, and the files of the pool
-- and of the inbox, which tells them. The states that the commands lead to have no file of their own that could be confused.
pub record Apart (given : Given) (files : Files) (state : StateView) (commands : List PlainCommand) : Type 0 where
  pub texts : RootApart files
  pub bodies : BodiesApart given.inbox files
