-- What new snapshots come to, by how it goes.
use Rattle.std.proofs.Common.{◌≡◌, ◌∙◌, ℕ, List, length, Bool, false, Option, Some, unwrap_or, sym, ap}
use Rattle.command_value.specs.Plain.{PlainFollow}
use Rattle.package_core.specs.Card.{Card}
use Rattle.machine_state.specs.declared.snapshot.Snapshot.{Snapshot}
use Rattle.machine_state.specs.State.{snapshot_of}
use Rattle.machine_state.specs.Values.{StateView}
use Rattle.package_choice.specs.Choice.{chosen_with}
pub use Rattle.snapshot_pull.proofs.NewLemmas.{free_as}
use Rattle.snapshot_ops.specs.Cases.{chosen_for, created, list_in, made}
use Rattle.snapshot_ops.specs.Replies as own

-- the same snapshot, of a name and a list that are seen otherwise
pub created_as : (state : StateView) (name text : List ℕ) (list wanted : List Card) → name ≡ text → list ≡ wanted → created state text wanted ≡ created state name list
created_as state name text list wanted n l = (λ i. created state (sym n i) (sym l i))

-- of a new one this is said
pub created_so : (state : StateView) (name : List ℕ) (list : List Card) (reply : List ℕ) → reply ≡ own.snapshot_created name (length list) → created state name list ≡ made state reply name list
created_so state name list reply e = ap (λ (r : List ℕ). made state r name list) (sym e)

-- what is chosen of a snapshot that is found
pub chosen_as : (state : StateView) (deps : Option Bool) (follow : PlainFollow) (name : List ℕ) (queries : List (List ℕ)) (snapshot : Snapshot) (list : List Card) → snapshot_of name state.snapshots ≡ Some snapshot → list ≡ chosen_with (unwrap_or deps false) follow snapshot.list queries
    → list ≡ chosen_for state deps follow name queries
chosen_as state deps follow name queries snapshot list found chose = chose ∙ ap (λ (o : Option Snapshot). chosen_with (unwrap_or deps false) follow (list_in o) queries) (sym found)
