-- What new snapshots come to, by how it goes.
use Rattle.std.proofs.Common.{◌≡◌, ℕ, ◌<◌, ◌≤◌, List, length, Some, None, true, false, true≢false, rules, sym, subst, refl, ap, ◌∙◌}
use Rattle.std.specs.Option.{is_some}
use Rattle.std.specs.Bool.{nat_le}
use Rattle.package_core.specs.Card.{Card}
use Rattle.machine_state.specs.declared.limit.Limit.TheVariants as limits
use Rattle.machine_state.specs.declared.change.Change.{Change}
use Rattle.machine_state.specs.declared.refusal.Refusal.TheVariants.{Limit}
use Rattle.machine_state.specs.declared.snapshot.Snapshot.{Snapshot}
use Rattle.machine_state.specs.Ascending.{IsAscending, put}
use Rattle.machine_state.specs.State.{Valid, snapshot_cmp, snapshot_name, snapshot_of}
use Rattle.machine_state.specs.Values.{StateView}
use Rattle.machine_state.proofs.NamedLemmas.{put_has}
use Rattle.step_model.specs.Answers.{IsNew}
use Rattle.step_model.specs.Case.{Came, refuses}
use Rattle.snapshot_pull.specs.Snapshots.{snapshot_from, taken, where_room, with_snapshot}
use Rattle.snapshot_pull.proofs.CaseLemmas.{is_free}

-- the change of a snapshot's making, of which this is said
abbrev pub MadeChange : StateView → Snapshot → List ℕ → Change
MadeChange state snapshot reply = record { state = Some (with_snapshot state snapshot); reply = reply }

-- a copy of the state with a snapshot more
pub put_change : (seen state : StateView) (snapshots : List Snapshot) (snapshot : Snapshot) (reply : List ℕ) → seen ≡ state → Valid state → (IsAscending snapshot_cmp seen.snapshots → snapshots ≡ put snapshot_cmp snapshot seen.snapshots)
    → (record { state = Some (record seen { snapshots = snapshots }); reply = reply }) ≡ MadeChange state snapshot reply
put_change seen state snapshots snapshot reply same v made =
    let p = made (subst (λ (s : StateView). IsAscending snapshot_cmp s.snapshots) (sym same) v.snapshots.sorted) in
    (λ i. record { state = Some (record seen { snapshots = p i }); reply = reply }) ∙ (λ i. record { state = Some (record (same i) { snapshots = put snapshot_cmp snapshot (same i).snapshots }); reply = reply })

module _ (state : StateView) (came : Came) where
  -- there is no room for one more
  pub room_full : 10000 ≤ length state.snapshots → where_room state came ≡ refuses (Limit limits.Snapshots)
  room_full many = rw (full many) refl
    where
      full : 10000 ≤ length state.snapshots → nat_le 10000 (length state.snapshots) ≡ true
      full h = search rules

  -- there is
  pub room_fits : length state.snapshots < 10000 → where_room state came ≡ came
  room_fits few = rw (fits few) refl
    where
      fits : length state.snapshots < 10000 → nat_le 10000 (length state.snapshots) ≡ false
      fits h = search rules

pub made_new : (state : StateView) (name : List ℕ) (list : List Card) (reply : List ℕ) (change : Change) → change ≡ MadeChange state (snapshot_from name list) reply → taken state.snapshots name ≡ None → IsNew state change.state
made_new state name list reply change e free =
    let none = is_free state.snapshots name free in
    let has = put_has snapshot_name (snapshot_from name list) state.snapshots in
    subst (λ (k : Change). IsNew state k.state) (sym e)
    (λ (all : with_snapshot state (snapshot_from name list) ≡ state). absurd (true≢false (sym has ∙ ap (λ (s : StateView). is_some (snapshot_of name s.snapshots)) all ∙ none)))

-- a name that is seen otherwise is free
pub free_as : (state : StateView) (name text : List ℕ) → name ≡ text → taken state.snapshots text ≡ None → taken state.snapshots name ≡ None
free_as state name text n e = ap (taken state.snapshots) n ∙ e
