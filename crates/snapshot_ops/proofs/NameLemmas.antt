-- What other names of snapshots come to, and what a drop, by how it goes.
use Rattle.std.proofs.Common.{◌≡◌, ℕ, List, Some, None, Result, Ok, Err, true≢false, sym, subst, refl, ap, ◌∙◌}
use Rattle.std.specs.Option.{is_some, option_map}
use Rattle.std.specs.Result.{OnOk}
use Rattle.machine_state.specs.declared.limit.Kind.TheVariants as kinds
use Rattle.machine_state.specs.declared.snapshot.Snapshot.{Snapshot}
use Rattle.machine_state.specs.declared.arrived.Arrived.{Arrived}
use Rattle.machine_state.specs.Ascending.{IsAscending, put}
use Rattle.machine_state.specs.Named.{dropped, put_some, renamed}
use Rattle.machine_state.specs.Sources.{in_use}
use Rattle.machine_state.specs.State.{snapshot_cmp, snapshot_name, snapshot_of}
use Rattle.machine_state.specs.Values.{StateView}
use Rattle.machine_state.proofs.AscendingLemmas.{filter_ascending}
use Rattle.machine_state.proofs.NamedLemmas.{dropped_gone, renamed_has}
use Rattle.step_model.specs.Case.{changes, or_else}
use Rattle.step_model.specs.Names.{bad_name}
use Rattle.step_model.specs.Answers.{ComesTo, IsNew}
use Rattle.snapshot_ops.specs.Replies as own
use Rattle.snapshot_ops.specs.Cases.{bad_drop, bad_rename, called, drop_case, rename_case, snapshot_renamed_in, taken, unknown, without_snapshot}
use Rattle.snapshot_ops.proofs.CaseLemmas.{first_none, is_free, is_there, plain_comes, second_none}

-- one that is taken out, and put back with the other name
pub renamed_as : {X E : Type 0} (before after : List ℕ) (items rest new : List Snapshot) (snapshot : Snapshot) (r : Result X E) → IsAscending snapshot_cmp items → Some snapshot ≡ snapshot_of before items → rest ≡ dropped snapshot_name before items
    → (IsAscending snapshot_cmp rest → OnOk r (new ≡ put snapshot_cmp (called snapshot after) rest)) → OnOk r (new ≡ renamed snapshot_name called before after items)
renamed_as before after items rest new snapshot r a found others made = by_result r (made (subst (IsAscending snapshot_cmp) (sym others) (filter_ascending snapshot_cmp _ items a)))
  where
    by_result : {X E : Type 0} (r : Result X E) → OnOk r (new ≡ put snapshot_cmp (called snapshot after) rest) → OnOk r (new ≡ renamed snapshot_name called before after items)
    by_result (Ok x) e = e ∙ (λ i. put_some snapshot_name (option_map (λ (x : Snapshot). called x after) (found i)) (others i))
    by_result (Err x) e = tt

module _ (state : StateView) (from to before after : List ℕ) (first : before ≡ from) (second : after ≡ to) (new : StateView) (is : new ≡ snapshot_renamed_in state before after) (good : bad_rename state from to ≡ None) where
  pub renamed_comes : (reply : List ℕ) (arrived : Arrived) → reply ≡ own.snapshot_renamed before after → ComesTo None (rename_case state from to) arrived (changes reply new)
  renamed_comes reply arrived e =
      plain_comes (bad_rename state from to) _ good arrived (changes reply new)
      ((λ i. changes (own.snapshot_renamed (sym first i) (sym second i)) (snapshot_renamed_in state (sym first i) (sym second i))) ∙ (λ i. changes (sym e i) (sym is i)))

  pub renamed_new : IsNew state (Some new)
  renamed_new =
      let names = second_none (bad_name to) (or_else (taken state.snapshots to) (unknown state.snapshots from)) (second_none (bad_name from) _ good) in
      let none = is_free state.snapshots to (first_none (taken state.snapshots to) (unknown state.snapshots from) names) in
      let was = is_there state.snapshots from (second_none (taken state.snapshots to) (unknown state.snapshots from) names) in
      let has = renamed_has snapshot_name called (λ r n. refl) before after state.snapshots (ap (λ (n : List ℕ). is_some (snapshot_of n state.snapshots)) first ∙ was) in
      λ same. absurd (true≢false (sym has ∙ ap (λ (s : StateView). is_some (snapshot_of after s.snapshots)) (sym is ∙ same) ∙ ap (λ (n : List ℕ). is_some (snapshot_of n state.snapshots)) second ∙ none))

-- ---- no more
module _ (state : StateView) (text name : List ℕ) (called_so : name ≡ text) (new : StateView) (is : new ≡ without_snapshot state name) (good : bad_drop state text ≡ None) where
  pub dropped_comes : (reply : List ℕ) (arrived : Arrived) → reply ≡ own.snapshot_dropped name → ComesTo None (drop_case state text) arrived (changes reply new)
  dropped_comes reply arrived e =
      plain_comes (bad_drop state text) _ good arrived (changes reply new)
      ((λ i. changes (own.snapshot_dropped (sym called_so i)) (without_snapshot state (sym called_so i))) ∙ (λ i. changes (sym e i) (sym is i)))

  pub dropped_new : IsNew state (Some new)
  dropped_new =
      let was = is_there state.snapshots text (first_none (unknown state.snapshots text) (in_use kinds.Snapshot text state.publications) (second_none (bad_name text) _ good)) in
      let gone = ap is_some (dropped_gone snapshot_name name state.snapshots) in
      λ same. absurd (true≢false (sym was ∙ ap (λ (n : List ℕ). is_some (snapshot_of n state.snapshots)) (sym called_so) ∙ ap (λ (s : StateView). is_some (snapshot_of name s.snapshots)) (sym same ∙ is) ∙ gone))
