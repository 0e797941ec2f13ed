-- A merge, source after source.
use Rattle.std.proofs.Common.{◌≡◌, ℕ, zero, suc, ◌+◌, ◌<◌, ◌≤◌, List, [], ◌∷◌, length, map, drop, get_or, Some, None, Result, Ok, Err, sym, ap, ◌∙◌, arith}
use Rattle.std.proofs.lemmas.List.{at_drop_all, at_drop_more}
use Rattle.package_core.specs.Card.{Card}
use Rattle.package_list.specs.declared.fault.ListFault.{ListFault}
use Rattle.machine_state.specs.declared.refusal.Refusal.{Refusal}
use Rattle.machine_state.specs.declared.change.ChangeFault.{ChangeFault}
use Rattle.machine_state.specs.declared.snapshot.Snapshot.{Snapshot}
use Rattle.machine_state.specs.State.{snapshot_of}
use Rattle.machine_state.specs.Values.{StateView}
use Rattle.step_model.specs.Answers.{FaultIs, IsFirst}
use Rattle.step_model.proofs.FaultLemmas.{fault_map}
use Rattle.snapshot_ops.specs.Cases.{list_in, list_of, unknown, unknown_among}
use Rattle.snapshot_ops.specs.Merges.{IsJoinRefusal, join_answer, joined_so, merge_behind, merge_of, or_refused, where_joined}
use Rattle.snapshot_ops.specs.declared.way.Way.{Way}
use Rattle.snapshot_ops.proofs.CaseLemmas.{first_none, second_none}

module _ (state : StateView) (way : Way) (names : List (List ℕ)) (i : ℕ) (own : List Card) where
  -- the merge of those before one has made this
  abbrev pub MergedBefore : Type 0
  MergedBefore = merge_of way (map (list_of state) names) ≡ merge_behind way own (map (list_of state) (drop i names))

  module _ (before : MergedBefore) where
    -- it is the merge where no source is left
    pub merge_ends : length names ≤ i → merge_of way (map (list_of state) names) ≡ Ok own
    merge_ends l = before ∙ at_drop_all (λ (l : List (List ℕ)). merge_behind way own (map (list_of state) l)) names i l

    module _ (name : List ℕ) (l : i < length names) (e : name ≡ get_or names i name) (source : Snapshot) (found : snapshot_of name state.snapshots ≡ Some source) where
      next : merge_of way (map (list_of state) names) ≡ where_joined (or_refused (join_answer way own source.list)) (merge_behind way (joined_so way own source.list) (map (list_of state) (drop (i + 1) names)))
      next =
          before ∙ at_drop_more (λ (l : List (List ℕ)). merge_behind way own (map (list_of state) l)) names i name l
          ∙ ap (λ (more : List Card). where_joined (or_refused (join_answer way own more)) (merge_behind way (joined_so way own more) (map (list_of state) (drop (i + 1) names)))) (ap (list_of state) (sym e) ∙ ap list_in found)

      -- one more source
      pub merge_more : (made : List Card) → join_answer way own source.list ≡ Ok tt → made ≡ joined_so way own source.list → merge_of way (map (list_of state) names) ≡ merge_behind way made (map (list_of state) (drop (i + 1) names))
      merge_more made good is =
          next ∙ ap (λ (r : Result (Unit {0}) ListFault). where_joined (or_refused r) (merge_behind way (joined_so way own source.list) (map (list_of state) (drop (i + 1) names)))) good
          ∙ ap (λ (l : List Card). merge_behind way l (map (list_of state) (drop (i + 1) names))) (sym is)

      -- one that can't join
      pub merge_refused : (fault : ChangeFault) → FaultIs (IsJoinRefusal way own source.list) fault → FaultIs (λ refusal. merge_of way (map (list_of state) names) ≡ Err refusal) fault
      merge_refused fault h =
          fault_map (IsJoinRefusal way own source.list) (λ refusal. merge_of way (map (list_of state) names) ≡ Err refusal) fault
          (λ refusal r. next ∙ ap (λ (a : Result (Unit {0}) Refusal). where_joined a (merge_behind way (joined_so way own source.list) (map (list_of state) (drop (i + 1) names)))) r) h

-- where each is there, none is unknown
none_unknown : (snapshots : List Snapshot) (names : List (List ℕ)) (i : ℕ) (d : List ℕ) → unknown_among snapshots names ≡ None → i < length names → unknown snapshots (get_or names i d) ≡ None
none_unknown snapshots [] i d h l = absurd (omega arith)
none_unknown snapshots (name ∷ names) zero d h l = first_none (unknown snapshots name) (unknown_among snapshots names) h
none_unknown snapshots (name ∷ names) (suc i) d h l = none_unknown snapshots names i d (second_none (unknown snapshots name) (unknown_among snapshots names) h) (omega arith)

pub never_unknown : (P : Refusal → Type 0) (snapshots : List Snapshot) (names : List (List ℕ)) (i : ℕ) (name : List ℕ) (fault : ChangeFault) → unknown_among snapshots names ≡ None → i < length names → name ≡ get_or names i name
    → IsFirst (unknown snapshots name) fault → FaultIs P fault
never_unknown P snapshots names i name fault h l e f = fault_map (λ refusal. unknown snapshots name ≡ Some refusal) P fault (λ refusal g. absurd (never refusal (sym (ap (unknown snapshots) e ∙ none_unknown snapshots names i name h l) ∙ g))) f
  where
    never : (refusal : Refusal) → None ≡ Some refusal → ⊥
    never refusal g = cc
