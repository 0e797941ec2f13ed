-- Valid states with a snapshot less, and with one of another name.
use Rattle.std.proofs.Common.{◌≡◌, ℕ, Bool, true, false, cond, List, None, IsTrue, refl, subst}
use Rattle.std.specs.Str.{bytes_eq}
use Rattle.std.proofs.lemmas.Slice.Eq.{bytes_eq-Decides}
use Rattle.ap_text.specs.Names.{is_name}
use Rattle.machine_state.specs.declared.limit.Kind.TheVariants as kinds
use Rattle.machine_state.specs.Mirrors.{IsSnapshot, SnapshotLists}
use Rattle.machine_state.specs.Sources.{in_use}
use Rattle.machine_state.specs.State.{Valid, has_source, snapshot_name}
use Rattle.machine_state.specs.Values.{StateView}
use Rattle.machine_state.proofs.KindLemmas.{kind_dropped, kind_renamed}
use Rattle.machine_state.proofs.NamedLemmas.{dropped_keeps, renamed_has, renamed_keeps}
use Rattle.machine_state.proofs.SourceLemmas.{Follows, Remains, publications_renamed, sources_follow, sources_remain}
use Rattle.snapshot_pull.proofs.StateLemmas.{valid_snapshots}
use Rattle.snapshot_ops.specs.Cases.{called, snapshot_renamed_in, without_snapshot}

module _ (state : StateView) (v : Valid state) where
  -- a snapshot that no publication uses is no more
  pub valid_dropped : (name : List ℕ) → in_use kinds.Snapshot name state.publications ≡ None → Valid (without_snapshot state name)
  valid_dropped name unused =
      valid_snapshots state _ state.publications v (kind_dropped snapshot_name IsSnapshot (SnapshotLists state.known) _ name state.snapshots v.snapshots) v.publications
      (sources_remain kinds.Snapshot name state (without_snapshot state name) remains state.publications unused v.sources)
    where
      remains : Remains kinds.Snapshot name state (without_snapshot state name)
      remains kinds.Snapshot n apart h = dropped_keeps snapshot_name name n state.snapshots apart h
      remains kinds.Repo n apart h = h
      remains kinds.Mirror n apart h = h
      remains kinds.Component n apart h = h

  -- a snapshot has another name, in the sources of publications too
  pub valid_renamed : (before after : List ℕ) → is_name after ≡ true → Valid (snapshot_renamed_in state before after)
  valid_renamed before after good =
      valid_snapshots state _ _ v
      (kind_renamed snapshot_name IsSnapshot (SnapshotLists state.known) _ called before after state.snapshots (λ snapshot is. good) (λ snapshot list. list) v.snapshots)
      (publications_renamed kinds.Snapshot before after state.known state.publications v.publications)
      (sources_follow kinds.Snapshot before after state new follows state.publications v.sources)
    where
      new : StateView
      new = snapshot_renamed_in state before after

      follows : Follows kinds.Snapshot before after state new
      follows kinds.Snapshot name h = by_name (bytes_eq name before) refl
        where
          by_name : (b : Bool) → bytes_eq name before ≡ b → IsTrue (has_source new kinds.Snapshot (cond b after name))
          by_name true e = renamed_has snapshot_name called (λ snapshot n. refl) before after state.snapshots (subst (λ (n : List ℕ). IsTrue (has_source state kinds.Snapshot n)) ((bytes_eq-Decides name before).0 e) h)
          by_name false e = renamed_keeps snapshot_name called (λ snapshot n. refl) before after state.snapshots name e h
      follows kinds.Repo name h = h
      follows kinds.Mirror name h = h
      follows kinds.Component name h = h
