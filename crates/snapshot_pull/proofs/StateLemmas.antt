-- Valid states with a snapshot more.
use Rattle.std.proofs.Common.{◌≡◌, ◌<◌, true, List, length, All}
use Rattle.ap_text.specs.Names.{is_name}
use Rattle.machine_state.specs.declared.limit.Kind.TheVariants as kinds
use Rattle.machine_state.specs.declared.snapshot.Snapshot.{Snapshot}
use Rattle.machine_state.specs.Lists.{IsNamedList}
use Rattle.machine_state.specs.Mirrors.{IsSnapshot, SnapshotLists}
use Rattle.machine_state.specs.State.{Valid, AreSnapshots, ArePublications, HasSources, snapshot_name}
use Rattle.machine_state.specs.Values.{PublicationView, StateView}
use Rattle.machine_state.proofs.KindLemmas.{kind_put}
use Rattle.machine_state.proofs.NamedLemmas.{put_keeps}
use Rattle.machine_state.proofs.SourceLemmas.{Stay, sources_kept}
use Rattle.snapshot_pull.specs.Snapshots.{with_snapshot}

-- the same state with other snapshots and publications
pub valid_snapshots : (state : StateView) (snapshots : List Snapshot) (publications : List PublicationView) → Valid state → AreSnapshots state.known snapshots → ArePublications state.known publications
    → All (HasSources (record state { snapshots = snapshots; publications = publications })) publications → Valid (record state { snapshots = snapshots; publications = publications })
valid_snapshots state snapshots publications v are published sources = record { known = v.known; mirrors = v.mirrors; repos = v.repos; snapshots = are; publications = published; sources = sources }

module _ (state : StateView) (v : Valid state) where
  -- there is a snapshot more
  pub valid_more : (snapshot : Snapshot) → is_name snapshot.name ≡ true → IsNamedList state.known snapshot.list → length state.snapshots < 10000 → Valid (with_snapshot state snapshot)
  valid_more snapshot is list few =
      valid_snapshots state _ state.publications v (kind_put snapshot_name IsSnapshot (SnapshotLists state.known) _ snapshot state.snapshots is list few v.snapshots) v.publications
      (sources_kept state (with_snapshot state snapshot) stay state.publications v.sources)
    where
      stay : Stay state (with_snapshot state snapshot)
      stay kinds.Snapshot n h = put_keeps snapshot_name snapshot state.snapshots n h
      stay kinds.Repo n h = h
      stay kinds.Mirror n h = h
      stay kinds.Component n h = h
