-- Valid states with a mirror more, with one less, and with one of another name. No publication has a mirror among its sources.
use Rattle.std.proofs.Common.{◌≡◌, ℕ, ◌<◌, true, List, length}
use Rattle.ap_text.specs.Names.{is_name}
use Rattle.machine_state.specs.declared.limit.Kind.TheVariants as kinds
use Rattle.machine_state.specs.Mirrors.{IsMirror, MirrorLists}
use Rattle.machine_state.specs.State.{Valid, AreMirrors, mirror_name}
use Rattle.machine_state.specs.Values.{MirrorView, StateView}
use Rattle.machine_state.proofs.KindLemmas.{kind_dropped, kind_put, kind_renamed}
use Rattle.machine_state.proofs.SourceLemmas.{Stay, sources_kept}
use Rattle.mirror_ops.specs.Cases.{called, mirror_renamed_in, with_mirror, without_mirror}

-- the same state with other mirrors
valid_mirrors : (state : StateView) (mirrors : List MirrorView) → Valid state → AreMirrors state.known mirrors → Valid (record state { mirrors = mirrors })
valid_mirrors state mirrors v are = record {
  known = v.known;
  mirrors = are;
  repos = v.repos;
  snapshots = v.snapshots;
  publications = v.publications;
  sources = sources_kept state (record state { mirrors = mirrors }) stay state.publications v.sources;
}
  where
    stay : Stay state (record state { mirrors = mirrors })
    stay kinds.Snapshot n h = h
    stay kinds.Repo n h = h
    stay kinds.Mirror n h = h
    stay kinds.Component n h = h

module _ (state : StateView) (v : Valid state) where
  -- there is a mirror more
  pub valid_more : (mirror : MirrorView) → IsMirror mirror → MirrorLists state.known mirror → length state.mirrors < 10000 → Valid (with_mirror state mirror)
  valid_more mirror is lists few = valid_mirrors state _ v (kind_put mirror_name IsMirror (MirrorLists state.known) _ mirror state.mirrors is lists few v.mirrors)

  -- a mirror is no more
  pub valid_dropped : (name : List ℕ) → Valid (without_mirror state name)
  valid_dropped name = valid_mirrors state _ v (kind_dropped mirror_name IsMirror (MirrorLists state.known) _ name state.mirrors v.mirrors)

  -- a mirror has another name
  pub valid_renamed : (before after : List ℕ) → is_name after ≡ true → Valid (mirror_renamed_in state before after)
  valid_renamed before after good =
      valid_mirrors state _ v
      (kind_renamed mirror_name IsMirror (MirrorLists state.known) _ called before after state.mirrors
      (λ mirror is. record {
        name = good;
        archive = is.archive;
        distribution = is.distribution;
        components = is.components;
        architectures = is.architectures;
        filter = is.filter;
        updated = is.updated;
      }) (λ mirror lists. lists) v.mirrors)
