-- The publications that a repository or a snapshot is a source of.
use Rattle.std.specs.Prelude.{ℕ, Bool, true, false, ◌&&◌, List, map, Option, find, option_map, if◌then◌else◌}
use Rattle.std.specs.List.{list_any}
use Rattle.std.specs.Str.{bytes_eq}
use Rattle.machine_state.specs.declared.limit.Kind.{Kind}
use Rattle.machine_state.specs.declared.limit.Kind.TheVariants.{Mirror, Repo, Snapshot, Component}
use Rattle.machine_state.specs.declared.refusal.Refusal.{Refusal}
use Rattle.machine_state.specs.declared.refusal.Refusal.TheVariants.{InUse}
use Rattle.machine_state.specs.Values.{PublicationView}

abbrev pub same_kind : Kind → Kind → Bool
same_kind Mirror Mirror = true
same_kind Repo Repo = true
same_kind Snapshot Snapshot = true
same_kind Component Component = true
same_kind _ _ = false

-- one of the sources of the publication is that of this kind and name
abbrev pub uses : Kind → List ℕ → PublicationView → Bool
uses kind name publication = same_kind publication.kind kind && list_any (λ source. bytes_eq source.1 name) publication.sources

-- the first publication that uses it, as why it can't be dropped
abbrev pub in_use : Kind → List ℕ → List PublicationView → Option Refusal
in_use kind name publications = option_map (λ publication. InUse kind name publication.prefix publication.dist) (find (uses kind name) publications)

-- the name, or the new one where it is the old one
abbrev pub renamed_to : List ℕ → List ℕ → List ℕ → List ℕ
renamed_to before after name = if bytes_eq name before then after else name

-- the publication where that of this kind has a new name
abbrev pub source_renamed : Kind → List ℕ → List ℕ → PublicationView → PublicationView
source_renamed kind before after publication =
    if same_kind publication.kind kind then record publication { sources = map (λ source. (source.0, renamed_to before after source.1)) publication.sources }
    else publication
