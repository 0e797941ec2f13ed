-- What publications have to be by themselves.
use Rattle.std.specs.Prelude.{◌≡◌, ◌≢◌, ◌≤◌, ◌<◌, ◌↔◌, ◌≤ℤ◌, ℕ, pos, Bool, true, false, ◌||◌, List, [], ◌∷◌, ◌++◌, map, codes, Option, Some, None, is_some, IsTrue, IfSome, All}
use Rattle.std.specs.List.{list_any}
use Rattle.std.specs.Option.{option_to_list}
use Rattle.std.specs.Str.{bytes_eq}
use Rattle.ap_text.specs.Names.{is_name, is_component}
use Rattle.package_core.specs.Card.{Card}
use Rattle.machine_state.specs.declared.limit.Kind.{Kind}
use Rattle.machine_state.specs.declared.limit.Kind.TheVariants.{Mirror, Repo, Snapshot, Component}
use Rattle.machine_state.specs.declared.limit.Limit.TheVariants.{Serial, Date}
use Rattle.machine_state.specs.Limits.{limit_number}
use Rattle.machine_state.specs.Lists.{IsNamedList}
use Rattle.machine_state.specs.Texts.{IsTitle, AreNames, is_listed, is_prefix}
use Rattle.machine_state.specs.Values.{GenerationView, PublicationView}
use Rattle.machine_state.specs.Words.{place_text}

-- repositories and snapshots are published, nothing else
abbrev pub is_published : Kind → Bool
is_published Repo = true
is_published Snapshot = true
is_published Mirror = false
is_published Component = false

-- the origin and the label, where nothing else is said: the place
abbrev pub title : PublicationView → List ℕ
title publication = place_text (publication.prefix, publication.dist)

-- what a generation or the sources of a publication have beside each component
abbrev pub components_of : {X : Type 0} → List (List ℕ × X) → List (List ℕ)
components_of parts = map (λ part. part.0) parts

-- the package is for all architectures, or for one of these
abbrev pub is_for : List (List ℕ) → Card → Bool
is_for architectures p = bytes_eq p.arch (codes "all") || list_any (bytes_eq p.arch) architectures

-- a generation of these architectures and components
pub record IsGeneration (architectures components : List (List ℕ)) (generation : GenerationView) : Type 0 where
  pub after : pos 0 ≤ℤ generation.moment
  pub before : generation.moment ≤ℤ pos (limit_number Date)
  pub named : components_of generation.parts ≡ components
  pub members : All (λ part. All (λ p. IsTrue (is_for architectures p)) part.1) generation.parts

-- the current generation, and the one before it
abbrev pub generations : PublicationView → List GenerationView
generations publication = publication.current ∷ option_to_list publication.previous

-- a publication is as it has to be, but for what stands in the state beside it
pub record IsPublication (publication : PublicationView) : Type 0 where
  pub prefix : IfSome publication.prefix (λ path. IsTrue (is_prefix path))
  pub dist : IsTrue (is_name publication.dist)
  pub kind : IsTrue (is_published publication.kind)
  pub origin : IsTitle (title publication) publication.origin
  pub label : IsTitle (title publication) publication.label
  pub suite : IsTitle publication.dist publication.suite
  pub codename : IsTitle publication.dist publication.codename
  pub architectures : AreNames is_listed publication.architectures
  pub some : publication.architectures ≢ []
  pub components : AreNames is_component (components_of publication.sources)
  pub first : 1 ≤ publication.serial
  pub last : publication.serial ≤ limit_number Serial
  pub previous : IsTrue (is_some publication.previous) ↔ (1 < publication.serial)
  pub generations : All (IsGeneration publication.architectures (components_of publication.sources)) (generations publication)

abbrev pub GenerationLists : List Card → GenerationView → Type 0
GenerationLists known generation = All (λ part. IsNamedList known part.1) generation.parts

abbrev pub PublicationLists : List Card → PublicationView → Type 0
PublicationLists known publication = All (GenerationLists known) (generations publication)
