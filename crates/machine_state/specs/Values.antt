-- What contracts see of the values of this crate that hold lists.
use Rattle.std.specs.Prelude.{ℕ, ℤ, Bool, List, Option}
use Rattle.package_core.specs.Card.{Card}
use Rattle.query_tree.specs.Tree.{Tree}
use Rattle.machine_state.specs.declared.fetched.Fetched.{Fetched}
use Rattle.machine_state.specs.declared.limit.Kind.{Kind}
use Rattle.machine_state.specs.declared.repo.Repo.{Repo}
use Rattle.machine_state.specs.declared.snapshot.Snapshot.{Snapshot}

-- a mirror; its filter is a tree
pub record MirrorView : Type 0 where
  pub name : List ℕ
  pub archive : List ℕ
  pub distribution : List ℕ
  pub components : List (List ℕ)
  pub architectures : List (List ℕ)
  pub filter : Option Tree
  pub with_deps : Bool
  pub updated : Option Fetched

-- what is published at one moment: the packages of each component
pub record GenerationView : Type 0 where
  pub moment : ℤ
  pub parts : List (List ℕ × List Card)

-- a publication; each source is the component that it is published as, and its name
pub record PublicationView : Type 0 where
  pub prefix : Option (List ℕ)
  pub dist : List ℕ
  pub kind : Kind
  pub origin : List ℕ
  pub label : List ℕ
  pub suite : List ℕ
  pub codename : List ℕ
  pub architectures : List (List ℕ)
  pub sources : List (List ℕ × List ℕ)
  pub serial : ℕ
  pub current : GenerationView
  pub previous : Option GenerationView

-- a state of the machine
pub record StateView : Type 0 where
  pub known : List Card
  pub mirrors : List MirrorView
  pub repos : List Repo
  pub snapshots : List Snapshot
  pub publications : List PublicationView
