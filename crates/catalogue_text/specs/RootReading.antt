-- The repositories and the snapshots of a root as they have to be, and where the reading of a whole root stops.
use Rattle.std.specs.Prelude.{◌≡◌, ◌≤◌, ◌+◌, ℕ, List, [], ◌∷◌, ◌++◌, length, IsTrue, IfSome}
use Rattle.ap_text.specs.Names.{is_component}
use Rattle.package_core.specs.Card.{Card}
use Rattle.machine_state.specs.declared.repo.Repo.{Repo}
use Rattle.machine_state.specs.declared.snapshot.Snapshot.{Snapshot}
use Rattle.machine_state.specs.declared.limit.Limit.TheVariants.{Repos, Snapshots}
use Rattle.machine_state.specs.Limits.{limit_number}
use Rattle.machine_state.specs.State.{IsLineText, repo_name, snapshot_name, Valid}
use Rattle.machine_state.specs.Values.{StateView}
use Rattle.catalogue_lines.specs.Pieces.{Piece, Takes}
use Rattle.catalogue_text.specs.Root.{root_text}
use Rattle.catalogue_lines.specs.PartForms.{IsName, IsNext}
use Rattle.catalogue_text.specs.Grammar.{CanStand}
use Rattle.catalogue_lines.specs.Reading.{Each, GoodSet}

-- a repository as it has to be behind those before it
pub record GoodRepo (known : List Card) (before : List Repo) (repo : Repo) : Type 0 where
  pub name : IsNext repo_name before repo.name
  pub comment : IsLineText repo.comment
  pub distribution : IfSome repo.distribution IsName
  pub component : IsTrue (is_component repo.component)
  pub list : GoodSet known repo.list

-- a snapshot as it has to be behind those before it
pub record GoodSnapshot (known : List Card) (before : List Snapshot) (snapshot : Snapshot) : Type 0 where
  pub name : IsNext snapshot_name before snapshot.name
  pub list : GoodSet known snapshot.list

-- the repositories of a root that knows these packages
abbrev pub GoodRepos : List Card → List Repo → Type 0
GoodRepos known repos = (length repos ≤ limit_number Repos) × Each (GoodRepo known) [] repos

-- the snapshots of a root that knows these packages
abbrev pub GoodSnapshots : List Card → List Snapshot → Type 0
GoodSnapshots known snapshots = (length snapshots ≤ limit_number Snapshots) × Each (GoodSnapshot known) [] snapshots

-- The text stops where so many bytes are left: the pieces before them can stand in a root, no piece that stands there can
-- stand behind them, and no valid state has this text as its root.
pub record StopsRoot (text : List ℕ) (left : ℕ) : Type 0 where
  pub good : List Piece
  pub rest : List ℕ
  pub takes : Takes text good rest
  pub left_is : left ≡ length rest
  pub can : CanStand good
  pub bad : (next : Piece) (behind : List ℕ) → Takes rest (next ∷ []) behind → CanStand (good ++ next ∷ []) → ⊥
  pub none : (state : StateView) → Valid state → text ≡ root_text state → ⊥
