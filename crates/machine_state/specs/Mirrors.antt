-- What mirrors, repositories and snapshots have to be by themselves.
use Rattle.std.specs.Prelude.{List, IsTrue, IfSome}
use Rattle.ap_text.specs.Names.{is_name, is_component}
use Rattle.package_core.specs.Card.{Card}
use Rattle.machine_state.specs.declared.fetched.Fetched.{Fetched}
use Rattle.machine_state.specs.declared.repo.Repo.{Repo}
use Rattle.machine_state.specs.declared.snapshot.Snapshot.{Snapshot}
use Rattle.machine_state.specs.Lists.{IsNamedList}
use Rattle.machine_state.specs.Texts.{IsLineText, IsDate, AreNames, IsFilter, is_listed, is_path}
use Rattle.machine_state.specs.Values.{MirrorView}

-- what was fetched of an archive, but for its list
abbrev pub IsFetched : Fetched → Type 0
IsFetched fetched = IsDate fetched.date

-- the settings of a mirror are as they have to be, and what it fetched
pub record IsMirror (mirror : MirrorView) : Type 0 where
  pub name : IsTrue (is_name mirror.name)
  pub archive : IsTrue (is_path 200 mirror.archive)
  pub distribution : IsTrue (is_path 100 mirror.distribution)
  pub components : AreNames is_component mirror.components
  pub architectures : AreNames is_listed mirror.architectures
  pub filter : IfSome mirror.filter IsFilter
  pub updated : IfSome mirror.updated IsFetched

abbrev pub MirrorLists : List Card → MirrorView → Type 0
MirrorLists known mirror = IfSome mirror.updated (λ fetched. IsNamedList known fetched.list)

-- the settings of a repository are as they have to be
pub record IsRepo (repo : Repo) : Type 0 where
  pub name : IsTrue (is_name repo.name)
  pub comment : IsLineText repo.comment
  pub distribution : IfSome repo.distribution (λ name. IsTrue (is_name name))
  pub component : IsTrue (is_component repo.component)

abbrev pub RepoLists : List Card → Repo → Type 0
RepoLists known repo = IsNamedList known repo.list

abbrev pub IsSnapshot : Snapshot → Type 0
IsSnapshot snapshot = IsTrue (is_name snapshot.name)

abbrev pub SnapshotLists : List Card → Snapshot → Type 0
SnapshotLists known snapshot = IsNamedList known snapshot.list
