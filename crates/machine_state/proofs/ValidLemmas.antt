-- States that know more, and have other repositories.
use Rattle.std.proofs.Common.{◌≡◌, ℕ, ◌≤◌, List, [], map, length, get_or, Option, Some, None, is_some, IsTrue, IfSome, All, Bool, true, false, refl, arith}
use Rattle.std.specs.Bool.{if◌then◌else◌}
use Rattle.std.specs.Str.{bytes_eq}
use Rattle.std.proofs.lemmas.List.{length-map}
use Rattle.std.proofs.lemmas.List.Elements.{All-map}
use Rattle.package_core.specs.Card.{Card}
use Rattle.machine_state.specs.declared.fetched.Fetched.{Fetched}
use Rattle.machine_state.specs.declared.limit.Kind.{Kind}
use Rattle.machine_state.specs.declared.limit.Kind.TheVariants as kinds
use Rattle.machine_state.specs.declared.repo.Repo.{Repo}
use Rattle.machine_state.specs.declared.snapshot.Snapshot.{Snapshot}
use Rattle.machine_state.specs.Lists.{IsKnown, IsNamedList, IsCatalogue}
use Rattle.machine_state.specs.Mirrors.{IsRepo, MirrorLists, RepoLists, SnapshotLists}
use Rattle.machine_state.specs.Publications.{GenerationLists, PublicationLists, generations}
use Rattle.machine_state.specs.State.{Valid, AreRepos, AreSnapshots, HasSources, has_source, repo_of, snapshot_of, empty}
use Rattle.machine_state.specs.Values.{MirrorView, GenerationView, PublicationView, StateView}
use Rattle.machine_state.proofs.StayLemmas.{sorted_changed, stays_changed}

pub all_none : {X : Type 0} (P : X → Type 0) → All P []
all_none P k d l = absurd (omega (arith, l))

pub all_so : {X : Type 0} (P Q : X → Type 0) → ((x : X) → P x → Q x) → (xs : List X) → All P xs → All Q xs
all_so P Q f xs h k d l = f (get_or xs k d) (h k d l)

some_so : {X : Type 0} (P Q : X → Type 0) → ((x : X) → P x → Q x) → (o : Option X) → IfSome o P → IfSome o Q
some_so P Q f None h = tt
some_so P Q f (Some x) h = f x h

-- ---- what is listed stays known
module _ (known more : List Card) (grows : (p : Card) → IsKnown known p → IsKnown more p) where
  pub named_grows : (list : List Card) → IsNamedList known list → IsNamedList more list
  named_grows list n = record { sorted = n.sorted; apart = n.apart; listed = all_so (IsKnown known) (IsKnown more) grows list n.listed; few = n.few }

  mirror_grows : (mirror : MirrorView) → MirrorLists known mirror → MirrorLists more mirror
  mirror_grows mirror = some_so (λ (fetched : Fetched). IsNamedList known fetched.list) (λ (fetched : Fetched). IsNamedList more fetched.list) (λ fetched. named_grows fetched.list) mirror.updated

  snapshot_grows : (snapshot : Snapshot) → SnapshotLists known snapshot → SnapshotLists more snapshot
  snapshot_grows snapshot = named_grows snapshot.list

  generation_grows : (generation : GenerationView) → GenerationLists known generation → GenerationLists more generation
  generation_grows generation = all_so (λ (part : List ℕ × List Card). IsNamedList known part.1) (λ (part : List ℕ × List Card). IsNamedList more part.1) (λ part. named_grows part.1) generation.parts

  publication_grows : (publication : PublicationView) → PublicationLists known publication → PublicationLists more publication
  publication_grows publication = all_so (GenerationLists known) (GenerationLists more) generation_grows (generations publication)

-- what is there as a source stays there
source_stays : (old new : StateView)
    → ((name : List ℕ) → IsTrue (is_some (repo_of name old.repos)) → IsTrue (is_some (repo_of name new.repos)))
    → ((name : List ℕ) → IsTrue (is_some (snapshot_of name old.snapshots)) → IsTrue (is_some (snapshot_of name new.snapshots)))
    → (kind : Kind) (name : List ℕ) → IsTrue (has_source old kind name) → IsTrue (has_source new kind name)
source_stays old new repos snapshots kinds.Repo name h = repos name h
source_stays old new repos snapshots kinds.Snapshot name h = snapshots name h
source_stays old new repos snapshots kinds.Mirror name h = h
source_stays old new repos snapshots kinds.Component name h = h

pub sources_stay : (old new : StateView)
    → ((name : List ℕ) → IsTrue (is_some (repo_of name old.repos)) → IsTrue (is_some (repo_of name new.repos)))
    → ((name : List ℕ) → IsTrue (is_some (snapshot_of name old.snapshots)) → IsTrue (is_some (snapshot_of name new.snapshots)))
    → (publications : List PublicationView) → All (HasSources old) publications → All (HasSources new) publications
sources_stay old new repos snapshots publications =
    all_so (HasSources old) (HasSources new)
    (λ publication. all_so (λ (source : List ℕ × List ℕ). IsTrue (has_source old publication.kind source.1)) (λ (source : List ℕ × List ℕ). IsTrue (has_source new publication.kind source.1)) (λ source. source_stays old new repos snapshots publication.kind source.1) publication.sources)
    publications

-- The state with these packages known and these repositories is valid, where it goes on knowing what it knew and each
-- repository of it is there still, by its name.
pub valid_with : (state : StateView) (known : List Card) (repos : List Repo) → Valid state → IsCatalogue known → AreRepos known repos → ((p : Card) → IsKnown state.known p → IsKnown known p)
    → ((name : List ℕ) → IsTrue (is_some (repo_of name state.repos)) → IsTrue (is_some (repo_of name repos))) → Valid (record state { known = known; repos = repos })
valid_with state known repos v catalogue are grows stays = record {
  known = catalogue;
  mirrors = record { each = v.mirrors.each; lists = all_so (MirrorLists state.known) (MirrorLists known) (mirror_grows state.known known grows) state.mirrors v.mirrors.lists; sorted = v.mirrors.sorted; few = v.mirrors.few };
  repos = are;
  snapshots = record { each = v.snapshots.each; lists = all_so (SnapshotLists state.known) (SnapshotLists known) (snapshot_grows state.known known grows) state.snapshots v.snapshots.lists; sorted = v.snapshots.sorted; few = v.snapshots.few };
  publications = record { each = v.publications.each; lists = all_so (PublicationLists state.known) (PublicationLists known) (publication_grows state.known known grows) state.publications v.publications.lists; sorted = v.publications.sorted; few = v.publications.few };
  sources = sources_stay state (record state { known = known; repos = repos }) stays (λ name h. h) state.publications v.sources;
}

-- a valid state whose repositories change, so that each goes on being one by its name and having a list by name, is valid
pub valid_changed : (state : StateView) (change : Repo → Repo) → ((repo : Repo) → (change repo).name ≡ repo.name) → ((repo : Repo) → IsRepo repo → IsRepo (change repo)) → ((repo : Repo) → RepoLists state.known repo → RepoLists state.known (change repo))
    → Valid state → Valid (record state { repos = map change state.repos })
valid_changed state change named good lists v = valid_with state state.known (map change state.repos) v v.known (record {
  each = All-map IsRepo change state.repos (all_so IsRepo (λ repo. IsRepo (change repo)) good state.repos v.repos.each);
  lists = All-map (RepoLists state.known) change state.repos (all_so (RepoLists state.known) (λ repo. RepoLists state.known (change repo)) lists state.repos v.repos.lists);
  sorted = sorted_changed change named state.repos v.repos.sorted;
  few = omega (arith, length-map state.repos change, v.repos.few);
}) (λ p k. k) (stays_changed change named state.repos)

-- the repository with this list, if it has that name
abbrev listed : List ℕ → List Card → Repo → Repo
listed name list repo = if bytes_eq repo.name name then record repo { list = list } else repo

-- and so is one where the repository of that name has another list by name
pub valid_listed : (state : StateView) (name : List ℕ) (list : List Card) → IsNamedList state.known list → Valid state
    → Valid (record state { repos = map (listed name list) state.repos })
valid_listed state name list n = valid_changed state (listed name list) (λ repo. named repo (bytes_eq repo.name name)) (λ repo. good repo (bytes_eq repo.name name)) (λ repo. lists repo (bytes_eq repo.name name))
  where
    named : (repo : Repo) (b : Bool) → (if b then record repo { list = list } else repo).name ≡ repo.name
    named repo true = refl
    named repo false = refl

    good : (repo : Repo) (b : Bool) → IsRepo repo → IsRepo (if b then record repo { list = list } else repo)
    good repo true h = record { name = h.name; comment = h.comment; distribution = h.distribution; component = h.component }
    good repo false h = h

    lists : (repo : Repo) (b : Bool) → RepoLists state.known repo → RepoLists state.known (if b then record repo { list = list } else repo)
    lists repo true h = n
    lists repo false h = h

-- a state of nothing but known packages, repositories and snapshots
pub valid_plain : (known : List Card) (repos : List Repo) (snapshots : List Snapshot) → IsCatalogue known → AreRepos known repos → AreSnapshots known snapshots → Valid (record empty { known = known; repos = repos; snapshots = snapshots })
valid_plain known repos snapshots catalogue are frozen = record {
  known = catalogue;
  mirrors = record { each = all_none _; lists = all_none _; sorted = tt; few = omega arith };
  repos = are;
  snapshots = frozen;
  publications = record { each = all_none _; lists = all_none _; sorted = tt; few = omega arith };
  sources = all_none _;
}
