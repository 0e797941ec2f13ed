-- The parts of a root, one behind another.
use Rattle.std.proofs.Common.{◌≡◌, ℕ, ◌≤◌, List, [], ◌++◌, length, codes, Option, Some, None, IsTrue, IfSome, refl, sym, ap, arith}
use Rattle.std.specs.List.{flat_map}
use Rattle.std.specs.Option.{unwrap_or}
use Rattle.std.proofs.lemmas.List.{append_cancel_left}
use Rattle.ap_text.specs.Names.{is_name, is_component}
use Rattle.package_core.specs.Card.{Card}
use Rattle.machine_state.specs.declared.limit.Limit.TheVariants.{Repos, Snapshots}
use Rattle.machine_state.specs.declared.repo.Repo.{Repo}
use Rattle.machine_state.specs.declared.snapshot.Snapshot.{Snapshot}
use Rattle.machine_state.specs.Limits.{limit_number}
use Rattle.machine_state.specs.State.{IsLineText, repo_name, snapshot_name}
use Rattle.catalogue_lines.specs.Pieces.{Piece}
use Rattle.catalogue_lines.specs.SetLines.{set_pieces}
use Rattle.machine_state.specs.Words.{blank_and}
use Rattle.catalogue_lines.specs.KnownForms.{IsWithinLimits}
use Rattle.catalogue_text.specs.Root.{repos_line, name_line, comment_line, distribution_line, component_line, snapshots_line, snapshot_line, repo_pieces, repos_pieces, snapshot_pieces, snapshots_pieces, last_pieces}
use Rattle.catalogue_lines.specs.PartForms.{Line, Series, Count, SetPart, IsName, IsNext}
use Rattle.catalogue_text.specs.Grammar.{NextRepo, NextSnapshot, LastPart, ReposPart, SnapshotsPart}
use Rattle.catalogue_lines.specs.Reading.{GoodSet, IdsApart}
use Rattle.catalogue_text.specs.RootReading.{GoodRepo, GoodSnapshot, GoodRepos, GoodSnapshots}
use Rattle.catalogue_lines.proofs.Parts.{IsPart, IsTold, line_of, line_part, line_told, both_part, both_told, as_part, as_told, series_part, series_told, part_when}
use Rattle.catalogue_lines.proofs.ValueLemmas.{settings_apart}
use Rattle.catalogue_text.proofs.RootLines.{repos_other, snapshots_other, snapshot_other, name_other, comment_other, distribution_other, component_other}
use Rattle.catalogue_lines.proofs.KnownParts.{count_part, count_told, GoodOf, set_part, set_told}

-- ---- the settings are told by their lines
names_apart : (key a b : List ℕ) → key ++ a ≡ key ++ b → b ≡ a
names_apart key a b e = sym (append_cancel_left key a b e)

optional_apart : (a b : Option (List ℕ)) → IfSome a IsName → IfSome b IsName → unwrap_or a [] ≡ unwrap_or b [] → a ≡ b
optional_apart None None g h e = refl
optional_apart None (Some y) g h e = absurd (empty_name y h (sym e))
  where
    empty_name : (n : List ℕ) → IsName n → n ≡ [] → ⊥
    empty_name n g e = let t : is_name [] ≡ is_name n = ap is_name (sym e) in cc
optional_apart (Some x) None g h e = absurd (empty_name x g e)
  where
    empty_name : (n : List ℕ) → IsName n → n ≡ [] → ⊥
    empty_name n g e = let t : is_name [] ≡ is_name n = ap is_name (sym e) in cc
optional_apart (Some x) (Some y) g h e = ap Some e

-- ---- a repository, line by line
abbrev pub made : List ℕ → List ℕ → Option (List ℕ) → List ℕ → List Card → Repo
made name comment distribution component list = record { name = name; comment = comment; distribution = distribution; component = component; list = list }

abbrev pub IsDistribution : Option (List ℕ) → Type 0
IsDistribution name = IfSome name IsName

abbrev pub IsComponent : List ℕ → Type 0
IsComponent name = IsTrue (is_component name)

module _ (known : List Card) (before : List Repo) where
  abbrev pub FromSet : List ℕ → List ℕ → Option (List ℕ) → List ℕ → (Repo → List Piece → Type 0) → List Piece → Type 0
  FromSet n c d k K = SetPart known (λ list. K (made n c d k list))

  abbrev pub FromComponent : List ℕ → List ℕ → Option (List ℕ) → (Repo → List Piece → Type 0) → List Piece → Type 0
  FromComponent n c d K = Line component_line IsComponent (λ k. FromSet n c d k K)

  abbrev pub FromDistribution : List ℕ → List ℕ → (Repo → List Piece → Type 0) → List Piece → Type 0
  FromDistribution n c K = Line distribution_line IsDistribution (λ d. FromComponent n c d K)

  abbrev pub FromComment : List ℕ → (Repo → List Piece → Type 0) → List Piece → Type 0
  FromComment n K = Line comment_line IsLineText (λ c. FromDistribution n c K)

  abbrev pub set_of : Repo → List Piece
  set_of repo = set_pieces repo.list

  abbrev pub component_of : Repo → List Piece
  component_of repo = line_of component_line repo.component ++ set_of repo

  abbrev pub distribution_of : Repo → List Piece
  distribution_of repo = line_of distribution_line repo.distribution ++ component_of repo

  abbrev pub comment_of : Repo → List Piece
  comment_of repo = line_of comment_line repo.comment ++ distribution_of repo

  abbrev pub name_of : Repo → List Piece
  name_of repo = line_of name_line repo.name ++ comment_of repo

  abbrev pub GoodFromSet : List ℕ → List ℕ → Option (List ℕ) → List ℕ → Repo → Type 0
  GoodFromSet n c d k repo = GoodSet known repo.list × (made n c d k repo.list ≡ repo)

  abbrev pub GoodFromComponent : List ℕ → List ℕ → Option (List ℕ) → Repo → Type 0
  GoodFromComponent n c d repo = IsComponent repo.component × GoodFromSet n c d repo.component repo

  abbrev pub GoodFromDistribution : List ℕ → List ℕ → Repo → Type 0
  GoodFromDistribution n c repo = IsDistribution repo.distribution × GoodFromComponent n c repo.distribution repo

  abbrev pub GoodFromComment : List ℕ → Repo → Type 0
  GoodFromComment n repo = IsLineText repo.comment × GoodFromDistribution n repo.comment repo

  abbrev pub GoodFromName : Repo → Type 0
  GoodFromName repo = IsNext repo_name before repo.name × GoodFromComment repo.name repo

  good_repo : (repo : Repo) → GoodRepo known before repo → GoodFromName repo
  good_repo repo g = (g.name, (g.comment, (g.distribution, (g.component, (g.list, refl)))))

  -- the lines as parts
  pub name_part : IsPart (Line name_line (IsNext repo_name before)) (line_of name_line) (IsNext repo_name before)
  name_part = line_part name_line (IsNext repo_name before) (λ a g. name_other a)

  pub name_told : IsTold (Line name_line (IsNext repo_name before)) (line_of name_line) (IsNext repo_name before)
  name_told = line_told name_line (IsNext repo_name before) (λ a b g h e. names_apart (codes "repo ") a b e)

  pub comment_part : IsPart (Line comment_line IsLineText) (line_of comment_line) IsLineText
  comment_part = line_part comment_line IsLineText (λ a g. comment_other a)

  pub comment_told : IsTold (Line comment_line IsLineText) (line_of comment_line) IsLineText
  comment_told = line_told comment_line IsLineText (λ a b g h e. sym (settings_apart a b (append_cancel_left (codes "comment") (blank_and a) (blank_and b) e)))

  pub distribution_part : IsPart (Line distribution_line IsDistribution) (line_of distribution_line) IsDistribution
  distribution_part = line_part distribution_line IsDistribution (λ a g. distribution_other a)

  pub distribution_told : IsTold (Line distribution_line IsDistribution) (line_of distribution_line) IsDistribution
  distribution_told = line_told distribution_line IsDistribution (λ a b g h e. optional_apart b a h g (sym (settings_apart (unwrap_or a []) (unwrap_or b []) (append_cancel_left (codes "distribution") (blank_and (unwrap_or a [])) (blank_and (unwrap_or b [])) e))))

  pub component_part : IsPart (Line component_line IsComponent) (line_of component_line) IsComponent
  component_part = line_part component_line IsComponent (λ a g. component_other a)

  pub component_told : IsTold (Line component_line IsComponent) (line_of component_line) IsComponent
  component_told = line_told component_line IsComponent (λ a b g h e. names_apart (codes "component ") a b e)

  pub from_set : (n c : List ℕ) (d : Option (List ℕ)) (k : List ℕ) → IsPart (FromSet n c d k) set_of (GoodFromSet n c d k)
  from_set n c d k = as_part (SetPart known) set_pieces (GoodSet known) (made n c d k) (λ repo. repo.list) (set_part known)

  pub from_component : (n c : List ℕ) (d : Option (List ℕ)) → IsPart (FromComponent n c d) component_of (GoodFromComponent n c d)
  from_component n c d = both_part (Line component_line IsComponent) (FromSet n c d) (line_of component_line) set_of IsComponent (GoodFromSet n c d) (λ repo. repo.component) component_part (from_set n c d)

  pub from_distribution : (n c : List ℕ) → IsPart (FromDistribution n c) distribution_of (GoodFromDistribution n c)
  from_distribution n c = both_part (Line distribution_line IsDistribution) (FromComponent n c) (line_of distribution_line) component_of IsDistribution (GoodFromComponent n c) (λ repo. repo.distribution) distribution_part (from_component n c)

  pub from_comment : (n : List ℕ) → IsPart (FromComment n) comment_of (GoodFromComment n)
  from_comment n = both_part (Line comment_line IsLineText) (FromDistribution n) (line_of comment_line) distribution_of IsLineText (GoodFromDistribution n) (λ repo. repo.comment) comment_part (from_distribution n)

  pub repo_part : IsPart (NextRepo known before) repo_pieces (GoodRepo known before)
  unfolding NextRepo repo_pieces
  repo_part = part_when (NextRepo known before) repo_pieces GoodFromName (GoodRepo known before) good_repo
      (both_part (Line name_line (IsNext repo_name before)) FromComment (line_of name_line) comment_of (IsNext repo_name before) GoodFromComment (λ repo. repo.name) name_part from_comment)

  module _ (apart : IdsApart known) where
    told_set : (n c : List ℕ) (d : Option (List ℕ)) (k : List ℕ) → IsTold (FromSet n c d k) set_of (GoodFromSet n c d k)
    told_set n c d k = as_told (SetPart known) set_pieces (GoodSet known) (made n c d k) (λ repo. repo.list) (set_part known) (set_told known apart)

    told_component : (n c : List ℕ) (d : Option (List ℕ)) → IsTold (FromComponent n c d) component_of (GoodFromComponent n c d)
    told_component n c d = both_told (Line component_line IsComponent) (FromSet n c d) (line_of component_line) set_of IsComponent (GoodFromSet n c d) (λ repo. repo.component) component_part (from_set n c d) component_told (told_set n c d)

    told_distribution : (n c : List ℕ) → IsTold (FromDistribution n c) distribution_of (GoodFromDistribution n c)
    told_distribution n c = both_told (Line distribution_line IsDistribution) (FromComponent n c) (line_of distribution_line) component_of IsDistribution (GoodFromComponent n c) (λ repo. repo.distribution) distribution_part (from_component n c) distribution_told (told_component n c)

    told_comment : (n : List ℕ) → IsTold (FromComment n) comment_of (GoodFromComment n)
    told_comment n = both_told (Line comment_line IsLineText) (FromDistribution n) (line_of comment_line) distribution_of IsLineText (GoodFromDistribution n) (λ repo. repo.comment) comment_part (from_distribution n) comment_told (told_distribution n)

    pub repo_told : IsTold (NextRepo known before) repo_pieces (GoodRepo known before)
    unfolding NextRepo repo_pieces
    repo_told K repo more g p = both_told (Line name_line (IsNext repo_name before)) FromComment (line_of name_line) comment_of (IsNext repo_name before) GoodFromComment (λ repo. repo.name) name_part from_comment name_told told_comment K repo more (good_repo repo g) p

-- ---- all repositories
module _ (known : List Card) where
  abbrev pub ReposSeries : (List Repo → List Piece → Type 0) → List Piece → Type 0
  ReposSeries K = Count repos_line (limit_number Repos) (λ n. Series n (NextRepo known) [] K)

  abbrev pub repos_of : List Repo → List Piece
  repos_of xs = line_of repos_line (length xs) ++ flat_map repo_pieces xs

  abbrev pub GoodCounted : List Repo → Type 0
  GoodCounted xs = (length xs ≤ limit_number Repos) × GoodOf (GoodRepo known) (length xs) xs

  pub counted_repos : IsPart ReposSeries repos_of GoodCounted
  counted_repos = both_part (Count repos_line (limit_number Repos)) (λ n. Series n (NextRepo known) []) (line_of repos_line) (flat_map repo_pieces) (λ n. n ≤ limit_number Repos) (GoodOf (GoodRepo known)) length
      (count_part repos_line (limit_number Repos) repos_other) (series_part (NextRepo known) repo_pieces (GoodRepo known) (repo_part known))

  good_repos : (repos : List Repo) → GoodRepos known repos → GoodCounted repos
  good_repos repos g = (g.0, (refl, g.1))

  pub repos_part : IsPart (ReposPart known) repos_pieces (GoodRepos known)
  unfolding ReposPart repos_pieces
  repos_part = part_when (ReposPart known) repos_pieces _ (GoodRepos known) good_repos counted_repos

  counted_repos_told : IdsApart known → IsTold ReposSeries repos_of GoodCounted
  counted_repos_told apart = both_told (Count repos_line (limit_number Repos)) (λ n. Series n (NextRepo known) []) (line_of repos_line) (flat_map repo_pieces) (λ n. n ≤ limit_number Repos) (GoodOf (GoodRepo known)) length
      (count_part repos_line (limit_number Repos) repos_other) (series_part (NextRepo known) repo_pieces (GoodRepo known) (repo_part known))
      (count_told (codes "repos ") (limit_number Repos) (omega arith)) (series_told (NextRepo known) repo_pieces (GoodRepo known) (repo_part known) (λ before. repo_told known before apart))

  pub repos_told : IdsApart known → IsTold (ReposPart known) repos_pieces (GoodRepos known)
  unfolding ReposPart repos_pieces
  repos_told apart K repos more g p = counted_repos_told apart K repos more (good_repos repos g) p

  -- ---- the end
  pub last_part : IsPart (LastPart known) (λ u. last_pieces) (λ u. IsWithinLimits known)
  unfolding LastPart last_pieces
  last_part = line_part (λ u. codes "end") (λ u. IsWithinLimits known) (λ u g. refl)

  pub last_told : IsTold (LastPart known) (λ u. last_pieces) (λ u. IsWithinLimits known)
  unfolding LastPart last_pieces
  last_told = line_told (λ u. codes "end") (λ u. IsWithinLimits known) (λ a b g h e. refl)

-- ---- a snapshot, line by line
abbrev pub frozen : List ℕ → List Card → Snapshot
frozen name list = record { name = name; list = list }

module _ (known : List Card) (before : List Snapshot) where
  abbrev pub FromList : List ℕ → (Snapshot → List Piece → Type 0) → List Piece → Type 0
  FromList n K = SetPart known (λ list. K (frozen n list))

  abbrev pub list_of : Snapshot → List Piece
  list_of snapshot = set_pieces snapshot.list

  abbrev pub IsTitle : List ℕ → Type 0
  IsTitle name = IsNext snapshot_name before name

  abbrev pub GoodFromList : List ℕ → Snapshot → Type 0
  GoodFromList n snapshot = GoodSet known snapshot.list × (frozen n snapshot.list ≡ snapshot)

  good_snapshot : (snapshot : Snapshot) → GoodSnapshot known before snapshot → IsTitle snapshot.name × GoodFromList snapshot.name snapshot
  good_snapshot snapshot g = (g.name, (g.list, refl))

  pub title_part : IsPart (Line snapshot_line IsTitle) (line_of snapshot_line) IsTitle
  title_part = line_part snapshot_line IsTitle (λ a g. snapshot_other a)

  pub title_told : IsTold (Line snapshot_line IsTitle) (line_of snapshot_line) IsTitle
  title_told = line_told snapshot_line IsTitle (λ a b g h e. names_apart (codes "snapshot ") a b e)

  pub from_list : (n : List ℕ) → IsPart (FromList n) list_of (GoodFromList n)
  from_list n = as_part (SetPart known) set_pieces (GoodSet known) (frozen n) (λ snapshot. snapshot.list) (set_part known)

  pub snapshot_part : IsPart (NextSnapshot known before) snapshot_pieces (GoodSnapshot known before)
  unfolding NextSnapshot snapshot_pieces
  snapshot_part = part_when (NextSnapshot known before) snapshot_pieces _ (GoodSnapshot known before) good_snapshot
      (both_part (Line snapshot_line IsTitle) FromList (line_of snapshot_line) list_of IsTitle GoodFromList (λ snapshot. snapshot.name) title_part from_list)

  told_list : IdsApart known → (n : List ℕ) → IsTold (FromList n) list_of (GoodFromList n)
  told_list apart n = as_told (SetPart known) set_pieces (GoodSet known) (frozen n) (λ snapshot. snapshot.list) (set_part known) (set_told known apart)

  pub snapshot_told : IdsApart known → IsTold (NextSnapshot known before) snapshot_pieces (GoodSnapshot known before)
  unfolding NextSnapshot snapshot_pieces
  snapshot_told apart K snapshot more g p =
      both_told (Line snapshot_line IsTitle) FromList (line_of snapshot_line) list_of IsTitle GoodFromList (λ snapshot. snapshot.name) title_part from_list title_told (told_list apart) K snapshot more (good_snapshot snapshot g) p

-- ---- all snapshots
module _ (known : List Card) where
  good_snapshots : (snapshots : List Snapshot) → GoodSnapshots known snapshots → (length snapshots ≤ limit_number Snapshots) × GoodOf (GoodSnapshot known) (length snapshots) snapshots
  good_snapshots snapshots g = (g.0, (refl, g.1))

  pub snapshots_part : IsPart (SnapshotsPart known) snapshots_pieces (GoodSnapshots known)
  unfolding SnapshotsPart snapshots_pieces
  snapshots_part = part_when (SnapshotsPart known) snapshots_pieces _ (GoodSnapshots known) good_snapshots
      (both_part (Count snapshots_line (limit_number Snapshots)) (λ n. Series n (NextSnapshot known) []) (line_of snapshots_line) (flat_map snapshot_pieces) (λ n. n ≤ limit_number Snapshots) (GoodOf (GoodSnapshot known)) length
      (count_part snapshots_line (limit_number Snapshots) snapshots_other) (series_part (NextSnapshot known) snapshot_pieces (GoodSnapshot known) (snapshot_part known)))

  pub snapshots_told : IdsApart known → IsTold (SnapshotsPart known) snapshots_pieces (GoodSnapshots known)
  unfolding SnapshotsPart snapshots_pieces
  snapshots_told apart K snapshots more g p =
      both_told (Count snapshots_line (limit_number Snapshots)) (λ n. Series n (NextSnapshot known) []) (line_of snapshots_line) (flat_map snapshot_pieces) (λ n. n ≤ limit_number Snapshots) (GoodOf (GoodSnapshot known)) length
      (count_part snapshots_line (limit_number Snapshots) snapshots_other) (series_part (NextSnapshot known) snapshot_pieces (GoodSnapshot known) (snapshot_part known))
      (count_told (codes "snapshots ") (limit_number Snapshots) (omega arith)) (series_told (NextSnapshot known) snapshot_pieces (GoodSnapshot known) (snapshot_part known) (λ before. snapshot_told known before apart)) K snapshots more (good_snapshots snapshots g) p
