-- Commands without where they lie in memory.
use Rattle.std.specs.Prelude.{◌||◌, List, ℕ, Option, Bool, option_map}
use Rattle.std.specs.Option.{is_some}
use Rattle.command_value.specs.declared.command.Follow.{Follow}
use Rattle.command_value.specs.declared.command.Origin.{Origin}
use Rattle.command_value.specs.declared.command.Command.{Command}
use Rattle.command_value.specs.declared.command.Command.TheVariants as c

-- a text is the list of its bytes
abbrev pub Word : Type 0
Word = List ℕ

abbrev pub Words : Type 0
Words = List (List ℕ)

-- which dependencies are followed, and for which architectures
pub record PlainFollow : Type 0 where
  pub architectures : Option Words
  pub recommends : Option Bool
  pub suggests : Option Bool

-- the flags of a new publication, but for those of its components
pub record PlainSettings : Type 0 where
  pub architectures : Option Words
  pub components : Option Words
  pub distribution : Option Word
  pub origin : Option Word
  pub label : Option Word
  pub suite : Option Word
  pub codename : Option Word

-- the commands of mirrors: their flags in the table's order, and their arguments
pub data MirrorCommand : Type 0 where
  mirror_create : (architectures : Option Words) (filter : Option Word) (filter_with_deps : Option Bool) (name archive distribution : Word) (components : Words) → MirrorCommand
  mirror_update : (name : Word) → MirrorCommand
  mirror_list : MirrorCommand
  mirror_show : (with_packages : Option Bool) (name : Word) → MirrorCommand
  mirror_rename : (from_name to_name : Word) → MirrorCommand
  mirror_drop : (name : Word) → MirrorCommand

-- those of local repositories
pub data RepoCommand : Type 0 where
  repo_create : (comment distribution component : Option Word) (name : Word) → RepoCommand
  repo_add : (name folder : Word) → RepoCommand
  repo_list : RepoCommand
  repo_show : (with_packages : Option Bool) (name : Word) → RepoCommand
  repo_edit : (comment distribution component : Option Word) (name : Word) → RepoCommand
  repo_remove : (dry_run : Option Bool) (name : Word) (queries : Words) → RepoCommand
  repo_copy : (dry_run with_deps : Option Bool) (follow : PlainFollow) (source destination : Word) (queries : Words) → RepoCommand
  repo_move : (dry_run with_deps : Option Bool) (follow : PlainFollow) (source destination : Word) (queries : Words) → RepoCommand
  repo_import : (dry_run with_deps : Option Bool) (follow : PlainFollow) (mirror repo : Word) (queries : Words) → RepoCommand
  repo_rename : (from_name to_name : Word) → RepoCommand
  repo_drop : (name : Word) → RepoCommand

-- those of snapshots
pub data SnapshotCommand : Type 0 where
  snapshot_create : (name : Word) (origin : Origin) → SnapshotCommand
  snapshot_list : SnapshotCommand
  snapshot_show : (with_packages : Option Bool) (name : Word) → SnapshotCommand
  snapshot_filter : (with_deps : Option Bool) (follow : PlainFollow) (source destination : Word) (queries : Words) → SnapshotCommand
  snapshot_merge : (latest no_remove : Option Bool) (destination : Word) (sources : Words) → SnapshotCommand
  snapshot_pull : (all_matches dry_run no_deps no_remove : Option Bool) (follow : PlainFollow) (name source destination : Word) (queries : Words) → SnapshotCommand
  snapshot_search : (with_deps : Option Bool) (follow : PlainFollow) (name query : Word) → SnapshotCommand
  snapshot_rename : (from_name to_name : Word) → SnapshotCommand
  snapshot_drop : (name : Word) → SnapshotCommand

-- those of publications
pub data PublishCommand : Type 0 where
  publish_snapshot : (settings : PlainSettings) (sources : Words) (prefix : Option Word) → PublishCommand
  publish_repo : (settings : PlainSettings) (sources : Words) (prefix : Option Word) → PublishCommand
  publish_list : PublishCommand
  publish_show : (distribution : Word) (prefix : Option Word) → PublishCommand
  publish_switch : (components : Option Words) (distribution : Word) (prefix : Option Word) (snapshots : Words) → PublishCommand
  publish_update : (distribution : Word) (prefix : Option Word) → PublishCommand
  publish_drop : (distribution : Word) (prefix : Option Word) → PublishCommand

-- those of packages and of the store
pub data OtherCommand : Type 0 where
  package_search : (query : Word) → OtherCommand
  package_show : (query : Word) → OtherCommand
  db_cleanup : OtherCommand

-- a command, by its family
pub data PlainCommand : Type 0 where
  of_mirror : MirrorCommand → PlainCommand
  of_repo : RepoCommand → PlainCommand
  of_snapshot : SnapshotCommand → PlainCommand
  of_publish : PublishCommand → PlainCommand
  of_other : OtherCommand → PlainCommand

abbrev pub plain_follow : Follow → PlainFollow
plain_follow f =
    record {
      architectures = option_map (λ v. v.items) f.architectures;
      recommends = f.recommends;
      suggests = f.suggests;
    }

-- a flag of following is written
abbrev pub follows : Option Bool → PlainFollow → Bool
follows deps follow = is_some deps || (is_some follow.architectures || (is_some follow.recommends || is_some follow.suggests))

-- the command as its clauses see it
abbrev pub plain : Command → PlainCommand
plain (c.MirrorCreate architectures filter deps name archive distribution components) = of_mirror (mirror_create (option_map (λ v. v.items) architectures) filter deps name archive distribution
    components.items)
plain (c.MirrorUpdate name) = of_mirror (mirror_update name)
plain c.MirrorList = of_mirror mirror_list
plain (c.MirrorShow packages name) = of_mirror (mirror_show packages name)
plain (c.MirrorRename from to) = of_mirror (mirror_rename from to)
plain (c.MirrorDrop name) = of_mirror (mirror_drop name)
plain (c.RepoCreate comment distribution component name) = of_repo (repo_create comment distribution component name)
plain (c.RepoAdd name folder) = of_repo (repo_add name folder)
plain c.RepoList = of_repo repo_list
plain (c.RepoShow packages name) = of_repo (repo_show packages name)
plain (c.RepoEdit comment distribution component name) = of_repo (repo_edit comment distribution component name)
plain (c.RepoRemove dry name queries) = of_repo (repo_remove dry name queries.items)
plain (c.RepoCopy dry deps follow source destination queries) = of_repo (repo_copy dry deps (plain_follow follow) source destination queries.items)
plain (c.RepoMove dry deps follow source destination queries) = of_repo (repo_move dry deps (plain_follow follow) source destination queries.items)
plain (c.RepoImport dry deps follow mirror repo queries) = of_repo (repo_import dry deps (plain_follow follow) mirror repo queries.items)
plain (c.RepoRename from to) = of_repo (repo_rename from to)
plain (c.RepoDrop name) = of_repo (repo_drop name)
plain (c.SnapshotCreate name origin) = of_snapshot (snapshot_create name origin)
plain c.SnapshotList = of_snapshot snapshot_list
plain (c.SnapshotShow packages name) = of_snapshot (snapshot_show packages name)
plain (c.SnapshotFilter deps follow source destination queries) = of_snapshot (snapshot_filter deps (plain_follow follow) source destination queries.items)
plain (c.SnapshotMerge latest no_remove destination sources) = of_snapshot (snapshot_merge latest no_remove destination sources.items)
plain (c.SnapshotPull all dry no_deps no_remove follow name source destination queries) = of_snapshot (snapshot_pull all dry no_deps no_remove (plain_follow follow) name source destination queries.items)
plain (c.SnapshotSearch deps follow name query) = of_snapshot (snapshot_search deps (plain_follow follow) name query)
plain (c.SnapshotRename from to) = of_snapshot (snapshot_rename from to)
plain (c.SnapshotDrop name) = of_snapshot (snapshot_drop name)
plain (c.PublishSnapshot architectures components distribution origin label suite codename sources prefix) = of_publish (publish_snapshot
    (record {
      architectures = option_map (λ v. v.items) architectures;
      components = option_map (λ v. v.items) components;
      distribution = distribution;
      origin = origin;
      label = label;
      suite = suite;
      codename = codename;
    })
    sources.items prefix)
plain (c.PublishRepo architectures components distribution origin label suite codename sources prefix) = of_publish (publish_repo
    (record {
      architectures = option_map (λ v. v.items) architectures;
      components = option_map (λ v. v.items) components;
      distribution = distribution;
      origin = origin;
      label = label;
      suite = suite;
      codename = codename;
    })
    sources.items prefix)
plain c.PublishList = of_publish publish_list
plain (c.PublishShow distribution prefix) = of_publish (publish_show distribution prefix)
plain (c.PublishSwitch components distribution prefix snapshots) = of_publish (publish_switch (option_map (λ v. v.items) components) distribution prefix snapshots.items)
plain (c.PublishUpdate distribution prefix) = of_publish (publish_update distribution prefix)
plain (c.PublishDrop distribution prefix) = of_publish (publish_drop distribution prefix)
plain (c.PackageSearch query) = of_other (package_search query)
plain (c.PackageShow query) = of_other (package_show query)
plain c.DbCleanup = of_other db_cleanup
