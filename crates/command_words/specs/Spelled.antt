-- What the words of one command spell.
use Rattle.std.specs.Prelude.{ℕ, ◌+◌, ◌==◌, Bool, true, false, ◌&&◌, if◌then◌else◌, [], ◌∷◌, Option, Some, None, is_some, length, take, drop, slice_index_or, slice_get, codes}
use Rattle.std.specs.List.{find, list_any, prefix_len}
use Rattle.std.specs.Str.{bytes_eq}
use Rattle.command_value.specs.declared.command.Origin.{Origin}
use Rattle.command_value.specs.declared.command.Origin.TheVariants.{Mirror, Repo, Empty}
use Rattle.command_table.specs.declared.table.Kind.{Kind}
use Rattle.command_table.specs.declared.table.Kind.TheVariants as kind
use Rattle.command_table.specs.declared.table.MirrorVerb.{MirrorVerb}
use Rattle.command_table.specs.declared.table.MirrorVerb.TheVariants as m
use Rattle.command_table.specs.declared.table.RepoVerb.{RepoVerb}
use Rattle.command_table.specs.declared.table.RepoVerb.TheVariants as r
use Rattle.command_table.specs.declared.table.SnapshotVerb.{SnapshotVerb}
use Rattle.command_table.specs.declared.table.SnapshotVerb.TheVariants as s
use Rattle.command_table.specs.declared.table.PublishVerb.{PublishVerb}
use Rattle.command_table.specs.declared.table.PublishVerb.TheVariants as p
use Rattle.command_table.specs.declared.table.OtherVerb.{OtherVerb}
use Rattle.command_table.specs.declared.table.OtherVerb.TheVariants as o
use Rattle.command_value.specs.Plain.{Word, Words, PlainFollow, PlainSettings, MirrorCommand, RepoCommand, SnapshotCommand, PublishCommand, OtherCommand, PlainCommand, of_mirror, of_repo, of_snapshot, of_publish, of_other, mirror_create, mirror_update, mirror_list, mirror_show, mirror_rename, mirror_drop, repo_create, repo_add, repo_list, repo_show, repo_edit, repo_remove, repo_copy, repo_move, repo_import, repo_rename, repo_drop, snapshot_create, snapshot_list, snapshot_show, snapshot_filter, snapshot_merge, snapshot_pull, snapshot_search, snapshot_rename, snapshot_drop, publish_snapshot, publish_repo, publish_list, publish_show, publish_switch, publish_update, publish_drop, package_search, package_show, db_cleanup}
use Rattle.command_table.specs.Table.{RowRule, table, has_key}
use Rattle.command_table.specs.Flags.{is_flag, flags_stand, switch_of, text_of, texts_of}
use Rattle.command_table.specs.Arguments.{arguments_begin, arguments_end}

-- the word at a place
abbrev pub word_at : Words → ℕ → Word
word_at words i = slice_index_or words i []

abbrev pub follow_of : Words → PlainFollow
follow_of flags =
    record {
      architectures = texts_of (codes "architectures") flags;
      recommends = switch_of (codes "dep-follow-recommends") flags;
      suggests = switch_of (codes "dep-follow-suggests") flags;
    }

abbrev pub settings_of : Words → PlainSettings
settings_of flags =
    record {
      architectures = texts_of (codes "architectures") flags;
      components = texts_of (codes "component") flags;
      distribution = text_of (codes "distribution") flags;
      origin = text_of (codes "origin") flags;
      label = text_of (codes "label") flags;
      suite = text_of (codes "suite") flags;
      codename = text_of (codes "codename") flags;
    }

-- a publication has the components of `-component`, else one
abbrev pub count_or_one : Option Words → ℕ
count_or_one None = 1
count_or_one (Some components) = length components

abbrev pub components_len : Words → ℕ
components_len flags = count_or_one (texts_of (codes "component") flags)

abbrev pub origin_of : Words → Origin
origin_of words =
    if bytes_eq (word_at words 1) (codes "empty") then Empty
    else if bytes_eq (word_at words 2) (codes "mirror") then Mirror (word_at words 3)
    else Repo (word_at words 3)

-- each command, of its flags and its arguments
abbrev pub mirror_command : MirrorVerb → Words → Words → MirrorCommand
mirror_command m.Create flags words =
    mirror_create (texts_of (codes "architectures") flags) (text_of (codes "filter") flags)
    (switch_of (codes "filter-with-deps") flags) (word_at words 0) (word_at words 1) (word_at words 2)
    (drop 3 words)
mirror_command m.Update flags words = mirror_update (word_at words 0)
mirror_command m.List flags words = mirror_list
mirror_command m.Show flags words = mirror_show (switch_of (codes "with-packages") flags) (word_at words 0)
mirror_command m.Rename flags words = mirror_rename (word_at words 0) (word_at words 1)
mirror_command m.Drop flags words = mirror_drop (word_at words 0)

abbrev pub repo_command : RepoVerb → Words → Words → RepoCommand
repo_command r.Create flags words =
    repo_create (text_of (codes "comment") flags) (text_of (codes "distribution") flags)
    (text_of (codes "component") flags) (word_at words 0)
repo_command r.Add flags words = repo_add (word_at words 0) (word_at words 1)
repo_command r.List flags words = repo_list
repo_command r.Show flags words = repo_show (switch_of (codes "with-packages") flags) (word_at words 0)
repo_command r.Edit flags words =
    repo_edit (text_of (codes "comment") flags) (text_of (codes "distribution") flags)
    (text_of (codes "component") flags) (word_at words 0)
repo_command r.Remove flags words = repo_remove (switch_of (codes "dry-run") flags) (word_at words 0) (drop 1 words)
repo_command r.Copy flags words =
    repo_copy (switch_of (codes "dry-run") flags) (switch_of (codes "with-deps") flags) (follow_of flags)
    (word_at words 0) (word_at words 1) (drop 2 words)
repo_command r.Move flags words =
    repo_move (switch_of (codes "dry-run") flags) (switch_of (codes "with-deps") flags) (follow_of flags)
    (word_at words 0) (word_at words 1) (drop 2 words)
repo_command r.Import flags words =
    repo_import (switch_of (codes "dry-run") flags) (switch_of (codes "with-deps") flags) (follow_of flags)
    (word_at words 0) (word_at words 1) (drop 2 words)
repo_command r.Rename flags words = repo_rename (word_at words 0) (word_at words 1)
repo_command r.Drop flags words = repo_drop (word_at words 0)

abbrev pub snapshot_command : SnapshotVerb → Words → Words → SnapshotCommand
snapshot_command s.Create flags words = snapshot_create (word_at words 0) (origin_of words)
snapshot_command s.List flags words = snapshot_list
snapshot_command s.Show flags words = snapshot_show (switch_of (codes "with-packages") flags) (word_at words 0)
snapshot_command s.Filter flags words =
    snapshot_filter (switch_of (codes "with-deps") flags) (follow_of flags) (word_at words 0) (word_at words 1)
    (drop 2 words)
snapshot_command s.Merge flags words =
    snapshot_merge (switch_of (codes "latest") flags) (switch_of (codes "no-remove") flags) (word_at words 0)
    (drop 1 words)
snapshot_command s.Pull flags words =
    snapshot_pull (switch_of (codes "all-matches") flags) (switch_of (codes "dry-run") flags)
    (switch_of (codes "no-deps") flags) (switch_of (codes "no-remove") flags) (follow_of flags)
    (word_at words 0) (word_at words 1) (word_at words 2) (drop 3 words)
snapshot_command s.Search flags words =
    snapshot_search (switch_of (codes "with-deps") flags) (follow_of flags) (word_at words 0) (word_at words 1)
snapshot_command s.Rename flags words = snapshot_rename (word_at words 0) (word_at words 1)
snapshot_command s.Drop flags words = snapshot_drop (word_at words 0)

-- a switch to n snapshots has a prefix exactly where it has n + 2 arguments
abbrev pub switch_command : Option Words → ℕ → Words → PublishCommand
switch_command components n words =
    if length words == n + 2 then publish_switch components (word_at words 0) (slice_get words 1)
    (drop 2 words) else publish_switch components (word_at words 0) None (drop 1 words)

abbrev pub publish_command : PublishVerb → Words → Words → PublishCommand
publish_command p.Snapshot flags words =
    publish_snapshot (settings_of flags) (take (components_len flags) words)
    (slice_get words (components_len flags))
publish_command p.Repo flags words =
    publish_repo (settings_of flags) (take (components_len flags) words)
    (slice_get words (components_len flags))
publish_command p.List flags words = publish_list
publish_command p.Show flags words = publish_show (word_at words 0) (slice_get words 1)
publish_command p.Switch flags words = switch_command (texts_of (codes "component") flags) (components_len flags) words
publish_command p.Update flags words = publish_update (word_at words 0) (slice_get words 1)
publish_command p.Drop flags words = publish_drop (word_at words 0) (slice_get words 1)

abbrev pub other_command : OtherVerb → Words → OtherCommand
other_command o.Search words = package_search (word_at words 0)
other_command o.Show words = package_show (word_at words 0)
other_command o.Cleanup words = db_cleanup

unfoldable pub command_of : Kind → Words → Words → PlainCommand
command_of (kind.Mirror verb) flags words = of_mirror (mirror_command verb flags words)
command_of (kind.Repo verb) flags words = of_repo (repo_command verb flags words)
command_of (kind.Snapshot verb) flags words = of_snapshot (snapshot_command verb flags words)
command_of (kind.Publish verb) flags words = of_publish (publish_command verb flags words)
command_of (kind.Other verb) flags words = of_other (other_command verb words)

-- the flags are the words after the verb up to the first other one
abbrev pub flags_of : Words → Words
flags_of words = take (prefix_len is_flag words) words

abbrev pub after_flags : Words → Words
after_flags words = drop (prefix_len is_flag words) words

-- one mark `--` behind the flags is skipped
abbrev pub mark_len : Words → ℕ
mark_len [] = 0
mark_len (word ∷ words) = if bytes_eq word (codes "--") then 1 else 0

abbrev pub arguments_of : Words → Words
arguments_of words = drop (mark_len (after_flags words)) (after_flags words)

-- whether the words after the verb can be the first of such a command, whether none is missing, and
-- which command they are
unfoldable pub row_begins : RowRule → Words → Bool
row_begins row words =
    flags_stand row.flags (flags_of words) && arguments_begin row.arguments (components_len (flags_of words))
    (arguments_of words)

unfoldable pub row_ends : RowRule → Words → Bool
row_ends row words = arguments_end row.arguments (components_len (flags_of words)) (arguments_of words)

abbrev pub row_spells : RowRule → Words → Option PlainCommand
row_spells row words =
    if row_begins row words && row_ends row words then Some
    (command_of row.kind (flags_of words) (arguments_of words)) else None

abbrev pub spelled_by : Option RowRule → Words → Option PlainCommand
spelled_by None words = None
spelled_by (Some row) words = row_spells row words

-- the command that the words spell: a group, a verb, flags, arguments
abbrev pub spelled : Words → Option PlainCommand
spelled [] = None
spelled (group ∷ []) = None
spelled (group ∷ verb ∷ words) = spelled_by (find (has_key group verb) table) words

abbrev pub is_command : Words → Bool
is_command words = is_some (spelled words)

abbrev pub begun_by : Option RowRule → Words → Bool
begun_by None words = false
begun_by (Some row) words = row_begins row words

-- whether the words can be the first of a command
abbrev pub begins : Words → Bool
begins [] = true
begins (group ∷ []) = list_any (λ r. bytes_eq r.group group) table
begins (group ∷ verb ∷ words) = begun_by (find (has_key group verb) table) words
