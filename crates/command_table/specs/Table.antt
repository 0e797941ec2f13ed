-- The table of commands: for each group and verb its flags and its arguments.
use Rattle.std.specs.Prelude.{Bool, ◌&&◌, List, [], ◌∷◌, map, codes}
use Rattle.std.specs.Str.{bytes_eq}
use Rattle.command_table.specs.declared.table.Form.{Form}
use Rattle.command_table.specs.declared.table.Form.TheVariants.{Switch, Text, Texts}
use Rattle.command_table.specs.declared.table.Arguments.{Arguments}
use Rattle.command_table.specs.declared.table.Arguments.TheVariants as arguments
use Rattle.command_table.specs.declared.table.Kind.{Kind}
use Rattle.command_table.specs.declared.table.Kind.TheVariants.{Mirror, Repo, Snapshot, Publish, Other}
use Rattle.command_table.specs.declared.table.MirrorVerb.TheVariants as mirror
use Rattle.command_table.specs.declared.table.RepoVerb.TheVariants as repo
use Rattle.command_table.specs.declared.table.SnapshotVerb.TheVariants as snapshot
use Rattle.command_table.specs.declared.table.PublishVerb.TheVariants as publish
use Rattle.command_table.specs.declared.table.OtherVerb.TheVariants as other
use Rattle.command_table.specs.declared.table.Flag.{Flag}
use Rattle.command_table.specs.declared.table.Row.{Row}
use Rattle.command_value.specs.Plain.{Word}

-- a flag that a command takes
pub record FlagRule : Type 0 where
  pub name : Word
  pub form : Form

-- a command: its two first words, its flags, its arguments
pub record RowRule : Type 0 where
  pub group : Word
  pub verb : Word
  pub flags : List FlagRule
  pub arguments : Arguments
  pub kind : Kind

abbrev pub switch : Word → FlagRule
switch name = record { name = name; form = Switch }

abbrev pub text : Word → FlagRule
text name = record { name = name; form = Text }

abbrev pub texts : Word → FlagRule
texts name = record { name = name; form = Texts }

-- which dependencies are followed, and for which architectures
abbrev follow : List FlagRule
follow = texts (codes "architectures") ∷ switch (codes "dep-follow-recommends") ∷ switch (codes "dep-follow-suggests") ∷ []

-- the flags of a repository
abbrev local : List FlagRule
local = text (codes "comment") ∷ text (codes "distribution") ∷ text (codes "component") ∷ []

-- the flags of a new publication
abbrev settings : List FlagRule
settings =
    texts (codes "architectures") ∷ texts (codes "component") ∷ text (codes "distribution") ∷ text (codes "origin")
    ∷ text (codes "label") ∷ text (codes "suite") ∷ text (codes "codename") ∷ []

abbrev pub row : Word → Word → List FlagRule → Arguments → Kind → RowRule
row group verb flags arguments kind = record { group = group; verb = verb; flags = flags; arguments = arguments; kind = kind }

unfoldable pub table : List RowRule
table =
    row (codes "mirror") (codes "create")
    (texts (codes "architectures") ∷ text (codes "filter") ∷ switch (codes "filter-with-deps") ∷ []) (arguments.AtLeast 3) (Mirror mirror.Create)
    ∷ row (codes "mirror") (codes "update") [] (arguments.Between 1 1) (Mirror mirror.Update)
    ∷ row (codes "mirror") (codes "list") [] (arguments.Between 0 0) (Mirror mirror.List)
    ∷ row (codes "mirror") (codes "show")
    (switch (codes "with-packages") ∷ []) (arguments.Between 1 1) (Mirror mirror.Show)
    ∷ row (codes "mirror") (codes "rename") [] (arguments.Between 2 2) (Mirror mirror.Rename)
    ∷ row (codes "mirror") (codes "drop") [] (arguments.Between 1 1) (Mirror mirror.Drop)
    ∷ row (codes "repo") (codes "create") local (arguments.Between 1 1) (Repo repo.Create)
    ∷ row (codes "repo") (codes "add") [] (arguments.Between 2 2) (Repo repo.Add)
    ∷ row (codes "repo") (codes "list") [] (arguments.Between 0 0) (Repo repo.List)
    ∷ row (codes "repo") (codes "show") (switch (codes "with-packages") ∷ []) (arguments.Between 1 1) (Repo repo.Show)
    ∷ row (codes "repo") (codes "edit") local (arguments.Between 1 1) (Repo repo.Edit)
    ∷ row (codes "repo") (codes "remove") (switch (codes "dry-run") ∷ []) (arguments.AtLeast 2) (Repo repo.Remove)
    ∷ row (codes "repo") (codes "copy")
    (switch (codes "dry-run") ∷ switch (codes "with-deps") ∷ follow) arguments.Apart (Repo repo.Copy)
    ∷ row (codes "repo") (codes "move")
    (switch (codes "dry-run") ∷ switch (codes "with-deps") ∷ follow) arguments.Apart (Repo repo.Move)
    ∷ row (codes "repo") (codes "import")
    (switch (codes "dry-run") ∷ switch (codes "with-deps") ∷ follow) (arguments.AtLeast 3) (Repo repo.Import)
    ∷ row (codes "repo") (codes "rename") [] (arguments.Between 2 2) (Repo repo.Rename)
    ∷ row (codes "repo") (codes "drop") [] (arguments.Between 1 1) (Repo repo.Drop)
    ∷ row (codes "snapshot") (codes "create") [] arguments.Origin (Snapshot snapshot.Create)
    ∷ row (codes "snapshot") (codes "list") [] (arguments.Between 0 0) (Snapshot snapshot.List)
    ∷ row (codes "snapshot") (codes "show")
    (switch (codes "with-packages") ∷ []) (arguments.Between 1 1) (Snapshot snapshot.Show)
    ∷ row (codes "snapshot") (codes "filter")
    (switch (codes "with-deps") ∷ follow) (arguments.AtLeast 3) (Snapshot snapshot.Filter)
    ∷ row (codes "snapshot") (codes "merge")
    (switch (codes "latest") ∷ switch (codes "no-remove") ∷ []) (arguments.AtLeast 2) (Snapshot snapshot.Merge)
    ∷ row (codes "snapshot") (codes "pull")
    (switch (codes "all-matches") ∷ switch (codes "dry-run") ∷ switch (codes "no-deps") ∷ switch (codes "no-remove") ∷ follow) (arguments.AtLeast 4) (Snapshot snapshot.Pull)
    ∷ row (codes "snapshot") (codes "search")
    (switch (codes "with-deps") ∷ follow) (arguments.Between 2 2) (Snapshot snapshot.Search)
    ∷ row (codes "snapshot") (codes "rename") [] (arguments.Between 2 2) (Snapshot snapshot.Rename)
    ∷ row (codes "snapshot") (codes "drop") [] (arguments.Between 1 1) (Snapshot snapshot.Drop)
    ∷ row (codes "publish") (codes "snapshot") settings arguments.Sources (Publish publish.Snapshot)
    ∷ row (codes "publish") (codes "repo") settings arguments.Sources (Publish publish.Repo)
    ∷ row (codes "publish") (codes "list") [] (arguments.Between 0 0) (Publish publish.List)
    ∷ row (codes "publish") (codes "show") [] (arguments.Between 1 2) (Publish publish.Show)
    ∷ row (codes "publish") (codes "switch")
    (texts (codes "component") ∷ []) arguments.Switched (Publish publish.Switch)
    ∷ row (codes "publish") (codes "update") [] (arguments.Between 1 2) (Publish publish.Update)
    ∷ row (codes "publish") (codes "drop") [] (arguments.Between 1 2) (Publish publish.Drop)
    ∷ row (codes "package") (codes "search") [] (arguments.Between 1 1) (Other other.Search)
    ∷ row (codes "package") (codes "show") [] (arguments.Between 1 1) (Other other.Show)
    ∷ row (codes "db") (codes "cleanup") [] (arguments.Between 0 0) (Other other.Cleanup)
    ∷ []

abbrev pub has_key : Word → Word → RowRule → Bool
has_key group verb r = bytes_eq r.group group && bytes_eq r.verb verb

-- the rule that the program's row stands for
abbrev pub flag_rule : Flag → FlagRule
flag_rule f = record { name = f.name.now; form = f.form }

abbrev pub rule : Row → RowRule
rule r = record { group = r.group.now; verb = r.verb.now; flags = map flag_rule r.flags.now; arguments = r.arguments; kind = r.kind }
