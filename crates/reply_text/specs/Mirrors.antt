-- The replies to commands on mirrors, as bytes.
use Rattle.std.specs.Prelude.{ℕ, Bool, List, [], ◌++◌, length, codes, Option, Some, None, if◌then◌else◌}
use Rattle.std.specs.List.{flat_map}
use Rattle.std.specs.Fmt.{decimal}
use Rattle.package_core.specs.Card.{Card}
use Rattle.query_tree.specs.Tree.{Tree}
use Rattle.machine_state.specs.declared.fetched.Fetched.{Fetched}
use Rattle.machine_state.specs.Values.{MirrorView}
use Rattle.reply_text.specs.Replies.{listed_line, packages_line, triple_lines}
use Rattle.reply_text.specs.Words.{line, blank_and, names_behind, yes_or_no, filter_text}

-- `Mirror debian created.`
unfoldable pub mirror_created : List ℕ → List ℕ
mirror_created name = line (codes "Mirror " ++ (name ++ codes " created."))

-- `Mirror debian updated: 700 packages.`
unfoldable pub mirror_updated : List ℕ → ℕ → List ℕ
mirror_updated name packages = line (codes "Mirror " ++ (name ++ (codes " updated: " ++ (decimal packages ++ codes " packages."))))

-- `Mirror debian renamed to other.`
unfoldable pub mirror_renamed : List ℕ → List ℕ → List ℕ
mirror_renamed before after = line (codes "Mirror " ++ (before ++ (codes " renamed to " ++ (after ++ codes "."))))

-- `Mirror debian dropped.`
unfoldable pub mirror_dropped : List ℕ → List ℕ
mirror_dropped name = line (codes "Mirror " ++ (name ++ codes " dropped."))

-- what was fetched, where something was
abbrev pub fetched_list : Option Fetched → List Card
fetched_list None = []
fetched_list (Some fetched) = fetched.list

-- ` * debian [700]`; a mirror that was never updated has no package
unfoldable pub mirror_line : MirrorView → List ℕ
mirror_line mirror = listed_line mirror.name (length (fetched_list mirror.updated))

-- how many mirrors there are, and of each its name and how many packages it has
unfoldable pub mirror_list : List MirrorView → List ℕ
mirror_list mirrors = line (codes "Mirrors: " ++ decimal (length mirrors)) ++ flat_map mirror_line mirrors

-- what a mirror is called, and where its archive is, each on a line
unfoldable pub origin_lines : List ℕ → List ℕ → List ℕ → List ℕ
origin_lines name archive distribution =
    line (codes "Name: " ++ name) ++ (line (codes "Archive: " ++ archive) ++ line (codes "Distribution: " ++ distribution))

-- what is wanted of an archive: components and architectures
unfoldable pub names_lines : List (List ℕ) → List (List ℕ) → List ℕ
names_lines components architectures = line (codes "Components:" ++ names_behind components) ++ line (codes "Architectures:" ++ names_behind architectures)

-- and packages by a query, with what they depend on or without
unfoldable pub filter_lines : Option Tree → Bool → List ℕ
filter_lines filter with_deps = line (codes "Filter:" ++ blank_and (filter_text filter)) ++ line (codes "Filter-With-Deps: " ++ yes_or_no with_deps)

-- the date of what was fetched and how many packages it has, or that nothing was; then their names, where they are asked for
unfoldable pub fetched_lines : Option Fetched → Bool → List ℕ
fetched_lines None with_packages = line (codes "Packages: never updated")
fetched_lines (Some fetched) with_packages =
    line (codes "Date:" ++ blank_and fetched.date) ++ packages_line (length fetched.list) ++ (if with_packages then triple_lines fetched.list else [])

-- a mirror's settings, and what it fetched
unfoldable pub mirror_show : MirrorView → Bool → List ℕ
mirror_show mirror with_packages =
    origin_lines mirror.name mirror.archive mirror.distribution ++ names_lines mirror.components mirror.architectures
    ++ filter_lines mirror.filter mirror.with_deps ++ fetched_lines mirror.updated with_packages
