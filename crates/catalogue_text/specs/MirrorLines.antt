-- The lines that a mirror is written by in a root.
use Rattle.std.specs.Prelude.{ℕ, Bool, List, ◌++◌, codes, Option}
use Rattle.std.specs.Fmt.{decimal}
use Rattle.query_tree.specs.Tree.{Tree}
use Rattle.machine_state.specs.Words.{blank_and, names_behind, filter_text, yes_or_no}

abbrev pub mirrors_line : ℕ → List ℕ
mirrors_line count = codes "mirrors " ++ decimal count

abbrev pub mirror_line : List ℕ → List ℕ
mirror_line name = codes "mirror " ++ name

abbrev pub archive_line : List ℕ → List ℕ
archive_line path = codes "archive " ++ path

-- the distribution of an archive: a path
abbrev pub place_line : List ℕ → List ℕ
place_line path = codes "distribution " ++ path

abbrev pub components_line : List (List ℕ) → List ℕ
components_line names = codes "components" ++ names_behind names

abbrev pub filter_line : Option Tree → List ℕ
filter_line filter = codes "filter" ++ blank_and (filter_text filter)

abbrev pub deps_line : Bool → List ℕ
deps_line is = codes "with-deps " ++ yes_or_no is

abbrev pub updated_line : Bool → List ℕ
updated_line is = codes "updated " ++ yes_or_no is

abbrev pub date_line : List ℕ → List ℕ
date_line date = codes "date" ++ blank_and date
