-- Words and parts of lines: replies say what a state has by them, and a root text keeps it by them.
use Rattle.std.specs.Prelude.{ℕ, Bool, true, false, List, [], ◌∷◌, ◌++◌, codes, Option, Some, None}
use Rattle.std.specs.List.{flat_map}
use Rattle.query_tree.specs.Tree.{Tree}
use Rattle.query_tree.specs.Written.{written}
use Rattle.machine_state.specs.declared.limit.Kind.{Kind}
use Rattle.machine_state.specs.declared.limit.Kind.TheVariants.{Mirror, Repo, Snapshot, Component}

-- a blank and the text, where there is a text
abbrev pub blank_and : List ℕ → List ℕ
blank_and [] = []
blank_and (b ∷ bs) = 32 ∷ b ∷ bs

-- a blank before each name
abbrev pub names_behind : List (List ℕ) → List ℕ
names_behind names = flat_map (λ name. 32 ∷ name) names

abbrev pub yes_or_no : Bool → List ℕ
yes_or_no true = codes "yes"
yes_or_no false = codes "no"

abbrev pub kind_word : Kind → List ℕ
kind_word Mirror = codes "mirror"
kind_word Repo = codes "repo"
kind_word Snapshot = codes "snapshot"
kind_word Component = codes "component"

-- the query of a filter as it is written, which is no empty text
abbrev pub filter_text : Option Tree → List ℕ
filter_text None = []
filter_text (Some tree) = written tree

-- the prefix of a publication, `.` for none
abbrev pub prefix_word : Option (List ℕ) → List ℕ
prefix_word None = codes "."
prefix_word (Some path) = path

-- the place of a publication: its prefix, a blank and its distribution
abbrev pub place_text : Option (List ℕ) × List ℕ → List ℕ
place_text place = prefix_word place.0 ++ 32 ∷ place.1
