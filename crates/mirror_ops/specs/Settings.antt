-- The settings of a mirror, as words state them.
use Rattle.std.specs.Prelude.{ℕ, Bool, false, List, [], ◌∷◌, Option, Some, None, Result, Ok, Err, unwrap_or, if◌then◌else◌}
use Rattle.std.specs.Str.{is_utf8}
use Rattle.std.specs.Ordering.{nat_cmp}
use Rattle.std.specs.Cmp.Lexicographic.{slice_cmp}
use Rattle.ap_text.specs.Names.{is_component}
use Rattle.package_list.specs.Sorted.{union}
use Rattle.query_tree.specs.Tree.{Tree}
use Rattle.query_grammar.specs.Said.{query_of}
use Rattle.machine_state.specs.declared.refusal.Refusal.{Refusal}
use Rattle.machine_state.specs.declared.refusal.Refusal.TheVariants.{BadName}
use Rattle.machine_state.specs.Texts.{is_listed, is_path}
use Rattle.machine_state.specs.Values.{MirrorView}
use Rattle.step_model.specs.Case.{or_else}
use Rattle.step_model.specs.Names.{bad_name}
use Rattle.mirror_ops.specs.declared.names.Part.{Part}
use Rattle.mirror_ops.specs.declared.names.Part.TheVariants.{Component, Architecture}

-- a word that isn't as it has to be
abbrev pub bad_word : Bool → List ℕ → Option Refusal
bad_word good text = if good then None else Some (BadName text)

-- what a component has to be, and an architecture that can be listed: `all` can't
abbrev pub fits : Part → List ℕ → Bool
fits Component text = is_component text
fits Architecture text = is_listed text

-- the first of these texts that can't be one
abbrev pub bad_among : Part → List (List ℕ) → Option Refusal
bad_among part [] = None
bad_among part (text ∷ texts) = or_else (bad_word (fits part text) text) (bad_among part texts)

-- the names of a list that is written
abbrev pub written : Option (List (List ℕ)) → List (List ℕ)
written None = []
written (Some texts) = texts

-- a path of at most so many bytes
abbrev pub bad_path : ℕ → List ℕ → Option Refusal
bad_path most text = bad_word (is_path most text) text

-- a filter is text in UTF-8, as each word is
abbrev pub bad_text : Option (List ℕ) → Option Refusal
bad_text None = None
bad_text (Some text) = bad_word (is_utf8 text) text

-- The first of the settings, in the order of the table of commands, that can't be a mirror's: the architectures, the filter as a text, the
-- name, the archive, the distribution, the components.
abbrev pub bad_settings : Option (List (List ℕ)) → Option (List ℕ) → List ℕ → List ℕ → List ℕ → List (List ℕ) → Option Refusal
bad_settings architectures filter name archive distribution components =
    or_else (bad_among Architecture (written architectures))
    (or_else (bad_text filter)
    (or_else (bad_name name) (or_else (bad_path 200 archive) (or_else (bad_path 100 distribution) (bad_among Component components)))))

-- names in the order of their bytes, each once
abbrev pub in_order : List (List ℕ) → List (List ℕ)
in_order names = union (slice_cmp nat_cmp) [] names

-- ---- the filter

-- the queries that are asked: the filter, if one is written
abbrev pub asked : Option (List ℕ) → List (List ℕ)
asked None = []
asked (Some text) = text ∷ []

abbrev pub tree_said : Result Tree ℕ → Option Tree
tree_said (Ok t) = Some t
tree_said (Err place) = None

-- the tree of the filter
abbrev pub filter_tree : Option (List ℕ) → Option Tree
filter_tree None = None
filter_tree (Some text) = tree_said (query_of text)

-- ---- the mirror

-- a mirror that takes all that the archive has of these, and was never updated
abbrev pub bare_mirror : Option (List (List ℕ)) → List ℕ → List ℕ → List ℕ → List (List ℕ) → MirrorView
bare_mirror architectures name archive distribution components = record {
  name = name;
  archive = archive;
  distribution = distribution;
  components = in_order components;
  architectures = in_order (written architectures);
  filter = None;
  with_deps = false;
  updated = None;
}

-- the same with a filter, and with what that depends on or without
abbrev pub filtered : Option (List ℕ) → Option Bool → MirrorView → MirrorView
filtered filter with_deps mirror = record mirror { filter = filter_tree filter; with_deps = unwrap_or with_deps false }
