-- The words of a value.
use Rattle.std.specs.Prelude.{ℕ, Bool, true, false, List, [], ◌∷◌, filter}
use Rattle.std.specs.List.{slice_split}
use Rattle.package_core.specs.Source.{is_gap}

-- there is something in it
abbrev pub is_filled : {X : Type 0} → List X → Bool
is_filled [] = false
is_filled (x ∷ xs) = true

-- the words of a text: what stands between its spaces, tabs and line ends
unfoldable pub words : List ℕ → List (List ℕ)
words text = filter is_filled (slice_split is_gap text)

-- a line that isn't blank
abbrev pub has_word : List ℕ → Bool
has_word line = is_filled (words line)

-- a space, a tab or a line end stands in front
abbrev pub starts_gap : List ℕ → Bool
starts_gap [] = false
starts_gap (c ∷ cs) = is_gap c
