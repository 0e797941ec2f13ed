-- What has a name, and what is found by it.
use Rattle.std.specs.Prelude.{ℕ, List, Option, Some, None, not, find, filter, map, option_map, if◌then◌else◌}
use Rattle.std.specs.Str.{bytes_eq}
use Rattle.std.specs.Ordering.{nat_cmp}
use Rattle.std.specs.Cmp.Lexicographic.{slice_cmp}
use Rattle.std.specs.declared.cmp.Ordering.{Ordering}
use Rattle.machine_state.specs.Ascending.{put}

module _ {X : Type 0} (name_of : X → List ℕ) where
  -- how its name stands to another, by bytes
  abbrev pub name_cmp : X → List ℕ → Ordering
  name_cmp x name = slice_cmp nat_cmp (name_of x) name

  -- in the order of their names
  abbrev pub named_cmp : X → X → Ordering
  named_cmp x y = name_cmp x (name_of y)

  -- the first of that name
  abbrev pub named : List ℕ → List X → Option X
  named name xs = find (λ x. bytes_eq (name_of x) name) xs

  -- all others
  abbrev pub dropped : List ℕ → List X → List X
  dropped name xs = filter (λ x. not (bytes_eq (name_of x) name)) xs

  -- that of the name changed so, and the others as they were
  abbrev pub changed : List ℕ → (X → X) → List X → List X
  changed name change xs = map (λ x. if bytes_eq (name_of x) name then change x else x) xs

  -- with one more at its place, if there is one more
  abbrev pub put_some : Option X → List X → List X
  put_some None xs = xs
  put_some (Some x) xs = put named_cmp x xs

  -- The one of the first name has the second name, which none has yet, and stands at the place of that.
  abbrev pub renamed : (X → List ℕ → X) → List ℕ → List ℕ → List X → List X
  renamed called before after xs = put_some (option_map (λ x. called x after) (named before xs)) (dropped before xs)
