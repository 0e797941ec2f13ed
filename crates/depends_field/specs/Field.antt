-- What a relation field says, as a function of its text. It is what the grammar says (`Groups`), and nothing where the
-- grammar reads nothing.
use Rattle.std.specs.Prelude.{◌≡◌, ℕ, zero, suc, Bool, false, List, [], ◌∷◌, length, Option, None}
use Rattle.std.specs.List.{flat_map}
use Rattle.std.specs.Option.{option_map, option_and_then}
use Rattle.depends_field.specs.declared.alternative.Alternative.{Alternative}
use Rattle.depends_field.specs.declared.fault.DependsFault.{DependsFault}
use Rattle.depends_field.specs.declared.fault.DependsFault.TheVariants.{At, OutOfMemory}
use Rattle.depends_field.specs.declared.phase.Kind.{Kind}
use Rattle.depends_field.specs.declared.phase.Kind.TheVariants.{Depends, Provides}
use Rattle.depends_field.specs.Pieces.{front, behind, inside_after}
use Rattle.depends_field.specs.Reading.{start, run, finished}

-- the pieces of a text that has at most as many bytes as the first argument
abbrev pub pieces : ℕ → Bool → List ℕ → List (List ℕ)
pieces zero inside text = []
pieces (suc n) inside [] = []
pieces (suc n) inside (b ∷ bs) =
    front inside (b ∷ bs) ∷ pieces n (inside_after inside (front inside (b ∷ bs))) (behind inside (b ∷ bs))

-- the groups that a field says, if it is readable
unfoldable pub groups_in : Kind → List ℕ → Option (List (List Alternative))
groups_in kind text = option_and_then finished (run kind start (pieces (length text) false text))

-- what Depends and the fields like it say
abbrev pub depends_in : List ℕ → Option (List (List Alternative))
depends_in text = groups_in Depends text

-- what Provides says: the alternatives of all its groups, each of which has one
abbrev pub provides_in : List ℕ → Option (List Alternative)
provides_in text = option_map (flat_map (λ (group : List Alternative). group)) (groups_in Provides text)

-- the field says nothing, unless memory runs out
abbrev pub SaysNothing : {X : Type 0} → Option X → DependsFault → Type 0
SaysNothing said (At place) = said ≡ None
SaysNothing said OutOfMemory = Unit {0}
