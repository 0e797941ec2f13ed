-- The places of what was taken, and what a place that is open asks for.
use Rattle.std.specs.Prelude.{ℕ, List, [], ◌∷◌, ◌++◌, map, Bool, true, false, not, ◌&&◌, ◌||◌, Option, Some, None, find, if◌then◌else◌}
use Rattle.std.specs.List.{list_any, filter, flat_map}
use Rattle.std.specs.Option.{option_and_then}
use Rattle.std.specs.Ordering.{is_lt}
use Rattle.depends_field.specs.declared.alternative.Alternative.{Alternative}
use Rattle.package_core.specs.Card.{Card}
use Rattle.package_relations.specs.declared.fields.RelationField.{RelationField}
use Rattle.package_relations.specs.declared.fields.RelationField.TheVariants.{PreDepends, Depends, Recommends, Suggests}
use Rattle.package_relations.specs.Fields.{groups_of}
use Rattle.package_relations.specs.Order.{by_version_cmp}
use Rattle.package_relations.specs.Satisfies.{satisfies, is_satisfied}
use Rattle.depend_pull.specs.declared.flags.PullFlags.{PullFlags}
use Rattle.depend_pull.specs.declared.places.Place.{Place}
use Rattle.depend_pull.specs.Seeds.{is_of_all}

-- a field, where it is asked for
abbrev pub if_asked : Bool → RelationField → List RelationField
if_asked true field = field ∷ []
if_asked false field = []

-- the fields whose groups are followed, in their order
abbrev pub followed : PullFlags → List RelationField
followed flags = PreDepends ∷ Depends ∷ (if_asked flags.recommends Recommends ++ if_asked flags.suggests Suggests)

-- the groups of a package that are followed
abbrev pub groups_followed : PullFlags → Card → List (List Alternative)
groups_followed flags p = flat_map (λ field. groups_of p field) (followed flags)

-- the architectures that apply to a package: its own, or all of these to one of `all`
abbrev pub applying : List (List ℕ) → Card → List (List ℕ)
applying archs p = if is_of_all p then archs else p.arch ∷ []

-- the places of a group
abbrev pub places_for : List (List ℕ) → List Alternative → List Place
places_for archs group = map (λ arch. record { group = group; arch = arch }) archs

-- the places of a package: its groups, and of each the architectures that apply
abbrev pub places_of : PullFlags → List (List ℕ) → Card → List Place
places_of flags archs p = flat_map (λ group. places_for (applying archs p) group) (groups_followed flags p)

-- the places of what was taken, in the order in which it came
abbrev pub places : PullFlags → List (List ℕ) → List Card → List Place
places flags archs taken = flat_map (λ p. places_of flags archs p) taken

-- nothing of the base and of what was taken satisfies it, and something of the source does
abbrev pub is_open : List Card → List Card → List Card → Place → Bool
is_open base source taken place =
    not (is_satisfied base place.group place.arch || is_satisfied taken place.group place.arch) && is_satisfied source place.group place.arch

-- the members that satisfy an alternative
abbrev pub satisfiers : List Card → List ℕ → Alternative → List Card
satisfiers source arch alternative = filter (λ p. satisfies p alternative arch) source

-- the greater of two, by version and then by the order of packages
abbrev pub greater_of : Card → Card → Card
greater_of p q = if is_lt (by_version_cmp p q) then q else p

-- the greatest of a list and of one before it
abbrev pub greatest_from : Card → List Card → Card
greatest_from p [] = p
greatest_from p (q ∷ qs) = greatest_from (greater_of p q) qs

-- the greatest of a list and of one before it, if there is one
abbrev pub greatest_behind : Option Card → List Card → Option Card
greatest_behind None [] = None
greatest_behind None (p ∷ ps) = Some (greatest_from p ps)
greatest_behind (Some p) ps = Some (greatest_from p ps)

abbrev pub greatest_of : List Card → Option Card
greatest_of list = greatest_behind None list

-- the first alternative of a group that some member satisfies
abbrev pub first_satisfied : List Card → List ℕ → List Alternative → Option Alternative
first_satisfied source arch group = find (λ alternative. list_any (λ p. satisfies p alternative arch) source) group

-- what a place takes: the greatest of those that satisfy its first alternative that any satisfies
abbrev pub picked : List Card → Place → Option Card
picked source place = option_and_then (λ alternative. greatest_of (satisfiers source place.arch alternative)) (first_satisfied source place.arch place.group)

-- the first place that is open
abbrev pub open_place : PullFlags → List (List ℕ) → List Card → List Card → List Card → Option Place
open_place flags archs base source taken = find (is_open base source taken) (places flags archs taken)

-- what is taken next, sought from the first place on
abbrev pub next : PullFlags → List (List ℕ) → List Card → List Card → List Card → Option Card
next flags archs base source taken = option_and_then (picked source) (open_place flags archs base source taken)
