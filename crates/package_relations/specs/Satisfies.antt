-- When a package is what a relation field asks for (Debian Policy 7.1, 7.5).
use Rattle.std.specs.Prelude.{ℕ, Bool, true, false, ◌&&◌, ◌||◌, bytes_eq, List, Option, Some, None, unwrap_or, IsTrue}
use Rattle.std.specs.List.{list_any}
use Rattle.deb_version.specs.declared.order.Relation.{Relation}
use Rattle.deb_version.specs.declared.order.Relation.TheVariants.{Earlier, EarlierEqual, Equal, LaterEqual, Later}
use Rattle.deb_version.specs.VersionOrder.{meets}
use Rattle.depends_field.specs.declared.alternative.Alternative.{Alternative}
use Rattle.package_core.specs.Card.{Card}
use Rattle.package_core.specs.Architecture.{is_for}
use Rattle.package_relations.specs.Fields.{provided}

-- The version stands in the relation that is asked for, if one is.
abbrev pub is_as_asked : List ℕ → Option (Relation × List ℕ) → Bool
is_as_asked version None = true
is_as_asked version (Some (relation, other)) = meets version relation other

-- the version with which something is provided: Provides says `(= version)` or nothing
abbrev pub provided_version : Option (Relation × List ℕ) → Option (List ℕ)
provided_version None = None
provided_version (Some (Equal, version)) = Some version
provided_version (Some (Earlier, version)) = None
provided_version (Some (EarlierEqual, version)) = None
provided_version (Some (LaterEqual, version)) = None
provided_version (Some (Later, version)) = None

-- What is provided without a version is as it is asked for only where no relation is asked for.
abbrev pub is_provided_as_asked : Option (List ℕ) → Option (Relation × List ℕ) → Bool
is_provided_as_asked None None = true
is_provided_as_asked None (Some asked) = false
is_provided_as_asked (Some version) asked = is_as_asked version asked

-- it has the name, and a version as it is asked for
abbrev pub is_itself : Card → List ℕ → Option (Relation × List ℕ) → Bool
is_itself p name asked = bytes_eq p.name name && is_as_asked p.version asked

-- the one item that it provides has the name, and is provided as it is asked for
abbrev pub is_item : List ℕ → Option (Relation × List ℕ) → Alternative → Bool
is_item name asked item = bytes_eq item.name name && is_provided_as_asked (provided_version item.relation) asked

-- Whatever its architecture, it is what is asked for, or provides it.
unfoldable pub is_wanted : Card → List ℕ → Option (Relation × List ℕ) → Bool
is_wanted p name asked = is_itself p name asked || list_any (is_item name asked) (provided p)

-- The package satisfies the alternative for an architecture, or for the alternative's own where it names one.
unfoldable pub satisfies : Card → Alternative → List ℕ → Bool
satisfies p alternative arch = is_for p (unwrap_or alternative.arch arch) && is_wanted p alternative.name alternative.relation

-- the package satisfies some alternative of the group for the architecture
abbrev pub satisfies_group : Card → List Alternative → List ℕ → Bool
satisfies_group p group arch = list_any (λ alternative. satisfies p alternative arch) group

-- some member of the list satisfies some alternative of the group for the architecture
abbrev pub is_satisfied : List Card → List Alternative → List ℕ → Bool
is_satisfied list group arch = list_any (λ p. satisfies_group p group arch) list

abbrev pub Satisfied : List Card → List Alternative → List ℕ → Type 0
Satisfied list group arch = IsTrue (is_satisfied list group arch)
