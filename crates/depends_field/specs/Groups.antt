-- The grammar of relation fields (Debian Policy 7.1, 7.5), as a relation from a text to what it says.
use Rattle.std.specs.Prelude.{◌≡◌, ◌⊎◌, ◌++◌, ℕ, List, [], ◌∷◌, Option, Some, None, IsTrue, IsFalse, map}
use Rattle.std.specs.List.{list_all, flat_map, AllZip}
use Rattle.ap_text.specs.Names.{is_package_name, is_architecture}
use Rattle.deb_version.specs.declared.order.Relation.{Relation}
use Rattle.depends_field.specs.declared.alternative.Alternative.{Alternative}
use Rattle.depends_field.specs.declared.phase.Kind.{Kind}
use Rattle.depends_field.specs.declared.phase.Kind.TheVariants.{Depends, Provides}
use Rattle.depends_field.specs.Pieces.{is_blank}
use Rattle.depends_field.specs.Reading.{is_no_qualifier, relation_of, is_allowed, is_version_word}

-- spaces, tabs and line ends alone, or nothing
abbrev pub AllBlank : List ℕ → Type 0
AllBlank text = IsTrue (list_all is_blank text)

-- the first part, and each other part behind the byte
abbrev pub parted_by : ℕ → List ℕ → List (List ℕ) → List ℕ
parted_by byte first others = first ++ flat_map (λ (part : List ℕ). byte ∷ part) others

-- nothing, a colon and what is read as no qualifier, as `:any`, or a colon and an architecture
abbrev pub QualifierText : Kind → List ℕ → Option (List ℕ) → Type 0
QualifierText kind text None = (text ≡ []) ⊎ ((word : List ℕ) × (text ≡ 58 ∷ word) × IsTrue (is_no_qualifier kind word))
QualifierText kind text (Some arch) = (text ≡ 58 ∷ arch) × IsTrue (is_architecture arch) × IsFalse (is_no_qualifier kind arch)

-- in parentheses an operator and a version
pub record Restricts (kind : Kind) (text : List ℕ) (relation : Relation) (version : List ℕ) : Type 0 where
  pub before : List ℕ
  pub operator : List ℕ
  pub between : List ℕ
  pub after : List ℕ
  pub is : text ≡ 40 ∷ (before ++ (operator ++ (between ++ (version ++ (after ++ 41 ∷ [])))))
  pub blank_before : AllBlank before
  pub blank_between : AllBlank between
  pub blank_after : AllBlank after
  pub operator_is : relation_of operator ≡ Some relation
  pub allowed : IsTrue (is_allowed kind relation)
  pub version_is : IsTrue (is_version_word version)

abbrev pub RestrictionText : Kind → List ℕ → Option (Relation × List ℕ) → Type 0
RestrictionText kind text None = text ≡ []
RestrictionText kind text (Some restriction) = Restricts kind text restriction.0 restriction.1

-- a package name, its qualifier, a restriction; blanks may stand around the restriction and at both ends
pub record AlternativeText (kind : Kind) (text : List ℕ) (a : Alternative) : Type 0 where
  pub before : List ℕ
  pub qualifier : List ℕ
  pub between : List ℕ
  pub restriction : List ℕ
  pub after : List ℕ
  pub is : text ≡ before ++ (a.name ++ (qualifier ++ (between ++ (restriction ++ after))))
  pub blank_before : AllBlank before
  pub blank_between : AllBlank between
  pub blank_after : AllBlank after
  pub name_is : IsTrue (is_package_name a.name)
  pub qualifier_is : QualifierText kind qualifier a.arch
  pub restriction_is : RestrictionText kind restriction a.relation

-- one or more alternatives with bars between them; in Provides there is one
pub record GroupText (kind : Kind) (text : List ℕ) (group : List Alternative) : Type 0 where
  pub first : List ℕ
  pub others : List (List ℕ)
  pub is : text ≡ parted_by 124 first others
  pub each : AllZip (AlternativeText kind) (first ∷ others) group
  pub single : kind ≡ Provides → others ≡ []

-- each part is a group, or blank and skipped
abbrev pub PartsText : Kind → List (List ℕ) → List (List Alternative) → Type 0
PartsText kind [] groups = groups ≡ []
PartsText kind (part ∷ parts) groups = (AllBlank part × PartsText kind parts groups) ⊎ ((group : List Alternative) × (more : List (List Alternative)) × (groups ≡ group ∷ more) × GroupText kind part group × PartsText kind parts more)

-- The text says these groups: they stand with commas between them.
pub record Groups (kind : Kind) (text : List ℕ) (groups : List (List Alternative)) : Type 0 where
  pub first : List ℕ
  pub others : List (List ℕ)
  pub is : text ≡ parted_by 44 first others
  pub each : PartsText kind (first ∷ others) groups

-- what Depends and the fields like it say
abbrev pub DependsText : List ℕ → List (List Alternative) → Type 0
DependsText text groups = Groups Depends text groups

-- what Provides says: each alternative is a group of its own
abbrev pub ProvidesText : List ℕ → List Alternative → Type 0
ProvidesText text list = Groups Provides text (map (λ (a : Alternative). a ∷ []) list)
