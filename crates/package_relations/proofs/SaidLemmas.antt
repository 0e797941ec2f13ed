-- What a package asks for and provides is what its fields say.
use Rattle.std.proofs.Common.{◌≡◌, ℕ, List, [], codes, Option, Some, None, unwrap_or, refl, ap, ◌∙◌}
use Rattle.std.specs.Option.{option_and_then}
use Rattle.control_stanza.specs.Fields.{value_of}
use Rattle.depends_field.specs.declared.alternative.Alternative.{Alternative}
use Rattle.depends_field.specs.declared.phase.Kind.TheVariants.{Depends}
use Rattle.depends_field.specs.Field.{depends_in, provides_in}
use Rattle.depends_field.specs.Groups.{DependsText, ProvidesText}
use Rattle.depends_field.proofs.Said.{groups_from_said, said_from_groups, said_from_provides_text, provides_text_from_said}
use Rattle.package_core.specs.Card.{Card}
use Rattle.package_relations.specs.declared.fields.RelationField.{RelationField}
use Rattle.package_relations.specs.Fields.{field_name, groups_of, provided}

-- what some reading says of a field's value, if both are there
said_by : {X : Type 0} → (List ℕ → Option (List X)) → Option (List ℕ) → List X
said_by says o = unwrap_or (option_and_then says o) []

said : {X : Type 0} (says : List ℕ → Option (List X)) (o : Option (List ℕ)) (text : List ℕ) (list : List X) → o ≡ Some text → says text ≡ Some list → said_by says o ≡ list
unfolding said_by
said says o text list e is = ap (said_by says) e ∙ ap (λ s. unwrap_or s []) is

absent : {X : Type 0} (says : List ℕ → Option (List X)) (o : Option (List ℕ)) → o ≡ None → said_by says o ≡ []
unfolding said_by
absent says o e = ap (said_by says) e

nothing : {X : Type 0} (o : Option (List X)) → ((list : List X) → o ≡ Some list → ⊥) → unwrap_or o [] ≡ []
nothing None none = refl
nothing (Some list) none = absurd (none list refl)

unreadable : {X : Type 0} (says : List ℕ → Option (List X)) (o : Option (List ℕ)) (text : List ℕ) → o ≡ Some text → ((list : List X) → says text ≡ Some list → ⊥) → said_by says o ≡ []
unfolding said_by
unreadable says o text e none = ap (said_by says) e ∙ nothing (says text) none

pub groups_by_text : (p : Card) (field : RelationField) (text : List ℕ) (groups : List (List Alternative)) → value_of p.stanza (field_name field) ≡ Some text → DependsText text groups → groups_of p field ≡ groups
unfolding groups_of said_by
groups_by_text p field text groups e is = said depends_in (value_of p.stanza (field_name field)) text groups e (said_from_groups Depends text groups is)

pub groups_by_none : (p : Card) (field : RelationField) → value_of p.stanza (field_name field) ≡ None → groups_of p field ≡ []
unfolding groups_of said_by
groups_by_none p field e = absent depends_in (value_of p.stanza (field_name field)) e

pub groups_by_unreadable : (p : Card) (field : RelationField) (text : List ℕ) → value_of p.stanza (field_name field) ≡ Some text → ((groups : List (List Alternative)) → DependsText text groups → ⊥) → groups_of p field ≡ []
unfolding groups_of said_by
groups_by_unreadable p field text e none =
    unreadable depends_in (value_of p.stanza (field_name field)) text e (λ groups is. none groups (groups_from_said Depends text groups is))

pub provided_by_text : (p : Card) (text : List ℕ) (list : List Alternative) → value_of p.stanza (codes "Provides") ≡ Some text → ProvidesText text list → provided p ≡ list
unfolding provided said_by
provided_by_text p text list e is = said provides_in (value_of p.stanza (codes "Provides")) text list e (said_from_provides_text text list is)

pub provided_by_none : (p : Card) → value_of p.stanza (codes "Provides") ≡ None → provided p ≡ []
unfolding provided said_by
provided_by_none p e = absent provides_in (value_of p.stanza (codes "Provides")) e

pub provided_by_unreadable : (p : Card) (text : List ℕ) → value_of p.stanza (codes "Provides") ≡ Some text → ((list : List Alternative) → ProvidesText text list → ⊥) → provided p ≡ []
unfolding provided said_by
provided_by_unreadable p text e none =
    unreadable provides_in (value_of p.stanza (codes "Provides")) text e (λ list is. none list (provides_text_from_said text list is))
