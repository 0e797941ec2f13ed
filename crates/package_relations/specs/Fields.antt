-- What a package asks for and gives by its relation fields (Debian Policy 7.2, 7.5). A field that isn't readable counts as
-- empty, as one that isn't there does.
use Rattle.std.specs.Prelude.{ℕ, List, [], codes, unwrap_or}
use Rattle.std.specs.Option.{option_and_then}
use Rattle.control_stanza.specs.Fields.{value_of}
use Rattle.depends_field.specs.declared.alternative.Alternative.{Alternative}
use Rattle.depends_field.specs.Field.{depends_in, provides_in}
use Rattle.package_core.specs.Card.{Card}
use Rattle.package_relations.specs.declared.fields.RelationField.{RelationField}
use Rattle.package_relations.specs.declared.fields.RelationField.TheVariants.{PreDepends, Depends, Recommends, Suggests}

-- what a relation field is called
abbrev pub field_name : RelationField → List ℕ
field_name PreDepends = codes "Pre-Depends"
field_name Depends = codes "Depends"
field_name Recommends = codes "Recommends"
field_name Suggests = codes "Suggests"

-- the groups that the package asks for by the field
unfoldable pub groups_of : Card → RelationField → List (List Alternative)
groups_of p field = unwrap_or (option_and_then depends_in (value_of p.stanza (field_name field))) []

-- what the package provides
unfoldable pub provided : Card → List Alternative
provided p = unwrap_or (option_and_then provides_in (value_of p.stanza (codes "Provides"))) []
