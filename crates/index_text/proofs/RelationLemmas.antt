-- Relation fields that can be read.
use Rattle.std.proofs.Common.{◌≡◌, ℕ, Bool, true, false, List, codes, Some, Result, Ok, Err, sym, ◌∙◌, IsTrue, ◌↔◌}
use Rattle.std.specs.Result.{IfOk, IfErr}
use Rattle.control_stanza.specs.declared.stanza.Field.{Field}
use Rattle.control_stanza.specs.Fields.{value_of}
use Rattle.depends_field.specs.declared.alternative.Alternative.{Alternative}
use Rattle.depends_field.specs.declared.fault.DependsFault.{DependsFault}
use Rattle.depends_field.specs.declared.fault.DependsFault.TheVariants.{At, OutOfMemory}
use Rattle.depends_field.specs.declared.phase.Kind.{Kind}
use Rattle.depends_field.specs.declared.phase.Kind.TheVariants.{Depends, Provides}
use Rattle.depends_field.specs.Groups.{Groups}
use Rattle.depends_field.specs.Places.{IsFaultAt}
use Rattle.index_text.specs.Index.{IsReadable, IsKnown, HasRelations}

-- what was read can be read, and what has a fault can't
pub known_is : {X : Type 0} (kind : Kind) (text : List ℕ) (seen : X → List (List Alternative)) (r : Result X DependsFault) → IfOk r (λ v. Groups kind text (seen v)) → IfErr r (IsFaultAt kind text) → (b : Bool) → IsKnown r b → IsTrue b ↔ IsReadable kind (Some text)
known_is kind text seen (Ok x) found place b h = (λ t. (seen x, found), λ g. h)
known_is kind text seen (Err (At p)) found place b h = (λ t. absurd (apart (sym t ∙ h)), λ g. absurd (place.unreadable g.0 g.1))
  where
    apart : true ≡ false → ⊥
    apart e = cc
known_is kind text seen (Err OutOfMemory) found place b h = absurd h

pub all_five : (fields : List Field) → IsReadable Depends (value_of fields (codes "Pre-Depends")) → IsReadable Depends (value_of fields (codes "Depends")) → IsReadable Depends (value_of fields (codes "Recommends")) → IsReadable Depends (value_of fields (codes "Suggests")) → (b : Bool) → (IsTrue b ↔ IsReadable Provides (value_of fields (codes "Provides"))) → IsTrue b ↔ HasRelations fields
all_five fields p d r s b h = (λ t. record { pre_depends = p; depends = d; recommends = r; suggests = s; provides = h.0 t }, λ g. h.1 g.provides)
