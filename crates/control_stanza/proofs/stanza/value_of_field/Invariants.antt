use Rattle.std.proofs.Common.{◌≡◌, drop}
use Rattle.control_stanza.specs.Fields.{value_of}
use Rattle.control_stanza.proofs.stanza.value_of_field.Given as goal

abbrev pub invariant-loop-field : goal.invariant-loop-field
invariant-loop-field l = value_of (drop l.field-index l.fields) l.name ≡ value_of l.fields l.name
