use Rattle.std.proofs.Common.{◌≡◌, drop}
use Rattle.control_stanza.specs.Fields.{has_name}
use Rattle.control_stanza.proofs.stanza.has_field.Given as goal

abbrev pub invariant-loop-field : goal.invariant-loop-field
invariant-loop-field l = has_name (drop l.field-index l.fields) l.name ≡ has_name l.fields l.name
