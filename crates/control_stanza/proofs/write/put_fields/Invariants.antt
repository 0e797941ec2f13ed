use Rattle.std.proofs.Common.{◌≡◌, ◌++◌, drop, take, length}
use Rattle.control_stanza.specs.Written.{stanza_text}
use Rattle.control_stanza.proofs.write.put_fields.Given as goal

abbrev pub invariant-loop-field : goal.invariant-loop-field
invariant-loop-field l = (take (length l.initial.out.items) l.out.items ≡ l.initial.out.items) × (l.out.items ++ stanza_text (drop l.field-index l.fields) ≡ l.initial.out.items ++ stanza_text l.fields)
