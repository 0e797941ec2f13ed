use Rattle.std.proofs.Common.{◌++◌, List, take}
use Rattle.control_stanza.specs.declared.stanza.Field.{Field}
use Rattle.control_stanza.specs.Names.{Lists}
use Rattle.control_stanza.proofs.gathered.list_names.Given as goal

abbrev pub invariant-loop-field : goal.invariant-loop-field
invariant-loop-field l = (above : List Field) → Lists l.initial.names above → Lists l.names (above ++ take l.field-index l.fields)
