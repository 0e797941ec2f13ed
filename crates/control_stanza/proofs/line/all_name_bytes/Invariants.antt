use Rattle.std.proofs.Common.{◌≡◌, drop}
use Rattle.std.specs.List.{list_all}
use Rattle.control_stanza.specs.Lines.{is_name_byte}
use Rattle.control_stanza.proofs.line.all_name_bytes.Given as goal

abbrev pub invariant-loop-c : goal.invariant-loop-c
invariant-loop-c l = list_all is_name_byte (drop l.c-index l.text) ≡ list_all is_name_byte l.text
