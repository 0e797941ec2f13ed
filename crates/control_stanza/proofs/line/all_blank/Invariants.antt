use Rattle.std.proofs.Common.{◌≡◌, drop}
use Rattle.std.specs.List.{list_all}
use Rattle.control_stanza.specs.Lines.{is_blank}
use Rattle.control_stanza.proofs.line.all_blank.Given as goal

abbrev pub invariant-loop-c : goal.invariant-loop-c
invariant-loop-c l = list_all is_blank (drop l.c-index l.line) ≡ list_all is_blank l.line
