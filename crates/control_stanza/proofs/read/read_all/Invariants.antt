use Rattle.std.proofs.Common.{◌≡◌, ◌≤◌, ◌+◌, length, None}
use Rattle.control_stanza.specs.Lines.{lines_of}
use Rattle.control_stanza.specs.Reading.{with_ended, stanzas_from, begun_size}
use Rattle.control_stanza.proofs.read.read_all.Given as goal

abbrev pub invariant-loop-cut : goal.invariant-loop-cut
invariant-loop-cut l = record {
  same : with_ended l.done.items (stanzas_from l.bound l.number l.current (lines_of l.rest)) ≡ stanzas_from l.bound 1 None (lines_of l.text);
  few : l.number + length l.rest ≤ length l.text + 1;
  small : begun_size l.current + length l.rest ≤ length l.text;
}

abbrev pub decreases-loop-cut : goal.decreases-loop-cut
decreases-loop-cut l = length l.rest
