use Rattle.std.proofs.Common.{◌≡◌, ◌++◌, length}
use Rattle.machine_state.specs.Texts.{AreNames}
use Rattle.machine_state.specs.Words.{names_behind}
use Rattle.catalogue_lines.specs.NameLines.{listed_name}
use Rattle.catalogue_lines.proofs.SharedValues.{AtBlank}
use Rattle.catalogue_lines.proofs.shared_values.names_of.Given as goal

abbrev pub invariant-loop-rest : goal.invariant-loop-rest
invariant-loop-rest l = record {
  good : AreNames (listed_name l.listed) l.names.items;
  written : l.fn.written ≡ names_behind l.names.items ++ l.rest;
  at_blank : AtBlank l.fn.written → AtBlank l.rest;
}

abbrev pub decreases-loop-rest : goal.decreases-loop-rest
decreases-loop-rest l = length l.rest
