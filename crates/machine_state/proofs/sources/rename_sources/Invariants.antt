use Rattle.std.proofs.Common.{◌≡◌}
use Rattle.machine_state.specs.Sources.{source_renamed}
use Rattle.machine_state.proofs.FrontLemmas.{front_map}
use Rattle.machine_state.proofs.sources.rename_sources.Given as goal

abbrev pub invariant-loop-i : goal.invariant-loop-i
invariant-loop-i l = l.publications ≡ front_map (source_renamed l.kind l.before l.after) l.i l.fn.publications
