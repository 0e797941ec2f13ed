use Rattle.std.proofs.Common.{◌≡◌}
use Rattle.machine_state.specs.Sources.{renamed_to}
use Rattle.machine_state.proofs.FrontLemmas.{front_map}
use Rattle.machine_state.proofs.sources.rename_among.Given as goal

abbrev pub invariant-loop-i : goal.invariant-loop-i
invariant-loop-i l = l.sources ≡ front_map (λ source. (source.0, renamed_to l.before l.after source.1)) l.i l.fn.sources
