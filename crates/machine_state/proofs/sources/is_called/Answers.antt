use Rattle.std.specs.Bool.{one_answer}
use Rattle.std.proofs.lemmas.Slice.Eq.{bytes_eq-Decides}
use Rattle.machine_state.proofs.sources.is_called.Goals as goal

pub returns : goal.returns
returns c = one_answer c.is.result _ c.is.ensures (bytes_eq-Decides c.args.source.now.1 c.args.name.now)
