use Rattle.machine_state.specs.Words.{yes_or_no}
use Rattle.catalogue_text.specs.MirrorReading.{IsEither}
use Rattle.catalogue_lines.proofs.ValueLemmas.{no_key, no_value}
use Rattle.catalogue_text.proofs.mirror_values.flag_line.Goals as goal

pub returns-in-None : goal.returns-in-None
returns-in-None c = no_key yes_or_no IsEither c.args.text.now c.args.key.now c.in-None.ensures

pub returns-in-None-flag_of : goal.returns-in-None-flag_of
returns-in-None-flag_of c = no_value yes_or_no IsEither c.args.text.now c.args.key.now c.in-Some.written.now c.in-Some.rest.now c.in-Some.ensures (λ is g. c.in-None-flag_of.ensures is)
