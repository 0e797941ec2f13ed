use Rattle.catalogue_lines.proofs.ValueLemmas.{no_name}
use Rattle.catalogue_lines.proofs.values.name_of_bytes.Goals as goal

pub returns-in-None : goal.returns-in-None
returns-in-None c = no_name c.args.bytes.now c.in-None.ensures
