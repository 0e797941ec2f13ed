use Rattle.catalogue_lines.proofs.SharedValues.{no_path}
use Rattle.catalogue_lines.proofs.shared_values.path_of_bytes.Goals as goal

pub returns-in-None : goal.returns-in-None
returns-in-None c = no_path c.args.most c.args.bytes.now c.in-None.ensures
