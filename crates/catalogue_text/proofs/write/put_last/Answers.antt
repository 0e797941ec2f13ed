use Rattle.catalogue_text.specs.Root.{last_pieces}
use Rattle.catalogue_text.proofs.write.put_last.Goals as goal

pub returns : goal.returns
unfolding last_pieces
returns c = c.put_fixed.ensures
