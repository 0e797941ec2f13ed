use Rattle.ap_host.specs.Table.{files_of}
use Rattle.ap_host.proofs.DrawLemmas.{Drawn}
use Rattle.ap_host.proofs.images.draw.Given as goal

abbrev pub invariant-loop-i : goal.invariant-loop-i
invariant-loop-i l = Drawn (record { base = files_of l.kept; ops = l.ops }) (files_of l.kept) l.choice l.paths l.i l.image.items
