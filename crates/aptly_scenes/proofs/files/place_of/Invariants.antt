use Rattle.std.proofs.Common.{◌≡◌, drop}
use Rattle.ap_host.specs.Table.{files_of}
use Rattle.aptly_scenes.proofs.files.place_of.Given as goal

abbrev pub invariant-loop-i : goal.invariant-loop-i
invariant-loop-i l = files_of (drop l.i l.entries) l.path ≡ files_of l.entries l.path
