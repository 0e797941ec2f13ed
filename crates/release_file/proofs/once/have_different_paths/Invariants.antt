use Rattle.std.proofs.Common.{◌≡◌, [], map, take, true}
use Rattle.std.specs.Ordering.{nat_cmp}
use Rattle.std.specs.Cmp.Lexicographic.{slice_cmp}
use Rattle.package_list.specs.Sorted.{union}
use Rattle.release_file.specs.Release.{are_different, path_of}
use Rattle.release_file.proofs.once.have_different_paths.Given as goal

abbrev pub invariant-loop-file : goal.invariant-loop-file
invariant-loop-file l = (l.seen.keys ≡ union (slice_cmp nat_cmp) [] (map path_of (take l.file-index l.files))) × (are_different (map path_of (take l.file-index l.files)) ≡ true)
