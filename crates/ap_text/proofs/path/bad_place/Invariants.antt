use Rattle.std.proofs.Common.{◌≡◌, ◌+◌, ◌-◌, ◌<◌, ◌≤◌, length, drop, None}
use Rattle.ap_text.specs.Paths.{segments, bad_place_from, bad_place_of_path}
use Rattle.ap_text.proofs.path.bad_place.Given as goal

abbrev pub invariant-loop-start : goal.invariant-loop-start
invariant-loop-start l =
    (l.start ≤ length l.bytes → bad_place_of_path l.bytes ≡ bad_place_from l.start (segments (drop l.start l.bytes))) × (length l.bytes < l.start → bad_place_of_path l.bytes ≡ None)

abbrev pub decreases-loop-start : goal.decreases-loop-start
decreases-loop-start l = length l.bytes + 1 - l.start
