use Rattle.std.proofs.Common.{◌≡◌, drop, map}
use Rattle.std.specs.Rc.{rc_value}
use Rattle.mirror_ops.specs.Updates.{same_members as same_members_of}
use Rattle.mirror_ops.proofs.updating.same_members.Given as goal

-- those before were equal
abbrev pub invariant-loop-i : goal.invariant-loop-i
invariant-loop-i l = same_members_of (map rc_value l.members) (map rc_value l.others) ≡ same_members_of (drop l.i (map rc_value l.members)) (drop l.i (map rc_value l.others))
