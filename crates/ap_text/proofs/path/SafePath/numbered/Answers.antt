use Rattle.std.proofs.Common.{arith}
use Rattle.ap_text.proofs.JoinLemmas.{safe_numbered}
use Rattle.ap_text.proofs.path.SafePath.numbered.Goals as goal

pub invariant_of-result : goal.invariant_of-result
invariant_of-result c =
    rw (c.in_ok-text.ensures, c.as_str.ensures.text) (safe_numbered c.args.folder.now c.args.number c.as_str.ensures.good c.requires (omega (arith, c.ranges.number)))
