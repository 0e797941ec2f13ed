use Rattle.ap_text.proofs.JoinLemmas.{safe_name}
use Rattle.ap_text.proofs.path.SafePath.of_name.Goals as goal

pub invariant_of-result : goal.invariant_of-result
invariant_of-result c = rw (c.in_ok-text.ensures.ok, c.as_str.ensures.text) (safe_name c.args.name.now c.as_str.ensures.good)
