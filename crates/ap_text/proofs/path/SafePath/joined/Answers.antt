use Rattle.ap_text.proofs.JoinLemmas.{safe_joined}
use Rattle.ap_text.proofs.path.SafePath.joined.Goals as goal

pub invariant_of-result : goal.invariant_of-result
invariant_of-result c =
    rw (c.in_ok-text.ensures, c.as_str.ensures.text, c.as_str-2.ensures.text) (safe_joined c.args.folder.now c.args.rest.now c.as_str.ensures.good c.as_str-2.ensures.good c.requires)
