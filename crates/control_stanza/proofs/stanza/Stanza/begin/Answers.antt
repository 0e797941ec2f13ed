use Rattle.control_stanza.proofs.FieldLemmas.{stanza_one}
use Rattle.control_stanza.proofs.stanza.Stanza.begin.Goals as goal

pub invariant_of-result : goal.invariant_of-result
invariant_of-result c = rw (c.in_ok-push.ensures.items, c.new-fields.ensures.items) (stanza_one _ c.requires)
