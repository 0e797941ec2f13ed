use Rattle.control_stanza.proofs.FieldLemmas.{stanza_without}
use Rattle.control_stanza.proofs.stanza.Stanza.remove.Goals as goal

pub invariant_of-self : goal.invariant_of-self
invariant_of-self c = rw c.drop_field.ensures (stanza_without _ c.args.name.now c.self.invariant)
