use Rattle.std.proofs.Common.{ap, ◌∙◌}
use Rattle.control_stanza.specs.Fields.{has_name}
use Rattle.control_stanza.proofs.FieldLemmas.{stanza_push}
use Rattle.control_stanza.proofs.stanza.Stanza.with_field.Goals as goal

pub invariant_of-result : goal.invariant_of-result
invariant_of-result c =
    rw c.in_ok-push.ensures.items (stanza_push _ c.args.field c.self.invariant c.requires.field (ap (λ l. has_name l c.args.field.name) c.self.view_is ∙ c.requires.fresh))
