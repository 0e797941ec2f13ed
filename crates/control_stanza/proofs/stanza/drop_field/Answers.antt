use Rattle.std.proofs.Common.{rules}
use Rattle.std.proofs.lemmas.Fn.{filter_same}
use Rattle.control_stanza.specs.Fields.{without_name}
use Rattle.control_stanza.proofs.stanza.drop_field.Goals as goal

pub returns : goal.returns
unfolding without_name
returns c = filter_same _ _ _ (λ x b f' k. search rules) _ _ c.retain.ensures.filtered
