use Rattle.control_stanza.proofs.NameLemmas.{lists_next}
use Rattle.control_stanza.proofs.gathered.list_names.Goals as goal

pub loop-field-preserved : goal.loop-field-preserved
loop-field-preserved c =
    λ above h name. lists_next c.list_name.new.names above c.args.fields.now c.loop-field.field-index c.field-item.result c.loop-field-test.true c.field-item.is (c.in_ok-list_name.ensures _ (c.loop-field.invariant above h)) name
