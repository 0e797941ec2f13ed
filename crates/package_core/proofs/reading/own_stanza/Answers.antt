use Rattle.package_core.proofs.OwnLemmas.{gone_in_turn}
use Rattle.package_core.proofs.reading.own_stanza.Goals as goal

pub returns-clause-own : goal.returns-clause-own
returns-clause-own c = gone_in_turn c.args.stanza.now _ _ _ _ _ _ _ c.in_ok-own.ensures c.remove.ensures c.remove-2.ensures c.remove-3.ensures c.remove-4.ensures c.remove-5.ensures c.remove-6.ensures
