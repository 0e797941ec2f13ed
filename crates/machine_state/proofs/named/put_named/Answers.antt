use Rattle.std.proofs.Common.{sym, ◌∙◌}
use Rattle.machine_state.proofs.NamedLemmas.{hit_put, miss_put}
use Rattle.machine_state.proofs.named.put_named.Goals as goal

pub returns-in-Ok-clause-put : goal.returns-in-Ok-clause-put
returns-in-Ok-clause-put g c = λ a.
    sym (hit_put g.T.Named.name_of c.args.items.now.items c.deref.result.now c.deref.ensures.value c.name.result.now a c.in-Ok.field-0 c.args.item c.name.ensures c.in-Ok.ensures.bound c.in-Ok.ensures.found)

pub returns-in_ok-insert-in-Err-clause-put : goal.returns-in_ok-insert-in-Err-clause-put
returns-in_ok-insert-in-Err-clause-put g c = λ a.
    c.in_ok-insert-in-Err.ensures.items ∙ sym (miss_put g.T.Named.name_of c.args.items.now.items c.deref.result.now c.deref.ensures.value c.name.result.now a c.in-Err.place c.args.item c.name.ensures c.in-Err.ensures.bound c.in-Err.ensures.found)
