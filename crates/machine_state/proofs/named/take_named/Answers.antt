use Rattle.std.proofs.Common.{ap, sym, ◌∙◌, Some}
use Rattle.machine_state.proofs.NamedLemmas.{hit_dropped, hit_named, miss_dropped, miss_named}
use Rattle.machine_state.proofs.named.take_named.Goals as goal

pub returns-in-Ok-clause-taken : goal.returns-in-Ok-clause-taken
returns-in-Ok-clause-taken g c = λ a.
    ap Some c.remove.ensures.value ∙ sym (hit_named g.T.Named.name_of c.args.items.now.items c.deref.result.now c.deref.ensures.value c.args.name.now a c.in-Ok.place c.in-Ok.ensures.bound c.in-Ok.ensures.found c.remove.result)

pub returns-in-Ok-clause-rest : goal.returns-in-Ok-clause-rest
returns-in-Ok-clause-rest g c = λ a.
    c.remove.ensures.items ∙ sym (hit_dropped g.T.Named.name_of c.args.items.now.items c.deref.result.now c.deref.ensures.value c.args.name.now a c.in-Ok.place c.in-Ok.ensures.bound c.in-Ok.ensures.found c.remove.result)

pub returns-in-Err-clause-taken : goal.returns-in-Err-clause-taken
returns-in-Err-clause-taken g c = λ a. sym (miss_named g.T.Named.name_of c.args.items.now.items c.deref.result.now c.deref.ensures.value c.args.name.now a c.in-Err.field-0 c.in-Err.ensures.found)

pub returns-in-Err-clause-rest : goal.returns-in-Err-clause-rest
returns-in-Err-clause-rest g c = λ a. sym (miss_dropped g.T.Named.name_of c.args.items.now.items c.deref.result.now c.deref.ensures.value c.args.name.now a c.in-Err.field-0 c.in-Err.ensures.found)
