use Rattle.std.proofs.Common.{◌≡◌, ℕ, List, None, Some, ap, subst, sym, ◌∙◌}
use Rattle.std.specs.Prelude.{option_map}
use Rattle.machine_state.specs.Named.{changed, named}
use Rattle.machine_state.proofs.NamedLemmas.{changed_none, hit_changed, miss_named}
use Rattle.machine_state.proofs.named.set_named.Goals as goal

pub returns-in-Ok : goal.returns-in-Ok
returns-in-Ok g c = λ change a e.
    let name_of = g.T.Named.name_of in
    let items = c.args.items.now.items in
    let here = subst (λ (n : List ℕ). option_map change (named name_of n items) ≡ Some c.args.item) (sym c.name.ensures) e in
    sym (hit_changed name_of items c.deref.result.now c.deref.ensures.value c.name.result.now a c.in-Ok.place change c.args.item c.in-Ok.ensures.bound c.in-Ok.ensures.found here) ∙ ap (λ (n : List ℕ). changed name_of n change items) c.name.ensures

pub returns-in_default : goal.returns-in_default
returns-in_default g c = λ change a e.
    let name_of = g.T.Named.name_of in
    let items = c.args.items.now.items in
    let none = subst (λ (n : List ℕ). named name_of n items ≡ None) c.name.ensures (miss_named name_of items c.deref.result.now c.deref.ensures.value c.name.result.now a c.in_default.field-0 c.in_default.ensures.found) in
    sym (changed_none name_of (name_of c.args.item) change items none)
