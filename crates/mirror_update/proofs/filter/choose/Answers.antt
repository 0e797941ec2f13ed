use Rattle.std.proofs.Common.{◌≡◌, Bool, None, slice_get, sym, ap, ◌∙◌}
use Rattle.std.specs.List.{filter}
use Rattle.std.proofs.lemmas.Result.{IfOk-weaker}
use Rattle.query_eval.specs.Truth.{matches}
use Rattle.mirror_update.specs.Filter.{chosen_by}
use Rattle.mirror_update.proofs.FilterLemmas.{matching_chosen, needs_chosen, none_chosen}
use Rattle.mirror_update.proofs.filter.choose.Goals as goal

pub returns-in_default : goal.returns-in_default
returns-in_default c tree e =
    let none : slice_get c.args.queries.now 0 ≡ None = sym c.in_default.ensures.value in
    IfOk-weaker c.held.result _ _ (λ found h. h ∙ c.as_slice.ensures ∙ none_chosen c.args.queries.now tree c.args.deps c.args.archs.now c.args.joined e none) c.held.ensures

pub returns-then-deps : goal.returns-then-deps
returns-then-deps c tree e =
    IfOk-weaker c.needed.result _ _
    (λ found h. h ∙ needs_chosen c.args.queries.now c.in-Some.query.now tree c.args.archs.now c.args.joined e (sym c.in-Some.ensures.value) ∙ ap (λ (b : Bool). chosen_by tree b c.args.archs.now c.args.joined) (sym c.if-deps.true))
    c.needed.ensures

pub returns : goal.returns
returns c tree e =
    IfOk-weaker c.matching.result _ _
    (λ found h. h ∙ ap (filter (matches c.in-Some.query.now)) c.as_slice-2.ensures ∙ matching_chosen c.args.queries.now c.in-Some.query.now tree c.args.archs.now c.args.joined e (sym c.in-Some.ensures.value) ∙ ap (λ (b : Bool). chosen_by tree b c.args.archs.now c.args.joined) (sym c.if-deps.false))
    c.matching.ensures
