use Rattle.std.proofs.Common.{◌≡◌, ◌<◌, ◌≤◌, Some, length, sym, ap, ◌∙◌, arith, subst, Result, List, ℕ}
use Rattle.std.specs.Option.{option_map}
use Rattle.std.specs.Fmt.{decimal}
use Rattle.machine_state.specs.declared.limit.Limit.TheVariants.{Index}
use Rattle.machine_state.specs.Limits.{limit_number}
use Rattle.machine_state.specs.declared.refusal.Refusal.{Refusal}
use Rattle.package_intake.specs.Steps.{Gives}
use Rattle.package_intake.proofs.IndexLemmas.{stated_large, stated_other, stated_read}
use Rattle.package_intake.proofs.FaultLemmas.{sizes_input, sizes_file}
use Rattle.package_intake.proofs.TakenLemmas.{tells_gives}
use Rattle.package_intake.proofs.index.read_stated.Goals as goal

pub returns-then-said-number-clause-told : goal.returns-then-said-number-clause-told
returns-then-said-number-clause-told g c f e =
    let there : Some c.in-Some.size ≡ option_map length (f c.args.path.now) = sym c.in-Some.is ∙ c.in_ok-size.ensures.told f e in
    let large : limit_number Index < c.args.said.now.size = omega (arith, c.if-said-number.true, c.number.ensures) in
    tells_gives c.over.result _ _ c.over.ensures (stated_large c.args.path.now c.args.said.now (f c.args.path.now) c.in-Some.size there large)

pub returns-then-size-said-clause-told : goal.returns-then-size-said-clause-told
returns-then-size-said-clause-told g c f e =
    let there : Some c.in-Some.size ≡ option_map length (f c.args.path.now) = sym c.in-Some.is ∙ c.in_ok-size.ensures.told f e in
    let small : c.args.said.now.size ≤ limit_number Index = omega (arith, c.if-said-number.false, c.number.ensures) in
    tells_gives c.other_size.result _ _ c.other_size.ensures (stated_other c.args.path.now c.args.said.now (f c.args.path.now) c.in-Some.size there small c.if-size-said.true)

pub returns-then-size-said-clause-fault : goal.returns-then-size-said-clause-fault
returns-then-size-said-clause-fault g c = sizes_input c.args.path.now c.args.said.now.size c.in-Some.size _ (λ is. c.if-size-said.true (sym is)) c.other_size.ensures

pub returns-then-size-said-clause-mismatch : goal.returns-then-size-said-clause-mismatch
returns-then-size-said-clause-mismatch g c = sizes_file c.args.path.now c.args.said.now c.in-Some.size _ (λ is. c.if-size-said.true (sym is)) c.other_size.ensures

pub returns-clause-told : goal.returns-clause-told
returns-clause-told g c f e =
    let there : Some c.in-Some.size ≡ option_map length (f c.args.path.now) = sym c.in-Some.is ∙ c.in_ok-size.ensures.told f e in
    let small : c.args.said.now.size ≤ limit_number Index = omega (arith, c.if-said-number.false, c.number.ensures) in
    let is = stated_read c.args.path.now c.args.said.now (f c.args.path.now) c.in-Some.size c.in_ok-bytes.bytes there small (c.in_ok-bytes.ensures.told f (c.in_ok-size.ensures.map ∙ e)) in
    subst (λ (r : Result (List ℕ) Refusal). Gives c.agreed.result r) (sym is) c.agreed.ensures.answer
