use Rattle.std.proofs.Common.{◌≡◌, true, false, take, inl, inr, sym, ◌∙◌, refl, subst}
use Rattle.ap_host.specs.Disk.{Path}
use Rattle.std.proofs.Common.{List}
use Rattle.ap_host.specs.Names.{IsOneOf}
use Rattle.ap_host.proofs.ListLemmas.{took}
use Rattle.ap_host.proofs.HolderLemmas.{one_of_push, one_of_index}
use Rattle.ap_host.proofs.holders.is_among.Goals as goal

pub returns-then-is : goal.returns-then-is
returns-then-is c = ((λ t. one_of_index c.args.path.now c.args.held.now c.loop-h.h-index c.h-item.result c.loop-h-test.true c.h-item.is (c.is.ensures.0 c.if-is.true)), (λ t. refl))

pub loop-h-preserved : goal.loop-h-preserved
loop-h-preserved c t =
    let next = took c.args.held.now c.loop-h.h-index c.h-item.result c.loop-h-test.true c.h-item.is in
    elim ((one_of_push c.args.path.now c.h-item.result (take c.loop-h.h-index c.args.held.now)).0 (subst (λ (l : List Path). IsOneOf c.args.path.now l) next t)) [
      | inl is ↦ let no : true ≡ false = sym (c.is.ensures.1 is) ∙ c.if-is.false in absurd (cc)
      | inr there ↦ c.loop-h.invariant there
    ]
