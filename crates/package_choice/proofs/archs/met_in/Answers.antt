use Rattle.std.proofs.Common.{◌≡◌, ℕ, List, [], IfOk, ap, ◌∙◌, subst}
use Rattle.package_core.specs.Order.{text_cmp}
use Rattle.package_list.specs.Sorted.{union}
use Rattle.package_choice.specs.Choice.{archs_met}
use Rattle.package_choice.proofs.ArchLemmas.{joined_both}
use Rattle.package_choice.proofs.archs.met_in.Goals as goal

pub returns : goal.returns
returns c =
    let base = c.args.base.now in
    let source = c.args.source.now in
    subst (λ (l : List (List ℕ)). IfOk c.names_in.result (λ archs. archs.items ≡ l))
    (c.in_ok-meet_all-2.ensures
    ∙ ap (λ (l : List (List ℕ)). union text_cmp l (archs_met source)) (c.in_ok-meet_all.ensures ∙ ap (λ (l : List (List ℕ)). union text_cmp l (archs_met base)) c.new-set.ensures.empty)
    ∙ joined_both [] base source)
    c.names_in.ensures
