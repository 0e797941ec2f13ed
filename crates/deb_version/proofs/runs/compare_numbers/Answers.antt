use Rattle.std.proofs.Common.{◌∙◌}
use Rattle.std.specs.Ordering.{nat_cmp}
use Rattle.deb_version.proofs.Numbers.{numbers_same, numbers_other}
use Rattle.deb_version.proofs.runs.compare_numbers.Goals as goal

pub returns-then-a-b : goal.returns-then-a-b
returns-then-a-b c =
    let a = c.without_zeros-a in
    let b = c.without_zeros-b in
    c.cmp.ensures ∙ numbers_other a.result.now b.result.now a.ensures.digits b.ensures.digits a.ensures.front b.ensures.front c.if-a-b.true ∙ (λ i. nat_cmp (a.ensures.value i) (b.ensures.value i))

pub returns : goal.returns
returns c =
    let a = c.without_zeros-a in
    let b = c.without_zeros-b in
    c.cmp-2.ensures ∙ numbers_same a.result.now b.result.now a.ensures.digits b.ensures.digits c.if-a-b.false ∙ (λ i. nat_cmp (a.ensures.value i) (b.ensures.value i))
