use Rattle.std.proofs.Common.{◌≡◌, ◌+◌, ◌-◌, ◌∙◌, ap, arith, subst}
use Rattle.std.specs.Str.{IsCharBoundary}
use Rattle.std.proofs.lemmas.Str.{IsCharBoundary-after_ascii}
use Rattle.package_core.specs.SourceParts.{gaps_before}
use Rattle.package_core.proofs.SourceLemmas.{last_gap}
use Rattle.package_core.proofs.source.without_gaps_before.Goals as goal

pub range_from-requires : goal.range_from-requires
range_from-requires c =
    λ some. let n = c.gaps_in_front-count.result in
    let text = c.args.text.now in
    let e : n - 1 + 1 ≡ n = omega arith in
    let count : n ≡ gaps_before text = c.gaps_in_front-count.ensures.count ∙ ap gaps_before c.as_bytes.ensures.value in
    subst (IsCharBoundary text) e (IsCharBoundary-after_ascii text (n - 1) c.utf8.text (omega arith) (last_gap text n count some))
