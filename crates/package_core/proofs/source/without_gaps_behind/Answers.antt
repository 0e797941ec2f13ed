use Rattle.std.proofs.Common.{◌≡◌, ◌∙◌, ap, arith}
use Rattle.package_core.specs.SourceParts.{gaps_behind}
use Rattle.package_core.proofs.SourceLemmas.{first_gap}
use Rattle.package_core.proofs.source.without_gaps_behind.Goals as goal

pub range-requires-clause-end_boundary : goal.range-requires-clause-end_boundary
range-requires-clause-end_boundary c =
    let n = c.gaps_at_end-count.result in
    let text = c.args.text.now in
    let count : n ≡ gaps_behind text = c.gaps_at_end-count.ensures.count ∙ ap gaps_behind c.as_bytes.ensures.value in
    (omega arith, λ inside big. absurd (omega (arith, first_gap text n count (omega arith))))
