use Rattle.std.proofs.Common.{◌≡◌, ◌+◌, ◌-◌, ◌∙◌, ap, arith, subst}
use Rattle.std.specs.Str.{IsCharBoundary}
use Rattle.std.proofs.lemmas.Str.{IsCharBoundary-after_ascii}
use Rattle.package_core.specs.SourceParts.{gaps_before}
use Rattle.package_core.proofs.SourceLemmas.{last_gap}
use Rattle.release_file.specs.Words.{words, starts_gap}
use Rattle.release_file.proofs.WordLemmas.{behind_gaps}
use Rattle.release_file.proofs.words.without_gaps.Goals as goal

pub range_from-requires : goal.range_from-requires
range_from-requires c =
    λ some. let n = c.gaps_in_front-count.result in
    let text = c.args.text.now in
    let e : n - 1 + 1 ≡ n = omega arith in
    let count : n ≡ gaps_before text = c.gaps_in_front-count.ensures.count ∙ ap gaps_before c.as_bytes.ensures.value in
    subst (IsCharBoundary text) e (IsCharBoundary-after_ascii text (n - 1) c.utf8.text (omega arith) (last_gap text n count some))

pub returns-clause-same : goal.returns-clause-same
returns-clause-same c = ap words c.range_from.ensures.value ∙ (behind_gaps c.args.text.now c.gaps_in_front-count.result (c.gaps_in_front-count.ensures.count ∙ ap gaps_before c.as_bytes.ensures.value)).0

pub returns-clause-starts : goal.returns-clause-starts
returns-clause-starts c = ap starts_gap c.range_from.ensures.value ∙ (behind_gaps c.args.text.now c.gaps_in_front-count.result (c.gaps_in_front-count.ensures.count ∙ ap gaps_before c.as_bytes.ensures.value)).1
