use Rattle.std.proofs.Common.{arith, sym, ◌∙◌}
use Rattle.std.proofs.lemmas.Fmt.{decimal_injective}
use Rattle.catalogue_lines.proofs.values.count_of.Goals as goal

pub returns-then-count-most : goal.returns-then-count-most
returns-then-count-most c = λ n small e.
    let f = c.ranges.most.fits in
    let same = decimal_injective c.in-Some.count n c.in-Some.ensures.small (omega arith) (sym c.in-Some.ensures.found ∙ e) in
    absurd (omega arith)
