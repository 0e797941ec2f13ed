use Rattle.std.proofs.Common.{arith, sym, ap, ◌∙◌, length}
use Rattle.std.proofs.lemmas.List.{nil_from_length}
use Rattle.std.proofs.lemmas.Bool.Decides.{nat_tests}
use Rattle.catalogue_lines.proofs.LineLemmas.{line_then, line_alone, first_of_drop}
use Rattle.catalogue_lines.proofs.lines.first_line.Goals as goal

pub returns-in-None : goal.returns-in-None
returns-in-None c =
    let none = c.in-None.ensures.cases in
    line_alone c.args.text.now _ _ c.end_before-end.result c.split_at.ensures.front c.split_at.ensures.back (nil_from_length _ none) (λ e. let z = ap length e in grind (arith, nat_tests)) c.end_before-end.ensures.front

pub returns-in-Some : goal.returns-in-Some
returns-in-Some c =
    let some = c.in-Some.ensures.cases in
    let p = first_of_drop c.args.text.now c.end_before-end.result c.in-Some.field-0-0.now c.in-Some.more.now (sym c.split_at.ensures.back ∙ some.0) in
    line_then c.args.text.now _ _ c.in-Some.more.now c.end_before-end.result c.in-Some.field-0-0.now c.split_at.ensures.front c.split_at.ensures.back some.0 (sym p.1 ∙ c.end_before-end.ensures.at p.0) c.end_before-end.ensures.front
