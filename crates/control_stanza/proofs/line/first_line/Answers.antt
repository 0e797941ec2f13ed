use Rattle.std.proofs.Common.{◌∷◌, ◌+◌, sym, ap, ◌∙◌, arith, length, add-one}
use Rattle.std.proofs.lemmas.List.{nil_from_length, length-drop, length-take}
use Rattle.std.proofs.lemmas.Bool.Decides.{nat_tests}
use Rattle.control_stanza.specs.Lines.{lines_of}
use Rattle.control_stanza.proofs.LineLemmas.{line_then, line_alone, first_of_drop}
use Rattle.control_stanza.proofs.line.first_line.Goals as goal

pub returns-in-None : goal.returns-in-None
returns-in-None c =
    let nil = nil_from_length _ c.in-None.ensures.cases in
    let h = line_alone c.args.text.now c.line_end-end.result (sym c.split_at.ensures.back ∙ nil) (λ e. let z = ap length e in grind (arith, nat_tests)) c.line_end-end.ensures.front in (
      h.0 ∙ ap (λ l. c.args.text.now ∷ lines_of l) (sym nil),
      h.1 ∙ sym c.split_at.ensures.front,
      omega (arith, ap length nil),
      grind (arith, nat_tests),
    )

pub returns-in-Some : goal.returns-in-Some
returns-in-Some c =
    let behind = sym c.split_at.ensures.back ∙ c.in-Some.ensures.cases.0 in
    let p = first_of_drop c.args.text.now c.line_end-end.result c.in-Some.field-0-0.now c.in-Some.more.now behind in
    let h = line_then c.args.text.now c.line_end-end.result c.in-Some.field-0-0.now c.in-Some.more.now behind (sym p.1 ∙ c.line_end-end.ensures.at p.0) c.line_end-end.ensures.front in
    let n = c.line_end-end.result in
    let len = length-take (n + 1) c.args.text.now in (
      rw add-one h.0,
      rw add-one h.1 ∙ sym c.split_at.ensures.front,
      omega (arith, len, ap length behind, length-drop n c.args.text.now),
      omega (arith, len, p.0),
    )
