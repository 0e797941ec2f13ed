use Rattle.std.proofs.Common.{sym, ap, ◌∙◌, ◌++◌}
use Rattle.catalogue_lines.proofs.LineLemmas.{behind_some, behind_none}
use Rattle.catalogue_lines.proofs.lines.behind.Goals as goal

pub returns-in-None : goal.returns-in-None
returns-in-None c = λ rest e. behind_none c.args.line.now c.as_bytes.result.now c.in-None.ensures.cases rest (e ∙ ap (λ k. k ++ rest) (sym c.as_bytes.ensures.value))

pub returns-in-Some : goal.returns-in-Some
returns-in-Some c =
    let h = c.in-Some.ensures.cases in
    behind_some c.args.line.now c.as_bytes.result.now c.in-Some.rest.now h.0 h.1 ∙ ap (λ k. k ++ c.in-Some.rest.now) c.as_bytes.ensures.value
