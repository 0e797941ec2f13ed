use Rattle.std.proofs.Common.{sym, ◌∙◌, arith}
use Rattle.control_stanza.proofs.LineLemmas.{blank_small, trim_end_past, trim_end_at}
use Rattle.control_stanza.proofs.line.length_without_blanks.Goals as goal

pub loop-n-preserved : goal.loop-n-preserved
loop-n-preserved c =
    let blank = sym c.is_blank.ensures ∙ c.if-is_blank.true in (
      omega arith,
      sym (trim_end_past c.args.text.now c.loop-n.n (omega arith) (omega arith) blank) ∙ c.loop-n.invariant.1,
      λ _. blank_small _ blank,
    )

pub returns-else-is_blank-clause-front : goal.returns-else-is_blank-clause-front
returns-else-is_blank-clause-front c =
    let other = sym c.is_blank.ensures ∙ c.if-is_blank.false in
    sym (trim_end_at c.args.text.now c.loop-n.n (omega arith) (omega arith) other) ∙ c.loop-n.invariant.1
