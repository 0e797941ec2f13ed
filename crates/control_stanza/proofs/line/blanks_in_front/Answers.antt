use Rattle.std.proofs.Common.{◌≡◌, sym, ◌∙◌, arith, ◌+◌, ◌-◌}
use Rattle.control_stanza.proofs.LineLemmas.{blank_small, trim_start_past}
use Rattle.control_stanza.proofs.line.blanks_in_front.Goals as goal

pub loop-n-preserved : goal.loop-n-preserved
loop-n-preserved c =
    let blank = sym c.is_blank.ensures ∙ c.if-not-is_blank.false in (
      sym (trim_start_past c.args.text.now c.loop-n.n (omega arith) blank) ∙ c.loop-n.invariant.0,
      λ _. let e : c.loop-n.n + 1 - 1 ≡ c.loop-n.n = omega arith in rw e (blank_small _ blank),
    )
