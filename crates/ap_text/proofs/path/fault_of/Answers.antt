use Rattle.std.proofs.Common.{not, ap, sym, ◌∙◌}
use Rattle.ap_text.proofs.SafeLemmas.{safe_from_no_bad_place, not_safe_from_bad_place, not_safe_from_too_long}
use Rattle.ap_text.proofs.path.fault_of.Goals as goal

pub returns-then-is_too_long-clause-good : goal.returns-then-is_too_long-clause-good
returns-then-is_too_long-clause-good c = sym (ap not (not_safe_from_too_long c.args.text.now (rw (← c.as_bytes-bytes.ensures.value) (sym c.is_too_long.ensures ∙ c.if-is_too_long.true))))

pub returns-in-Some-clause-good : goal.returns-in-Some-clause-good
returns-in-Some-clause-good c = sym (ap not (not_safe_from_bad_place c.args.text.now c.in-Some.place (rw (← c.as_bytes-bytes.ensures.value) (sym c.bad_place.ensures ∙ c.in-Some.is))))

pub returns-in-None-clause-good : goal.returns-in-None-clause-good
returns-in-None-clause-good c =
    sym (ap not (safe_from_no_bad_place c.args.text.now (rw (← c.as_bytes-bytes.ensures.value) (sym c.is_too_long.ensures ∙ c.if-is_too_long.false)) (rw (← c.as_bytes-bytes.ensures.value) (sym c.bad_place.ensures ∙ c.in-None.is))))
