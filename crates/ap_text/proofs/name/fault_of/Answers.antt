use Rattle.std.proofs.Common.{not, ap, sym}
use Rattle.ap_text.proofs.NameLemmas.{no_name_from_bad_place, name_from_no_bad_place}
use Rattle.ap_text.proofs.name.fault_of.Goals as goal

pub returns-in-Some-clause-good : goal.returns-in-Some-clause-good
returns-in-Some-clause-good c = sym (ap not (no_name_from_bad_place c.args.text.now c.in-Some.place cc))

pub returns-in-None-clause-good : goal.returns-in-None-clause-good
returns-in-None-clause-good c = sym (ap not (name_from_no_bad_place c.args.text.now (rw (← c.as_bytes-bytes.ensures.value) c.if-bytes-gt200.false) cc))
