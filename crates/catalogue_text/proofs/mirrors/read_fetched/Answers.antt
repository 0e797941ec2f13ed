use Rattle.catalogue_lines.proofs.ValueLemmas.{at_default, at_some}
use Rattle.catalogue_lines.proofs.ReadLemmas.{if_before}
use Rattle.catalogue_text.proofs.MirrorParts.{dated_first, dated_second}
use Rattle.catalogue_text.proofs.mirrors.read_fetched.Goals as goal

pub returns-in_default-clause-stops : goal.returns-in_default-clause-stops
returns-in_default-clause-stops c = λ apart. dated_first c.args.known.now.list c.args.text.now (at_default _ _ _ c.in_ok-date.ensures c.in_default.not-Some)

pub returns-in-Err-clause-stops : goal.returns-in-Err-clause-stops
returns-in-Err-clause-stops c =
    if_before _ _ (λ left s apart. dated_second c.args.known.now.list c.args.text.now c.in-Some.rest.now left c.in-Some.date (at_some _ _ _ _ c.in_ok-date.ensures c.in-Some.is) (s apart)) c.in-Err.stop c.in-Err.ensures.stops
