use Rattle.catalogue_lines.proofs.ValueLemmas.{at_default, at_some}
use Rattle.catalogue_text.proofs.MirrorParts.{place_first, place_second}
use Rattle.catalogue_text.proofs.mirrors.read_place.Goals as goal

pub returns-in_default-clause-stops : goal.returns-in_default-clause-stops
returns-in_default-clause-stops c = place_first c.args.text.now (at_default _ _ _ c.in_ok-archive.ensures c.in_default.not-Some)

pub returns-in_default-2-clause-stops : goal.returns-in_default-2-clause-stops
returns-in_default-2-clause-stops c =
    place_second c.args.text.now c.in-Some.rest.now c.in-Some.archive (at_some _ _ _ _ c.in_ok-archive.ensures c.in-Some.is) (at_default _ _ _ c.in_ok-distribution.ensures c.in_default-2.not-Some)
