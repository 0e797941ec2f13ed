use Rattle.catalogue_lines.proofs.ValueLemmas.{at_default, at_some}
use Rattle.catalogue_text.proofs.MirrorParts.{lists_first, lists_second}
use Rattle.catalogue_text.proofs.mirrors.read_lists.Goals as goal

pub returns-in_default-clause-stops : goal.returns-in_default-clause-stops
returns-in_default-clause-stops c = lists_first c.args.text.now (at_default _ _ _ c.in_ok-components.ensures c.in_default.not-Some)

pub returns-in_default-2-clause-stops : goal.returns-in_default-2-clause-stops
returns-in_default-2-clause-stops c =
    lists_second c.args.text.now c.in-Some.rest.now c.in-Some.components.items (at_some _ _ _ _ c.in_ok-components.ensures c.in-Some.is) (at_default _ _ _ c.in_ok-architectures.ensures c.in_default-2.not-Some)
