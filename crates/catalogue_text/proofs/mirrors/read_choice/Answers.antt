use Rattle.std.specs.Option.{option_map}
use Rattle.query_tree.specs.Tree.{plain}
use Rattle.catalogue_lines.proofs.ValueLemmas.{at_default, at_some}
use Rattle.catalogue_text.proofs.MirrorParts.{choice_first, choice_second}
use Rattle.catalogue_text.proofs.mirrors.read_choice.Goals as goal

pub returns-in_default-clause-stops : goal.returns-in_default-clause-stops
returns-in_default-clause-stops c = choice_first c.args.text.now (at_default _ _ _ c.in_ok-filter.ensures c.in_default.not-Some)

pub returns-in_default-flag_line-clause-stops : goal.returns-in_default-flag_line-clause-stops
returns-in_default-flag_line-clause-stops c =
    choice_second c.args.text.now c.in-Some.rest.now (option_map plain c.in-Some.filter) (at_some _ _ _ _ c.in_ok-filter.ensures c.in-Some.is) c.in_default-flag_line.ensures
