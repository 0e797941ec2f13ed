use Rattle.std.specs.Option.{option_map}
use Rattle.query_tree.specs.Tree.{plain}
use Rattle.catalogue_lines.proofs.ReadLemmas.{if_before}
use Rattle.catalogue_text.proofs.MirrorParts.{settings_first, settings_second, settings_third, settings_read}
use Rattle.catalogue_text.proofs.mirrors.read_settings.Goals as goal

pub returns-in-Err-clause-stops : goal.returns-in-Err-clause-stops
returns-in-Err-clause-stops c = if_before _ _ (λ left s. settings_first c.args.text.now left s) c.in-Err.stop c.in-Err.ensures.stops

pub returns-in-Err-read_lists-clause-stops : goal.returns-in-Err-read_lists-clause-stops
returns-in-Err-read_lists-clause-stops c =
    if_before _ _ (λ left s. settings_second c.args.text.now c.in-Ok.place.1.now left (c.in-Ok.place.0.0, c.in-Ok.place.0.1) c.in-Ok.ensures.read s) c.in-Err-read_lists.stop c.in-Err-read_lists.ensures.stops

pub returns-in-Ok-read_choice-clause-read : goal.returns-in-Ok-read_choice-clause-read
returns-in-Ok-read_choice-clause-read c =
    settings_read c.args.text.now c.in-Ok.place.1.now c.in-Ok-read_lists.lists.1.now c.in-Ok-read_choice.rest.now (c.in-Ok.place.0.0, c.in-Ok.place.0.1) (c.in-Ok-read_lists.lists.0.0.items, c.in-Ok-read_lists.lists.0.1.items)
    (option_map plain c.in-Ok-read_choice.choice.0, c.in-Ok-read_choice.choice.1) c.in-Ok.ensures.read c.in-Ok-read_lists.ensures.read c.in-Ok-read_choice.ensures.read

pub returns-in-Err-read_choice-clause-stops : goal.returns-in-Err-read_choice-clause-stops
returns-in-Err-read_choice-clause-stops c =
    if_before _ _ (λ left s. settings_third c.args.text.now c.in-Ok.place.1.now c.in-Ok-read_lists.lists.1.now left (c.in-Ok.place.0.0, c.in-Ok.place.0.1) (c.in-Ok-read_lists.lists.0.0.items, c.in-Ok-read_lists.lists.0.1.items) c.in-Ok.ensures.read c.in-Ok-read_lists.ensures.read s)
    c.in-Err-read_choice.stop c.in-Err-read_choice.ensures.stops
