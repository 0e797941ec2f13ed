use Rattle.std.proofs.Common.{rules, tests, ◌∙◌, ap, length, nat_eq, map-id}
use Rattle.std.proofs.lemmas.Iterator.{YieldsList-from_slice, YieldsList-from_map_by, items_from_drains}
use Rattle.std.proofs.lemmas.Map.Made.{hash_set_len-from_list}
use Rattle.std.specs.Set.{distinct_count}
use Rattle.std.specs.Str.{bytes_eq}
use Rattle.command_table.proofs.Different.{same_text_equiv, distinct_count-shown}
use Rattle.command_table.proofs.flags.are_different.Goals as goal

pub returns : goal.returns
returns c =
    let took = c.in_ok-seen.ensures.ran in
    let shown = items_from_drains took.0 took.1 (YieldsList-from_map_by _ (λ r. r.now) (λ t. t) (YieldsList-from_slice c.args.texts.now cc) c.map.ensures.closure (λ x r q k. search (rules, tests))) in
    let count = hash_set_len-from_list same_text_equiv took.0 c.in_ok-seen.seen took.2 in
    ap (λ n. nat_eq n (length c.args.texts.now)) (c.len.ensures.len ∙ count ∙ distinct_count-shown took.0 ∙ ap (distinct_count bytes_eq) (shown ∙ map-id c.args.texts.now))
