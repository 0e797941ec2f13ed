use Rattle.std.proofs.Common.{◌++◌, ◌∙◌, ap, codes}
use Rattle.reply_text.specs.Words.{line}
use Rattle.reply_text.specs.Publications.{publication_dropped}
use Rattle.reply_text.proofs.WriteLemmas.{if_ok}
use Rattle.reply_text.proofs.publications.publication_dropped.Goals as goal

-- src/publications.rt:45:1
pub returns : goal.returns
unfolding publication_dropped
returns c =
    let place = c.as_str.ensures.value ∙ c.in_ok-place.ensures in
    let text = c.as_str-2.ensures.value ∙ c.in_ok-text.ensures.ok in
    if_ok c.whole_line.result _ _ (λ made h. h ∙ ap line (text ∙ ap (λ t. codes "Publication " ++ (t ++ codes " dropped.")) place)) c.whole_line.ensures
