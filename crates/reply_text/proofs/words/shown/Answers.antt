use Rattle.std.proofs.Common.{rules}
use Rattle.std.proofs.lemmas.Iterator.{YieldsList-from_chars, YieldsList-from_take, YieldsList-from_map, text_from_collect}
use Rattle.reply_text.specs.Words.{shown, shown_char}
use Rattle.reply_text.proofs.words.shown.Goals as goal

pub returns : goal.returns
unfolding shown
returns c =
    text_from_collect c.collect.result c.collect.ensures.ran
    (YieldsList-from_map _ shown_char (YieldsList-from_take 100 (YieldsList-from_chars c.args.text.now c.utf8.text (search rules)) (search rules)) (search rules) (λ x r q k. search rules))
