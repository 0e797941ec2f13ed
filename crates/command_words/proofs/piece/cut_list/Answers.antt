use Rattle.std.proofs.Common.{◌+◌, ◌∙◌, ap, map}
use Rattle.command_words.specs.Commands.{part}
use Rattle.command_words.specs.Cutting.{cutting, one_word_more}
use Rattle.command_words.proofs.Parts.{none_cut, turn}
use Rattle.command_words.proofs.piece.cut_list.Goals as goal

pub loop-i-init : goal.loop-i-init
loop-i-init c = none_cut (record { done = map part c.new.result.items; open_part = part c.empty_piece.result }) c.args.words.now (ap (map part) c.new.ensures.items) c.empty_piece.ensures

pub loop-i-preserved : goal.loop-i-preserved
loop-i-preserved c =
    let word = c.index-words-i.result in
    turn (cutting c.loop-i.cutter) (cutting c.take_word.new.cutter) c.loop-i.i word c.args.words.now c.loop-i-test.true c.index-words-i.is (c.in_ok-take_word.ensures ∙ ap (λ w. one_word_more (cutting c.loop-i.cutter) w (c.loop-i.i + 3)) c.as_str.ensures) ∙ c.loop-i.invariant
