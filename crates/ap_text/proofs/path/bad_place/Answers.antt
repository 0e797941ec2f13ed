use Rattle.std.proofs.Common.{sym, ◌∙◌}
use Rattle.std.proofs.lemmas.List.{take_rest}
use Rattle.ap_text.proofs.PathLemmas.{found_after, later_after}
use Rattle.ap_text.proofs.path.bad_place.Goals as goal

pub returns-in-Some : goal.returns-in-Some
returns-in-Some c =
    found_after c.args.bytes.now _ _ c.loop-start.start _ c.in-Some.place (take_rest c.args.bytes.now c.loop-start.start) c.segment_len-len.ensures (sym c.bad_place_in.ensures ∙ c.in-Some.is) (c.loop-start.invariant.0 c.loop-start-test.true)

pub loop-start-preserved : goal.loop-start-preserved
loop-start-preserved c =
    later_after c.args.bytes.now _ _ c.loop-start.start _ (take_rest c.args.bytes.now c.loop-start.start) c.segment_len-len.ensures (sym c.bad_place_in.ensures ∙ c.in_default.is) c.loop-start-test.true (c.loop-start.invariant.0 c.loop-start-test.true)
