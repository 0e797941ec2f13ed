use Rattle.std.proofs.Common.{arith}
use Rattle.machine_state.specs.Sources.{source_renamed}
use Rattle.machine_state.proofs.FrontLemmas.{all_changed, one_more}
use Rattle.machine_state.proofs.sources.rename_sources.Goals as goal

pub loop-i-preserved : goal.loop-i-preserved
loop-i-preserved c = one_more (source_renamed c.args.kind c.args.before.now c.args.after.now) c.loop-i.i c.args.publications.now c.loop-i.publications c.index-publications-i.result c.rename_in.new.publication c.loop-i.invariant (omega (arith, c.loop-i-test.true)) c.in_ok-rename_in.ensures

pub returns : goal.returns
returns c = all_changed (source_renamed c.args.kind c.args.before.now c.args.after.now) c.loop-i.i c.args.publications.now c.loop-i.publications c.loop-i.invariant (omega (arith, c.loop-i-test.false))
