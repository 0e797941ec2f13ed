use Rattle.std.proofs.Common.{arith}
use Rattle.machine_state.specs.Sources.{renamed_to}
use Rattle.machine_state.proofs.FrontLemmas.{all_changed, one_more}
use Rattle.machine_state.proofs.sources.rename_among.Goals as goal

pub loop-i-preserved : goal.loop-i-preserved
loop-i-preserved c = one_more (λ source. (source.0, renamed_to c.args.before.now c.args.after.now source.1)) c.loop-i.i c.args.sources.now c.loop-i.sources c.index-sources-i.result c.rename_one.new.source c.loop-i.invariant (omega (arith, c.loop-i-test.true)) c.in_ok-rename_one.ensures

pub returns : goal.returns
returns c = all_changed (λ source. (source.0, renamed_to c.args.before.now c.args.after.now source.1)) c.loop-i.i c.args.sources.now c.loop-i.sources c.loop-i.invariant (omega (arith, c.loop-i-test.false))
