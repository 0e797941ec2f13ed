use Rattle.std.proofs.Common.{sym, ◌∙◌, rules}
use Rattle.ap_host.proofs.TableLemmas.{place_more}
use Rattle.aptly_scenes.proofs.files.place_of.Goals as goal

pub loop-i-preserved : goal.loop-i-preserved
loop-i-preserved c =
    sym (place_more c.args.entries.now c.loop-i.i c.args.path.now c.index-entries-i.result c.loop-i-test.true c.index-entries-i.is (search (rules))) ∙ c.loop-i.invariant
