use Rattle.std.proofs.Common.{List, take, sym, subst}
use Rattle.ap_host.specs.declared.host.Op.{Op}
use Rattle.ap_host.specs.Table.{files_of}
use Rattle.ap_host.specs.Images.{AreNamed}
use Rattle.ap_host.proofs.ListLemmas.{took}
use Rattle.ap_host.proofs.NameLemmas.{named_more}
use Rattle.ap_host.proofs.names.named_paths.Goals as goal

pub loop-op-preserved : goal.loop-op-preserved
loop-op-preserved c =
    let ops = c.args.ops.now in
    let i = c.loop-op.op-index in
    let op = c.op-item.result in
    subst (λ (l : List Op). AreNamed (record { base = files_of c.args.base.now; ops = l }) c.insert_touched.new.names.items) (sym (took ops i op c.loop-op-test.true c.op-item.is))
    (named_more (files_of c.args.base.now) (take i ops) op c.loop-op.paths.items c.insert_touched.new.names.items c.loop-op.invariant c.in_ok-insert_touched.ensures.ascending c.in_ok-insert_touched.ensures.each)
