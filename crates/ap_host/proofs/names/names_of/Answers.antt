use Rattle.std.proofs.Common.{◌↔◌, IsSome, take, sym, subst}
use Rattle.ap_host.specs.Disk.{Path}
use Rattle.ap_host.specs.Names.{IsOneOf}
use Rattle.ap_host.specs.Table.{Entries, files_of}
use Rattle.ap_host.proofs.ListLemmas.{took}
use Rattle.ap_host.proofs.NameLemmas.{files_more}
use Rattle.ap_host.proofs.names.names_of.Goals as goal

pub loop-e-preserved : goal.loop-e-preserved
loop-e-preserved c =
    let es = c.args.entries.now in
    let i = c.loop-e.e-index in
    let e = c.e-item.result in (
      c.in_ok-insert_copy.ensures.ascending,
      subst (λ (l : Entries). (q : Path) → IsOneOf q c.insert_copy.new.names.items ↔ IsSome (files_of l q)) (sym (took es i e c.loop-e-test.true c.e-item.is))
          (files_more (take i es) e c.loop-e.names.items c.insert_copy.new.names.items c.in_ok-insert_copy.ensures.each c.loop-e.invariant.1),
    )
