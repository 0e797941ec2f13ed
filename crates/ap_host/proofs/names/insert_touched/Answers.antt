use Rattle.std.proofs.Common.{◌↔◌, ◌⊎◌, OnOk, sym, subst}
use Rattle.ap_host.specs.declared.host.Op.{Op}
use Rattle.ap_host.specs.Disk.{Path}
use Rattle.ap_host.specs.Names.{IsOneOf}
use Rattle.ap_host.specs.Phases.{Touches}
use Rattle.ap_host.proofs.ListLemmas.{on_ok}
use Rattle.ap_host.proofs.NameLemmas.{renamed_each}
use Rattle.ap_host.proofs.names.insert_touched.Goals as goal

pub returns-in-Create-clause-each : goal.returns-in-Create-clause-each
returns-in-Create-clause-each c = subst (λ (op : Op). OnOk c.insert_copy.result ((q : Path) → IsOneOf q c.insert_copy.new.names.items ↔ (Touches q op ⊎ IsOneOf q c.args.names.now.items))) (sym c.in-Create.is) c.insert_copy.ensures.each

pub returns-in-Append-clause-each : goal.returns-in-Append-clause-each
returns-in-Append-clause-each c = subst (λ (op : Op). OnOk c.insert_copy-in-Append.result ((q : Path) → IsOneOf q c.insert_copy-in-Append.new.names.items ↔ (Touches q op ⊎ IsOneOf q c.args.names.now.items))) (sym c.in-Append.is) c.insert_copy-in-Append.ensures.each

pub returns-in-Sync-clause-each : goal.returns-in-Sync-clause-each
returns-in-Sync-clause-each c = subst (λ (op : Op). OnOk c.insert_copy-in-Sync.result ((q : Path) → IsOneOf q c.insert_copy-in-Sync.new.names.items ↔ (Touches q op ⊎ IsOneOf q c.args.names.now.items))) (sym c.in-Sync.is) c.insert_copy-in-Sync.ensures.each

pub returns-in-Remove-clause-each : goal.returns-in-Remove-clause-each
returns-in-Remove-clause-each c = subst (λ (op : Op). OnOk c.insert_copy-in-Remove.result ((q : Path) → IsOneOf q c.insert_copy-in-Remove.new.names.items ↔ (Touches q op ⊎ IsOneOf q c.args.names.now.items))) (sym c.in-Remove.is) c.insert_copy-in-Remove.ensures.each

pub returns-in_ok-insert_copy-in-Rename-clause-each : goal.returns-in_ok-insert_copy-in-Rename-clause-each
returns-in_ok-insert_copy-in-Rename-clause-each c =
    let new = c.insert_copy-in-Rename-2.new.names.items in
    let old = c.args.names.now.items in
    subst (λ (op : Op). OnOk c.insert_copy-in-Rename-2.result ((q : Path) → IsOneOf q new ↔ (Touches q op ⊎ IsOneOf q old))) (sym c.in-Rename.is)
    (on_ok c.insert_copy-in-Rename-2.result (renamed_each c.in-Rename.from c.in-Rename.to old c.insert_copy-in-Rename.new.names.items new c.in_ok-insert_copy-in-Rename.ensures.each) c.insert_copy-in-Rename-2.ensures.each)
