use Rattle.std.proofs.Common.{◌↔◌, sym, subst, List, OnOk}
use Rattle.ap_host.specs.declared.host.Op.{Op}
use Rattle.ap_host.specs.Disk.{Path}
use Rattle.ap_host.specs.Names.{IsOneOf}
use Rattle.ap_host.specs.Table.{files_of}
use Rattle.ap_host.specs.Drawing.{HoldsAfter}
use Rattle.ap_host.proofs.ListLemmas.{on_ok}
use Rattle.ap_host.proofs.HolderLemmas.{renamed_yes}
use Rattle.ap_host.proofs.holders.note.Goals as goal

pub returns-then-is_among : goal.returns-then-is_among
returns-then-is_among c =
    let old = c.args.held.now.items in
    let new = c.add_path-then-is_among.new.held.items in
    let has = subst (λ (l : List Path). IsOneOf c.in-Rename.from l) c.deref.ensures.value (c.is_among.ensures.0 c.if-is_among.true) in
    subst (λ (op : Op). OnOk c.add_path-then-is_among.result ((q : Path) → IsOneOf q new ↔ HoldsAfter (files_of c.args.table.now) c.args.bytes.now old op q)) (sym c.in-Rename.is)
    (on_ok c.add_path-then-is_among.result (renamed_yes c.in-Rename.from c.in-Rename.to old new has) c.add_path-then-is_among.ensures)

pub returns-in-Create : goal.returns-in-Create
returns-in-Create c = subst (λ (op : Op). OnOk c.add_path.result ((q : Path) → IsOneOf q c.add_path.new.held.items ↔ HoldsAfter (files_of c.args.table.now) c.args.bytes.now c.args.held.now.items op q)) (sym c.in-Create.is) c.add_path.ensures

pub returns-in-Append : goal.returns-in-Append
returns-in-Append c = subst (λ (op : Op). OnOk c.add_path-in-Append.result ((q : Path) → IsOneOf q c.add_path-in-Append.new.held.items ↔ HoldsAfter (files_of c.args.table.now) c.args.bytes.now c.args.held.now.items op q)) (sym c.in-Append.is) c.add_path-in-Append.ensures

pub returns-in-Sync : goal.returns-in-Sync
returns-in-Sync c = subst (λ (op : Op). OnOk c.resync.result ((q : Path) → IsOneOf q c.resync.new.held.items ↔ HoldsAfter (files_of c.args.table.now) c.args.bytes.now c.args.held.now.items op q)) (sym c.in-Sync.is) c.resync.ensures
