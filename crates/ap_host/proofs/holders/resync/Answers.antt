use Rattle.std.proofs.Common.{◌≡◌, ◌≢◌, ◌↔◌, true, false, sym, ◌∙◌, subst, List}
use Rattle.ap_host.specs.Disk.{Path}
use Rattle.ap_host.specs.Names.{IsOneOf}
use Rattle.ap_host.specs.Table.{files_of}
use Rattle.ap_host.proofs.ListLemmas.{on_ok}
use Rattle.ap_host.proofs.HolderLemmas.{resynced_yes, resynced_no}
use Rattle.ap_host.proofs.holders.resync.Goals as goal

pub returns-then-holds : goal.returns-then-holds
returns-then-holds c =
    let p = c.args.path.now in
    let mid = c.in_ok-held.field-0.items in
    let others = subst (λ (l : List Path). (q : Path) → IsOneOf q mid ↔ ((q ≢ p) × IsOneOf q l)) c.deref.ensures.value c.in_ok-held.ensures in
    on_ok c.add_path.result (λ each. resynced_yes (files_of c.args.table.now p) c.args.bytes.now p c.args.held.now.items mid c.add_path.new.held.items (c.holds.ensures.0 c.if-holds.true) each others) c.add_path.ensures

pub returns : goal.returns
returns c =
    let p = c.args.path.now in
    let mid = c.in_ok-held.field-0.items in
    let others = subst (λ (l : List Path). (q : Path) → IsOneOf q mid ↔ ((q ≢ p) × IsOneOf q l)) c.deref.ensures.value c.in_ok-held.ensures in
    resynced_no (files_of c.args.table.now p) c.args.bytes.now p c.args.held.now.items mid (λ is. let no : true ≡ false = sym (c.holds.ensures.1 is) ∙ c.if-holds.false in absurd (cc)) others
