use Rattle.std.proofs.Common.{◌≡◌, ◌↔◌, ◌+◌, ◌++◌, ◌∷◌, [], Some, true, false, take, drop, sym, ◌∙◌, subst, List, Vec, Global, ℕ}
use Rattle.std.proofs.lemmas.Slice.Eq.{bytes_eq-Decides}
use Rattle.ap_host.specs.Disk.{Path}
use Rattle.ap_host.specs.Names.{IsOneOf}
use Rattle.ap_host.specs.Table.{Entries, files_of, IsOnce}
use Rattle.ap_host.proofs.ListLemmas.{took, round}
use Rattle.ap_host.proofs.HolderLemmas.{holders_more, holders_same, front_free}
use Rattle.ap_host.proofs.holders.holders_of.Goals as goal
use Rattle.ap_host.proofs.holders.holders_of.Goals.{then-eq+in_ok-add_path, else-eq}

pub loop-e-preserved : goal.loop-e-preserved
loop-e-preserved c =
    let es = c.args.table.now in
    let i = c.loop-e.e-index in
    let e = c.e-item.result in
    let bytes = c.args.bytes.now in
    let next = took es i e c.loop-e-test.true c.e-item.is in
    let free = front_free (take i es) (drop (i + 1) es) e (subst (λ (l : Entries). IsOnce l) (round es i e c.loop-e-test.true c.e-item.is) c.requires) in
    let tells = bytes_eq-Decides c.as_slice.result.now bytes in
    subst (λ (l : Entries). (q : Path) → IsOneOf q c.if-eq.held.items ↔ (files_of l q ≡ Some bytes)) (sym next) (elim c.if-eq.branch [
      | then-eq+in_ok-add_path w ↦
          subst (λ (v : Vec (List ℕ) Global). (q : Path) → IsOneOf q v.items ↔ (files_of (take i es ++ e ∷ []) q ≡ Some bytes)) (sym w.held-is)
          (holders_more (take i es) e bytes c.loop-e.held.items w.add_path.new.held.items free (sym c.as_slice.ensures ∙ tells.0 (sym c.eq.ensures ∙ w.if-eq.true)) w.in_ok-add_path.ensures c.loop-e.invariant)
      | else-eq w ↦
          subst (λ (v : Vec (List ℕ) Global). (q : Path) → IsOneOf q v.items ↔ (files_of (take i es ++ e ∷ []) q ≡ Some bytes)) (sym w.held-is)
          (holders_same (take i es) e bytes c.loop-e.held.items free (λ is. let no : true ≡ false = sym (tells.1 (c.as_slice.ensures ∙ is)) ∙ sym c.eq.ensures ∙ w.if-eq.false in cc) c.loop-e.invariant)
    ])
