use Rattle.std.proofs.Common.{◌≡◌, ◌≢◌, ◌↔◌, ◌++◌, ◌∷◌, [], true, false, take, sym, ◌∙◌, subst, List, Vec, Global, ℕ}
use Rattle.std.proofs.lemmas.List.{take_all}
use Rattle.ap_host.specs.Disk.{Path}
use Rattle.ap_host.specs.Names.{IsOneOf}
use Rattle.ap_host.proofs.ListLemmas.{took}
use Rattle.ap_host.proofs.HolderLemmas.{without_more, without_same}
use Rattle.ap_host.proofs.holders.without.Goals as goal
use Rattle.ap_host.proofs.holders.without.Goals.{then-not-is+in_ok-add_path, else-not-is}

pub loop-h-preserved : goal.loop-h-preserved
loop-h-preserved c =
    let xs = c.args.held.now in
    let i = c.loop-h.h-index in
    let x = c.h-item.result in
    let p = c.args.path.now in
    let next = took xs i x c.loop-h-test.true c.h-item.is in
    subst (λ (l : List Path). (q : Path) → IsOneOf q c.if-not-is.others.items ↔ ((q ≢ p) × IsOneOf q l)) (sym next) (elim c.if-not-is.branch [
      | then-not-is+in_ok-add_path w ↦
          subst (λ (v : Vec (List ℕ) Global). (q : Path) → IsOneOf q v.items ↔ ((q ≢ p) × IsOneOf q (take i xs ++ x ∷ []))) (sym w.others-is)
          (without_more (take i xs) x p c.loop-h.others.items w.add_path.new.held.items (λ is. let no : true ≡ false = sym (c.is.ensures.1 is) ∙ w.if-not-is.true in absurd (cc)) w.in_ok-add_path.ensures c.loop-h.invariant)
      | else-not-is w ↦
          subst (λ (v : Vec (List ℕ) Global). (q : Path) → IsOneOf q v.items ↔ ((q ≢ p) × IsOneOf q (take i xs ++ x ∷ []))) (sym w.others-is)
          (without_same (take i xs) x p c.loop-h.others.items (c.is.ensures.0 w.if-not-is.false) c.loop-h.invariant)
    ])

pub returns : goal.returns
returns c = subst (λ (l : List Path). (q : Path) → IsOneOf q c.loop-h.others.items ↔ ((q ≢ c.args.path.now) × IsOneOf q l)) (take_all c.loop-h.h-index c.args.held.now c.loop-h-test.false) c.loop-h.invariant
