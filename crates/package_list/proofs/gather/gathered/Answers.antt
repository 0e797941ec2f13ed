use Rattle.std.proofs.Common.{sym, ap, ◌∙◌, subst₂, ◌≡◌, ℕ, zero, suc, ◌+◌, List, ◌++◌, ◌∷◌, [], rules, arith, add-one, map, take, drop}
use Rattle.std.specs.Rc.{rc_value}
use Rattle.package_core.specs.Order.{package_cmp}
use Rattle.package_core.specs.Card.{Card}
use Rattle.package_list.specs.Sorted.{put}
use Rattle.package_list.specs.Lists.{joined}
use Rattle.package_list.specs.Answers.{first_refusal, insert_answer, FaultIs}
use Rattle.package_list.proofs.SortedLemmas.{drop_at_member}
use Rattle.package_list.proofs.Gathers.{goes_on, stops_at, union_push}
use Rattle.package_list.proofs.gather.gathered.Goals as goal

taken_on : {X : Type 0} (xs : List X) (i : ℕ) (x : X) (rest : List X) → drop i xs ≡ x ∷ rest → take (suc i) xs ≡ take i xs ++ x ∷ []
taken_on [] zero x rest e = cc
taken_on [] (suc i) x rest e = cc
taken_on (y ∷ ys) zero x rest e = let s : y ≡ x = cc in ap (λ z. z ∷ []) s
taken_on (y ∷ ys) (suc i) x rest e = ap (λ l. y ∷ l) (taken_on ys i x rest e)

pub loop-package-preserved : goal.loop-package-preserved
loop-package-preserved c =
    let i = c.loop-package.package-index in
    let all : List Card = map rc_value c.args.packages.now in
    let x : Card = c.package-item.result.value in
    let same : c.new.result ≡ x = c.new.ensures ∙ c.in_ok-clone.ensures.cases in
    let here : drop i all ≡ x ∷ drop (i + 1) all = drop_at_member rc_value c.args.packages.now i c.package-item.result (omega arith) c.package-item.is in
    let took : take (i + 1) all ≡ take i all ++ x ∷ [] = ap (λ n. take n all) (add-one i) ∙ taken_on all i x (drop (i + 1) all) here in (
      c.in_ok-gather_one.ensures.ok ∙ (λ k. put package_cmp (c.loop-package.invariant.0 k) (same k)) ∙ sym (union_push package_cmp [] (take i all) x) ∙ ap joined (sym took),
      ap (λ l. first_refusal l (drop (i + 1) all)) took ∙ goes_on (take i all) (drop (i + 1) all) x _ _ (ap (first_refusal (take i all)) (sym here) ∙ c.loop-package.invariant.1) ((λ k. insert_answer (sym c.loop-package.invariant.0 k) (sym same k)) ∙ c.in_ok-gather_one.ensures.answer),
    )

pub returns-in_err-gather_one : goal.returns-in_err-gather_one
returns-in_err-gather_one c =
    let i = c.loop-package.package-index in
    let all : List Card = map rc_value c.args.packages.now in
    let x : Card = c.package-item.result.value in
    let same : c.new.result ≡ x = c.new.ensures ∙ c.in_ok-clone.ensures.cases in
    let here : drop i all ≡ x ∷ drop (i + 1) all = drop_at_member rc_value c.args.packages.now i c.package-item.result (omega arith) c.package-item.is in
    let stop = stops_at (take i all) (drop (i + 1) all) _ x c.in_err-gather_one.field-0.0 (ap (first_refusal (take i all)) (sym here) ∙ c.loop-package.invariant.1) (subst₂ (λ l p. FaultIs c.in_err-gather_one.field-0.0 (insert_answer l p)) c.loop-package.invariant.0 same c.in_err-gather_one.ensures.answer) in
    search (stop, rules)
