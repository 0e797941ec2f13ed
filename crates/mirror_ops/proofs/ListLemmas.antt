-- The texts of a list, one after another.
use Rattle.std.proofs.Common.{◌≡◌, ℕ, ◌+◌, ◌<◌, ◌≤◌, List, [], ◌∷◌, length, drop, get_or, Option, Some, None, sym, ap, ◌∙◌}
use Rattle.std.proofs.lemmas.List.{at_drop_all, at_drop_more}
use Rattle.machine_state.specs.declared.refusal.Refusal.{Refusal}
use Rattle.machine_state.specs.declared.change.ChangeFault.{ChangeFault}
use Rattle.step_model.specs.Answers.{IsFirst}
use Rattle.step_model.specs.Case.{or_else}
use Rattle.step_model.proofs.FaultLemmas.{fault_map}

-- a check of each of a list: the first that finds something decides
module _ (check : List ℕ → Option Refusal) (among : List (List ℕ) → Option Refusal) (nil : among [] ≡ None) (cons : (x : List ℕ) (xs : List (List ℕ)) → among (x ∷ xs) ≡ or_else (check x) (among xs)) (xs : List (List ℕ)) (i : ℕ) where
  -- those before one were good
  abbrev pub GoodBefore : Type 0
  GoodBefore = among xs ≡ among (drop i xs)

  here : (x : List ℕ) → GoodBefore → i < length xs → x ≡ get_or xs i x → among xs ≡ or_else (check x) (among (drop (i + 1) xs))
  here x before l e = before ∙ at_drop_more among xs i x l ∙ cons (get_or xs i x) (drop (i + 1) xs) ∙ ap (λ (y : List ℕ). or_else (check y) (among (drop (i + 1) xs))) (sym e)

  -- one more is good
  pub good_more : (x : List ℕ) → GoodBefore → i < length xs → x ≡ get_or xs i x → check x ≡ None → among xs ≡ among (drop (i + 1) xs)
  good_more x before l e good = here x before l e ∙ ap (λ (o : Option Refusal). or_else o (among (drop (i + 1) xs))) good

  -- or is the first that isn't
  pub first_bad : (x : List ℕ) (fault : ChangeFault) → GoodBefore → i < length xs → x ≡ get_or xs i x → IsFirst (check x) fault → IsFirst (among xs) fault
  first_bad x fault before l e h =
      fault_map (λ refusal. check x ≡ Some refusal) (λ refusal. among xs ≡ Some refusal) fault
      (λ refusal b. here x before l e ∙ ap (λ (o : Option Refusal). or_else o (among (drop (i + 1) xs))) b) h

  -- all are
  pub all_good : GoodBefore → length xs ≤ i → among xs ≡ None
  all_good before l = before ∙ at_drop_all among xs i l ∙ nil
