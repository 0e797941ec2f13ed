-- Commands that ask a query.
use Rattle.std.proofs.Common.{◌≡◌, ◌≢◌, ◌⊎◌, ℕ, List, [], ◌∷◌, Option, Some, None, Result, Ok, Err, inl, inr, refl, sym, ap, ◌∙◌}
use Rattle.std.specs.Option.{IfSome}
use Rattle.package_core.specs.Card.{Card}
use Rattle.query_tree.specs.Tree.{Tree}
use Rattle.query_grammar.specs.Said.{query_of}
use Rattle.machine_state.specs.declared.change.Change.{Change}
use Rattle.machine_state.specs.declared.refusal.Refusal.{Refusal}
use Rattle.machine_state.specs.declared.arrived.Arrived.{Arrived}
use Rattle.machine_state.specs.Values.{StateView}
use Rattle.step_model.specs.declared.reading.Reading.TheVariants as readings
use Rattle.step_model.specs.Answers.{AreBuilt, came, ComesTo, IsRefusedFor, IsWanted, QueriesRefuse}
use Rattle.step_model.specs.Case.{or_else, bad_query, changes}
use Rattle.step_model.specs.Lawful.{IsLawful, IsOwn}
use Rattle.step_model.specs.Queries.{found_by}
use Rattle.step_model.specs.Refuses.{Refuses}
use Rattle.step_model.proofs.RefusalLemmas.{goes_on, reads_on, refuses_first, refuses_for}
use Rattle.step_model.proofs.StepLemmas.{from_known}
use Rattle.machine_step.specs.Step.{asking}

pub asking_goes : (state : StateView) (query : List ℕ) (say : List Card → List ℕ) → AreBuilt (query ∷ []) → Refuses None (asking state query say) None
asking_goes state query say h = goes_on None (asking state query say) h.0 h.1 refl

pub asking_wanted : (state : StateView) (query : List ℕ) (say : List Card → List ℕ) → AreBuilt (query ∷ []) → IsWanted None (asking state query say) readings.Nothing
asking_wanted state query say h = (asking_goes state query say h, sym (reads_on (asking state query say) h.0 refl))

pub asking_refuses : (large : Option (List ℕ)) (state : StateView) (query : List ℕ) (say : List Card → List ℕ) (refusal : Refusal) → QueriesRefuse large (query ∷ []) refusal → Refuses large (asking state query say) (Some refusal)
asking_refuses large state query say refusal (inl e) = refuses_first large (asking state query say) refusal e
asking_refuses large state query say refusal (inr h) = refuses_for large (asking state query say) refusal h.0 h.1

pub asking_refused : (large : Option (List ℕ)) (state : StateView) (query : List ℕ) (say : List Card → List ℕ) (arrived : Arrived) (refusal : Refusal) → QueriesRefuse large (query ∷ []) refusal → IsRefusedFor large (asking state query say) arrived refusal
asking_refused large state query say arrived refusal h = inl (asking_refuses large state query say refusal h)

pub asking_comes : (state : StateView) (query : List ℕ) (say : List Card → List ℕ) (arrived : Arrived) (reply : List ℕ) (found : List Card) → AreBuilt (query ∷ []) → reply ≡ say found → found ≡ found_by state.known (query_of query)
    → ComesTo None (asking state query say) arrived (changes reply state)
asking_comes state query say arrived reply found h r f = (asking_goes state query say h, ap (λ (t : List ℕ). changes t state) (sym (r ∙ ap say f)))

bad_own : (number : ℕ) (r : Result Tree ℕ) → IfSome (or_else (bad_query number r) None) IsOwn
bad_own number (Ok t) = tt
bad_own number (Err place) = tt

pub asking_lawful : (state : StateView) (May : Arrived → Type 0) (query : List ℕ) (say : List Card → List ℕ) → ((found : List Card) → say found ≢ []) → IsLawful state May (asking state query say)
asking_lawful state May query say some = record {
  valid = λ v early late arrived may. v;
  says = λ arrived. some (found_by state.known (query_of query));
  knows = λ arrived. from_known state arrived;
  early = bad_own 1 (query_of query);
  late = tt;
  comes = λ arrived may. tt;
}
