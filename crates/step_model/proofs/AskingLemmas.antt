-- Commands that ask queries.
use Rattle.std.proofs.Common.{◌≡◌, ℕ, List, [], ◌∷◌, Option, Some, None, Result, Ok, Err, map, inl, inr, refl, sym, ap, ◌∙◌}
use Rattle.std.specs.Option.{IfSome}
use Rattle.query_tree.specs.Tree.{Tree}
use Rattle.query_grammar.specs.Said.{query_of}
use Rattle.machine_state.specs.declared.change.ChangeFault.{ChangeFault}
use Rattle.machine_state.specs.declared.refusal.Refusal.{Refusal}
use Rattle.machine_state.specs.declared.arrived.Arrived.{Arrived}
use Rattle.step_model.specs.declared.reading.Reading.TheVariants.{Nothing}
use Rattle.step_model.specs.Answers.{AreBuilt, ComesTo, FaultIs, IsFirst, IsRefusedFor, IsWanted, QueriesRefuse, Told}
use Rattle.step_model.specs.Case.{Case, Came, asking_case, bad_behind, bad_queries, bad_query, or_else}
use Rattle.step_model.specs.Lawful.{IsOwn}
use Rattle.step_model.specs.Refuses.{Refuses}
use Rattle.step_model.proofs.FaultLemmas.{fault_map, told_fault}
use Rattle.step_model.proofs.RefusalLemmas.{goes_on, reads_on, refuses_first, refuses_for}

-- no bad query is an own refusal
bad_own : (before : ℕ) (queries : List (Result Tree ℕ)) → IfSome (bad_behind before queries) IsOwn
bad_own before [] = tt
bad_own before (Ok t ∷ queries) = bad_own _ queries
bad_own before (Err place ∷ queries) = tt

pub own_queries : (queries : List (List ℕ)) → IfSome (bad_queries queries) IsOwn
own_queries queries = bad_own 0 (map query_of queries)

module _ (early : Option Refusal) (queries : List (List ℕ)) (came : Came) where
  behind_early : (refusal : Option Refusal) → early ≡ None → bad_queries queries ≡ refusal → or_else early (bad_queries queries) ≡ refusal
  behind_early refusal e h = ap (λ (o : Option Refusal). or_else o (bad_queries queries)) e ∙ h

  pub asking_goes : early ≡ None → AreBuilt queries → Refuses None (asking_case early queries came) None
  asking_goes e h = goes_on None (asking_case early queries came) (behind_early None e h.0) h.1 refl

  pub asking_wanted : early ≡ None → AreBuilt queries → IsWanted None (asking_case early queries came) Nothing
  asking_wanted e h = (asking_goes e h, sym (reads_on (asking_case early queries came) (behind_early None e h.0) refl))

  pub asking_comes : (arrived : Arrived) (comes : Came) → early ≡ None → AreBuilt queries → came ≡ comes → ComesTo None (asking_case early queries came) arrived comes
  asking_comes arrived comes e h is = (asking_goes e h, is)

  -- it is refused for what stands before its queries, or for these
  pub asking_first : (large : Option (List ℕ)) (refusal : Refusal) → early ≡ Some refusal → Refuses large (asking_case early queries came) (Some refusal)
  asking_first large refusal e = refuses_first large (asking_case early queries came) refusal (ap (λ (o : Option Refusal). or_else o (bad_queries queries)) e)

  pub asking_refuses : (large : Option (List ℕ)) (refusal : Refusal) → early ≡ None → QueriesRefuse large queries refusal → Refuses large (asking_case early queries came) (Some refusal)
  asking_refuses large refusal e (inl b) = refuses_first large (asking_case early queries came) refusal (behind_early (Some refusal) e b)
  asking_refuses large refusal e (inr h) = refuses_for large (asking_case early queries came) refusal (behind_early None e h.0) h.1

  -- and so told
  pub first_told : (old new : ℕ) (refused : Option (List ℕ)) (fault : ChangeFault) → IsFirst early fault → FaultIs (λ refusal. Told old new refused (λ large. Refuses large (asking_case early queries came) (Some refusal))) fault
  first_told old new refused fault h =
      fault_map (λ refusal. early ≡ Some refusal) (λ refusal. Told old new refused (λ large. Refuses large (asking_case early queries came) (Some refusal))) fault (λ refusal e. (None, tt, asking_first None refusal e)) h

  pub queries_told : (old new : ℕ) (refused : Option (List ℕ)) (fault : ChangeFault) → early ≡ None → FaultIs (λ refusal. Told old new refused (λ large. QueriesRefuse large queries refusal)) fault
      → FaultIs (λ refusal. Told old new refused (λ large. Refuses large (asking_case early queries came) (Some refusal))) fault
  queries_told old new refused fault e h =
      told_fault old new refused (λ large refusal. QueriesRefuse large queries refusal) (λ large refusal. Refuses large (asking_case early queries came) (Some refusal)) fault (λ large refusal q. asking_refuses large refusal e q) h

-- a refusal before patterns, of any case, is told
pub early_told : (old new : ℕ) (refused : Option (List ℕ)) (case : Case) (fault : ChangeFault) → IsFirst case.early fault → FaultIs (λ refusal. Told old new refused (λ large. Refuses large case (Some refusal))) fault
early_told old new refused case fault h =
    fault_map (λ refusal. case.early ≡ Some refusal) (λ refusal. Told old new refused (λ large. Refuses large case (Some refusal))) fault (λ refusal e. (None, tt, refuses_first None case refusal e)) h

-- what is refused before anything is read is refused whatever arrives
pub refused_told : (old new : ℕ) (refused : Option (List ℕ)) (case : Case) (arrived : Arrived) (fault : ChangeFault) → FaultIs (λ refusal. Told old new refused (λ large. Refuses large case (Some refusal))) fault
    → FaultIs (λ refusal. Told old new refused (λ large. IsRefusedFor large case arrived refusal)) fault
refused_told old new refused case arrived fault h =
    told_fault old new refused (λ large refusal. Refuses large case (Some refusal)) (λ large refusal. IsRefusedFor large case arrived refusal) fault (λ large refusal r. inl r) h
