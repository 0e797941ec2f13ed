-- What imports come to, by how they go.
use Rattle.std.proofs.Common.{◌≡◌, ℕ, List, Option, Some, None, false, Bool, inl, inr, sym, ap, ◌∙◌, unwrap_or}
use Rattle.command_value.specs.Plain.{PlainFollow}
use Rattle.package_core.specs.Card.{Card}
use Rattle.machine_state.specs.declared.arrived.Arrived.{Arrived}
use Rattle.machine_state.specs.declared.change.ChangeFault.{ChangeFault}
use Rattle.machine_state.specs.declared.fetched.Fetched.{Fetched}
use Rattle.machine_state.specs.declared.refusal.Refusal.{Refusal}
use Rattle.machine_state.specs.declared.repo.Repo.{Repo}
use Rattle.machine_state.specs.State.{mirror_of, repo_of}
use Rattle.machine_state.specs.Values.{MirrorView, StateView}
use Rattle.mirror_lists.specs.Mirrors.{never_in}
use Rattle.mirror_lists.proofs.MirrorLemmas.{fetched_list_is, never_is}
use Rattle.package_choice.specs.Choice.{chosen_with}
use Rattle.step_model.specs.declared.reading.Reading.TheVariants.{Nothing}
use Rattle.step_model.specs.Answers.{AreBuilt, ComesTo, FaultIs, IsFirst, IsRefusedFor, IsWanted, QueriesRefuse, Told}
use Rattle.step_model.specs.Case.{Case, Came, bad_queries, or_else, refuses}
use Rattle.step_model.specs.Refuses.{Refuses}
use Rattle.step_model.proofs.AskingLemmas.{early_told}
use Rattle.step_model.proofs.FaultLemmas.{fault_map, first_decides, told_fault}
use Rattle.step_model.proofs.RefusalLemmas.{goes_on, reads_on, refuses_first, refuses_for, refuses_late}
use Rattle.repo_packages.specs.PackageCases.{IsJoinRefusal, bad_import, copying, import_case, imported, importing}
use Rattle.repo_packages.proofs.PairLemmas.{joins_refused}

-- what is chosen of the mirror that is found, where it fetched this last
pub imported_is : (state : StateView) (deps : Option Bool) (follow : PlainFollow) (name : List ℕ) (mirror : MirrorView) (fetched : Fetched) (queries : List (List ℕ)) (more : List Card)
    → mirror_of name state.mirrors ≡ Some mirror → mirror.updated ≡ Some fetched → more ≡ chosen_with (unwrap_or deps false) follow fetched.list queries → more ≡ imported state deps follow name queries
imported_is state deps follow name mirror fetched queries more found last e = e ∙ ap (λ (l : List Card). chosen_with (unwrap_or deps false) follow l queries) (sym (fetched_list_is state name mirror found fetched last))

module _ (state : StateView) (dry deps : Option Bool) (follow : PlainFollow) (mirror repo : List ℕ) (queries : List (List ℕ)) where
  abbrev the_case : Case
  the_case = import_case state dry deps follow mirror repo queries

  -- it is refused for what stands before its queries
  pub import_first : (old new : ℕ) (refused : Option (List ℕ)) (fault : ChangeFault) → IsFirst (bad_import state follow mirror repo) fault
      → FaultIs (λ refusal. Told old new refused (λ large. Refuses large (import_case state dry deps follow mirror repo queries) (Some refusal))) fault
  unfolding import_case
  import_first old new refused fault h = early_told old new refused the_case fault (first_decides (bad_import state follow mirror repo) (bad_queries queries) fault h)

  module _ (good : bad_import state follow mirror repo ≡ None) where
    behind : (refusal : Option Refusal) → bad_queries queries ≡ refusal → or_else (bad_import state follow mirror repo) (bad_queries queries) ≡ refusal
    behind refusal h = ap (λ (o : Option Refusal). or_else o (bad_queries queries)) good ∙ h

    -- or for these
    pub import_told : (old new : ℕ) (refused : Option (List ℕ)) (fault : ChangeFault) → FaultIs (λ refusal. Told old new refused (λ large. QueriesRefuse large queries refusal)) fault
        → FaultIs (λ refusal. Told old new refused (λ large. Refuses large (import_case state dry deps follow mirror repo queries) (Some refusal))) fault
    unfolding import_case
    import_told old new refused fault h =
        told_fault old new refused (λ large refusal. QueriesRefuse large queries refusal) (λ large refusal. Refuses large the_case (Some refusal)) fault (λ large refusal q. by_query large refusal q) h
      where
        by_query : (large : Option (List ℕ)) (refusal : Refusal) → QueriesRefuse large queries refusal → Refuses large the_case (Some refusal)
        by_query large refusal (inl b) = refuses_first large the_case refusal (behind (Some refusal) b)
        by_query large refusal (inr h) = refuses_for large the_case refusal (behind None h.0) h.1

    module _ (built : AreBuilt queries) (found : MirrorView) (is : mirror_of mirror state.mirrors ≡ Some found) where
      -- behind its patterns for a mirror that was never updated
      pub import_late : (old new : ℕ) (refused : Option (List ℕ)) (fault : ChangeFault) → IsFirst (never_in found.updated found.name) fault
          → FaultIs (λ refusal. Told old new refused (λ large. Refuses large (import_case state dry deps follow mirror repo queries) (Some refusal))) fault
      unfolding import_case
      import_late old new refused fault h =
          fault_map (λ refusal. never_in found.updated found.name ≡ Some refusal) (λ refusal. Told old new refused (λ large. Refuses large the_case (Some refusal))) fault
          (λ refusal e. (None, tt, refuses_late None the_case refusal (behind None built.0) built.1 (sym (never_is state mirror found is) ∙ e))) h

      module _ (fits : never_in found.updated found.name ≡ None) where
        goes : Refuses None (import_case state dry deps follow mirror repo queries) None
        unfolding import_case
        goes = goes_on None the_case (behind None built.0) built.1 (sym (never_is state mirror found is) ∙ fits)

        pub import_wanted : IsWanted None (import_case state dry deps follow mirror repo queries) Nothing
        unfolding import_case
        import_wanted = (goes, sym (reads_on the_case (behind None built.0) (sym (never_is state mirror found is) ∙ fits)))

        pub import_comes : (arrived : Arrived) (comes : Came) → importing state (unwrap_or dry false) repo (imported state deps follow mirror queries) ≡ comes → ComesTo None (import_case state dry deps follow mirror repo queries) arrived comes
        unfolding import_case
        import_comes arrived comes e = (goes, e)

        -- the packages that can't join are told
        pub import_refused : (old new : ℕ) (refused : Option (List ℕ)) (arrived : Arrived) (fault : ChangeFault) (to : Repo) (more : List Card) → repo_of repo state.repos ≡ Some to → more ≡ imported state deps follow mirror queries
            → FaultIs (IsJoinRefusal to.list more) fault → FaultIs (λ refusal. Told old new refused (λ large. IsRefusedFor large (import_case state dry deps follow mirror repo queries) arrived refusal)) fault
        import_refused old new refused arrived fault to more there chose h =
            fault_map (IsJoinRefusal to.list more) (λ refusal. Told old new refused (λ large. IsRefusedFor large the_case arrived refusal)) fault
            (λ refusal r. (None, tt, inr (import_comes arrived (refuses refusal) (ap (λ (l : List Card). importing state (unwrap_or dry false) repo l) (sym chose) ∙ joins_refused state repo to there more (copying state (unwrap_or dry false) repo more) refusal r)))) h
