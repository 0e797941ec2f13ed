-- Laws of the cases of repositories.
use Rattle.std.proofs.Common.{◌≢◌, ℕ, List, [], Option, Some, None, Bool, false, inl, inr, unwrap_or}
use Rattle.command_value.specs.Plain.{PlainFollow, RepoCommand, repo_create, repo_add, repo_list, repo_show, repo_edit, repo_remove, repo_copy, repo_move, repo_import, repo_rename, repo_drop}
use Rattle.machine_state.specs.declared.repo.Repo.{Repo}
use Rattle.machine_state.specs.declared.arrived.Arrived.{Arrived}
use Rattle.machine_state.specs.State.{Valid, repo_of}
use Rattle.machine_state.specs.Values.{StateView}
use Rattle.reply_text.specs.Replies as replies
use Rattle.step_model.specs.Case.{changes, plain_case}
use Rattle.step_model.specs.Lawful.{CommandLaw, IfChanges, IfRefuses, IsFrom, IsLawful}
use Rattle.step_model.specs.Refuses.{IsReadable, reading}
use Rattle.step_model.proofs.OwnLemmas.{OwnOr}
use Rattle.step_model.proofs.StepLemmas.{from_known}
use Rattle.repo_packages.specs.PackageCases.{KeepsTo, MayArrive, addition_case, bad_repo, copy_case, import_case, move_case, removal_case}
use Rattle.repo_packages.proofs.OwnLemmas.{own_repo}
use Rattle.repo_packages.proofs.ReadLemmas.{nothing_read}
use Rattle.local_repo.specs.Cases.{repo_case, shown}
use Rattle.local_repo.proofs.NameLaws.{create_law, drop_law, edit_law, rename_law}
use Rattle.local_repo.proofs.OwnLemmas.{listed_some, repo_some}

-- ---- what is shown

list_law : (state : StateView) (MayArrive : Arrived → Type 0) → IsLawful state MayArrive (plain_case None (changes (replies.repo_list state.repos) state))
list_law state MayArrive = record {
  valid = λ v early late arrived may. v;
  says = λ arrived. listed_some state.repos;
  knows = λ arrived. from_known state arrived;
  early = tt;
  late = tt;
  comes = λ arrived may. tt;
}

shown_valid : (state : StateView) (name : List ℕ) (packages : Bool) (o : Option Repo) → Valid state → IfChanges (shown state name packages o) (λ reply new. Valid new)
shown_valid state name packages None v = tt
shown_valid state name packages (Some repo) v = v

shown_says : (state : StateView) (name : List ℕ) (packages : Bool) (o : Option Repo) → IfChanges (shown state name packages o) (λ reply new. reply ≢ [])
shown_says state name packages None = tt
shown_says state name packages (Some repo) = repo_some repo packages

shown_knows : (state : StateView) (name : List ℕ) (packages : Bool) (o : Option Repo) (arrived : Arrived) → IfChanges (shown state name packages o) (λ reply new. IsFrom state arrived new)
shown_knows state name packages None arrived = tt
shown_knows state name packages (Some repo) arrived = from_known state arrived

shown_refuses : (state : StateView) (name : List ℕ) (packages : Bool) (o : Option Repo) (arrived : Arrived) → IfRefuses (shown state name packages o) (OwnOr arrived)
shown_refuses state name packages None arrived = inl tt
shown_refuses state name packages (Some repo) arrived = tt

show_law : (state : StateView) (MayArrive : Arrived → Type 0) (name : List ℕ) (packages : Bool) → IsLawful state MayArrive (plain_case (bad_repo state name) (shown state name packages (repo_of name state.repos)))
show_law state MayArrive name packages = record {
  valid = λ v early late arrived may. shown_valid state name packages (repo_of name state.repos) v;
  says = λ arrived. shown_says state name packages (repo_of name state.repos);
  knows = λ arrived. shown_knows state name packages (repo_of name state.repos) arrived;
  early = own_repo state name;
  late = tt;
  comes = λ arrived may. shown_refuses state name packages (repo_of name state.repos) arrived;
}

-- ---- all of them

-- with the laws of the commands on packages
module _ (add : (name folder : List ℕ) → KeepsTo (λ state. addition_case state name folder))
    (remove : (dry : Option Bool) (name : List ℕ) (queries : List (List ℕ)) → KeepsTo (λ state. removal_case state dry name queries))
    (copy : (dry deps : Option Bool) (follow : PlainFollow) (source destination : List ℕ) (queries : List (List ℕ)) → KeepsTo (λ state. copy_case state dry deps follow source destination queries))
    (transfer : (dry deps : Option Bool) (follow : PlainFollow) (source destination : List ℕ) (queries : List (List ℕ)) → KeepsTo (λ state. move_case state dry deps follow source destination queries))
    (imports : (dry deps : Option Bool) (follow : PlainFollow) (mirror repo : List ℕ) (queries : List (List ℕ)) → KeepsTo (λ state. import_case state dry deps follow mirror repo queries)) where
  pub lawful : (c : RepoCommand) → CommandLaw (λ state. repo_case state c) MayArrive
  unfolding repo_case
  lawful (repo_create comment distribution component name) = inr (λ inbox state. create_law state _ comment distribution component name)
  lawful (repo_add name folder) = (add name folder).0
  lawful repo_list = inr (λ inbox state. list_law state _)
  lawful (repo_show packages name) = inr (λ inbox state. show_law state _ name (unwrap_or packages false))
  lawful (repo_edit comment distribution component name) = inr (λ inbox state. edit_law state _ comment distribution component name)
  lawful (repo_rename before after) = inr (λ inbox state. rename_law state _ before after)
  lawful (repo_drop name) = inr (λ inbox state. drop_law state _ name)
  lawful (repo_remove dry name queries) = (remove dry name queries).0
  lawful (repo_copy dry deps follow source destination queries) = (copy dry deps follow source destination queries).0
  lawful (repo_move dry deps follow source destination queries) = (transfer dry deps follow source destination queries).0
  lawful (repo_import dry deps follow mirror repo queries) = (imports dry deps follow mirror repo queries).0

  pub repo_reads : (state : StateView) (c : RepoCommand) → IsReadable (reading (repo_case state c))
  unfolding repo_case
  repo_reads state (repo_create comment distribution component name) = nothing_read _
  repo_reads state (repo_add name folder) = (add name folder).1 state
  repo_reads state repo_list = tt
  repo_reads state (repo_show packages name) = nothing_read _
  repo_reads state (repo_edit comment distribution component name) = nothing_read _
  repo_reads state (repo_remove dry name queries) = (remove dry name queries).1 state
  repo_reads state (repo_copy dry deps follow source destination queries) = (copy dry deps follow source destination queries).1 state
  repo_reads state (repo_move dry deps follow source destination queries) = (transfer dry deps follow source destination queries).1 state
  repo_reads state (repo_rename before after) = nothing_read _
  repo_reads state (repo_drop name) = nothing_read _
  repo_reads state (repo_import dry deps follow mirror repo queries) = (imports dry deps follow mirror repo queries).1 state
