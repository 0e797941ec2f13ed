-- What other settings and names of repositories come to, by how it goes.
use Rattle.std.proofs.Common.{◌≡◌, ℕ, List, Option, Some, None, Result, Ok, Err, true≢false, sym, subst, refl, ap, ◌∙◌}
use Rattle.std.specs.Option.{is_some, option_map}
use Rattle.std.specs.Result.{OnOk}
use Rattle.command_value.specs.Plain.{repo_edit, repo_rename, repo_drop}
use Rattle.machine_state.specs.declared.limit.Kind.TheVariants as kinds
use Rattle.machine_state.specs.declared.repo.Repo.{Repo}
use Rattle.machine_state.specs.declared.change.Change.{Change}
use Rattle.machine_state.specs.declared.arrived.Arrived.{Arrived}
use Rattle.machine_state.specs.Ascending.{IsAscending, put}
use Rattle.machine_state.specs.Named.{dropped, put_some, renamed}
use Rattle.machine_state.specs.Sources.{in_use}
use Rattle.machine_state.specs.State.{Valid, repo_cmp, repo_name, repo_of}
use Rattle.machine_state.specs.Values.{StateView}
use Rattle.machine_state.proofs.AscendingLemmas.{filter_ascending}
use Rattle.machine_state.proofs.NamedLemmas.{changed_same, dropped_gone, named_changed, named_has, renamed_has}
use Rattle.step_model.specs.Case.{changes, or_else}
use Rattle.step_model.specs.Names.{bad_name}
use Rattle.step_model.specs.Answers.{came, ComesTo, IsNew}
use Rattle.step_model.proofs.RefusalLemmas.{passes}
use Rattle.local_repo.specs.Replies as own
use Rattle.local_repo.specs.Settings.{edited, SameSettings}
use Rattle.local_repo.specs.Cases.{called, repo_case, repo_renamed_in, taken}
use Rattle.local_repo.proofs.CaseLemmas.{is_free}
use Rattle.repo_packages.specs.PackageCases.{changed_in, unknown}
use Rattle.step_model.proofs.OwnLemmas.{first_none, second_none}
use Rattle.repo_packages.proofs.CaseLemmas.{is_there}

-- ---- other settings
module _ (state : StateView) (comment distribution component : Option (List ℕ)) (repo made : Repo) (is : made ≡ edited comment distribution component repo) where
  abbrev pub edited_state : List ℕ → StateView
  edited_state name = record state { repos = changed_in name (edited comment distribution component) state.repos }

  -- that has its name still
  pub name_stays : (name : List ℕ) → repo_of name state.repos ≡ Some repo → made.name ≡ name
  name_stays name found = ap (λ (r : Repo). r.name) is ∙ named_has repo_name name state.repos repo found

  pub found_still : (name : List ℕ) → repo_of name state.repos ≡ Some repo → repo_of made.name state.repos ≡ Some repo
  found_still name found = subst (λ (n : List ℕ). repo_of n state.repos ≡ Some repo) (sym (name_stays name found)) found

  pub edited_comes : (name : List ℕ) (change : Change) (arrived : Arrived) → (repo_case state (repo_edit comment distribution component name)).early ≡ None → repo_of name state.repos ≡ Some repo
      → came state change ≡ changes (own.repo_edited made.name) (edited_state made.name) → ComesTo None (repo_case state (repo_edit comment distribution component name)) arrived (came state change)
  unfolding repo_case
  edited_comes name change arrived good found e = (
    passes None (repo_case state (repo_edit comment distribution component name)) good refl refl,
    ap (λ (n : List ℕ). changes (own.repo_edited n) (edited_state n)) (sym (name_stays name found)) ∙ sym e,
  )

  module _ (v : Valid state) (found : repo_of made.name state.repos ≡ Some repo) where
    same_repo : SameSettings made repo → edited comment distribution component repo ≡ repo
    same_repo s =
        let g = subst (λ (r : Repo). SameSettings r repo) is s in
        (λ i. record { name = repo.name; comment = g.0 i; distribution = g.1 i; component = g.2 i; list = repo.list })

    -- settings that it has
    pub same_comes : (reply : List ℕ) → reply ≡ own.repo_edited made.name → SameSettings made repo → changes reply state ≡ changes (own.repo_edited made.name) (edited_state made.name)
    same_comes reply e s =
        let stays = changed_same repo_name made.name (edited comment distribution component) state.repos repo v.repos.sorted found (same_repo s) in
        ap (λ (r : List ℕ). changes r state) e ∙ ap (λ (l : List Repo). changes (own.repo_edited made.name) (record state { repos = l })) (sym stays)

    -- settings that it hasn't
    pub edited_new : (new : StateView) → (SameSettings made repo → ⊥) → new ≡ edited_state made.name → IsNew state (Some new)
    edited_new new apart e = λ same. apart (settings (turned same))
      where
        turned : new ≡ state → Some (edited comment distribution component repo) ≡ Some repo
        turned same =
            sym (ap (option_map (edited comment distribution component)) found)
            ∙ sym (named_changed repo_name made.name (edited comment distribution component) (λ r. refl) state.repos)
            ∙ ap (λ (s : StateView). repo_of made.name s.repos) (sym e ∙ same) ∙ found

        settings : Some (edited comment distribution component repo) ≡ Some repo → SameSettings made repo
        settings h =
            let f : edited comment distribution component repo ≡ repo = cc in
            let g : made ≡ repo = is ∙ f in
            (ap (λ (r : Repo). r.comment) g, ap (λ (r : Repo). r.distribution) g, ap (λ (r : Repo). r.component) g)

-- ---- another name

-- one that is taken out, and put back with the other name
pub renamed_as : {X E : Type 0} (before after : List ℕ) (items rest new : List Repo) (repo : Repo) (r : Result X E) → IsAscending repo_cmp items → Some repo ≡ repo_of before items → rest ≡ dropped repo_name before items
    → (IsAscending repo_cmp rest → OnOk r (new ≡ put repo_cmp (called repo after) rest)) → OnOk r (new ≡ renamed repo_name called before after items)
renamed_as before after items rest new repo r a taken others made = by_result r (made (subst (IsAscending repo_cmp) (sym others) (filter_ascending repo_cmp _ items a)))
  where
    by_result : {X E : Type 0} (r : Result X E) → OnOk r (new ≡ put repo_cmp (called repo after) rest) → OnOk r (new ≡ renamed repo_name called before after items)
    by_result (Ok x) e = e ∙ (λ i. put_some repo_name (option_map (λ (x : Repo). called x after) (taken i)) (others i))
    by_result (Err x) e = tt

module _ (state : StateView) (from to before after : List ℕ) (first : before ≡ from) (second : after ≡ to) (new : StateView) (is : new ≡ repo_renamed_in state before after) (good : (repo_case state (repo_rename from to)).early ≡ None) where
  pub renamed_comes : (reply : List ℕ) (arrived : Arrived) → reply ≡ own.repo_renamed before after → ComesTo None (repo_case state (repo_rename from to)) arrived (changes reply new)
  unfolding repo_case
  renamed_comes reply arrived e = (
    passes None (repo_case state (repo_rename from to)) good refl refl,
    (λ i. changes (own.repo_renamed (sym first i) (sym second i)) (repo_renamed_in state (sym first i) (sym second i))) ∙ (λ i. changes (sym e i) (sym is i)),
  )

  pub renamed_new : IsNew state (Some new)
  unfolding repo_case
  renamed_new =
      let names = second_none (bad_name to) (or_else (taken state.repos to) (unknown state.repos from)) (second_none (bad_name from) _ good) in
      let none = is_free state.repos to (first_none (taken state.repos to) (unknown state.repos from) names) in
      let was = is_there state.repos from (second_none (taken state.repos to) (unknown state.repos from) names) in
      let has = renamed_has repo_name called (λ r n. refl) before after state.repos (ap (λ (n : List ℕ). is_some (repo_of n state.repos)) first ∙ was) in
      λ same. absurd (true≢false (sym has ∙ ap (λ (s : StateView). is_some (repo_of after s.repos)) (sym is ∙ same) ∙ ap (λ (n : List ℕ). is_some (repo_of n state.repos)) second ∙ none))

-- ---- no more
module _ (state : StateView) (text name : List ℕ) (called_so : name ≡ text) (new : StateView) (is : new ≡ record state { repos = dropped repo_name name state.repos }) (good : (repo_case state (repo_drop text)).early ≡ None) where
  pub dropped_comes : (reply : List ℕ) (arrived : Arrived) → reply ≡ own.repo_dropped name → ComesTo None (repo_case state (repo_drop text)) arrived (changes reply new)
  unfolding repo_case
  dropped_comes reply arrived e = (
    passes None (repo_case state (repo_drop text)) good refl refl,
    (λ i. changes (own.repo_dropped (sym called_so i)) (record state { repos = dropped repo_name (sym called_so i) state.repos })) ∙ (λ i. changes (sym e i) (sym is i)),
  )

  pub dropped_new : IsNew state (Some new)
  unfolding repo_case
  dropped_new =
      let was = is_there state.repos text (first_none (unknown state.repos text) (in_use kinds.Repo text state.publications) (second_none (bad_name text) _ good)) in
      let gone = ap is_some (dropped_gone repo_name name state.repos) in
      λ same. absurd (true≢false (sym was ∙ ap (λ (n : List ℕ). is_some (repo_of n state.repos)) (sym called_so) ∙ ap (λ (s : StateView). is_some (repo_of name s.repos)) (sym same ∙ is) ∙ gone))
