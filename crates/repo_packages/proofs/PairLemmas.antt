-- What removals, copies and moves come to, by how they go.
use Rattle.std.proofs.Common.{◌≡◌, ◌≢◌, ℕ, ◌≤◌, ◌++◌, Bool, true, false, cond, List, [], ◌∷◌, length, Option, Some, None, Result, Ok, IsTrue, is_some, inr, refl, sym, ap, ◌∙◌, subst, unwrap_or, arith}
use Rattle.std.specs.List.{filter, list_any}
use Rattle.std.proofs.lemmas.Bool.{false≢true}
use Rattle.std.specs.Str.{bytes_eq}
use Rattle.std.proofs.lemmas.Slice.Eq.{bytes_eq-Decides}
use Rattle.package_core.specs.Card.{Card}
use Rattle.package_core.proofs.OrderLaws.{package_total}
use Rattle.package_intake.specs.Steps.{or_refused}
use Rattle.package_intake.proofs.ListLemmas.{each_of}
use Rattle.package_list.specs.declared.fault.ListFault.{ListFault}
use Rattle.package_list.specs.Answers.{append_answer}
use Rattle.package_list.specs.Lists.{has_member, union, without}
use Rattle.query_grammar.specs.Said.{query_of}
use Rattle.machine_state.specs.declared.limit.Limit.TheVariants.{Packages}
use Rattle.command_value.specs.Plain.{PlainFollow}
use Rattle.machine_state.specs.declared.arrived.Arrived.{Arrived}
use Rattle.machine_state.specs.declared.change.ChangeFault.{ChangeFault}
use Rattle.machine_state.specs.declared.refusal.Refusal.{Refusal}
use Rattle.machine_state.specs.declared.repo.Repo.{Repo}
use Rattle.machine_state.specs.Lists.{IsNamedList}
use Rattle.machine_state.specs.State.{Valid, repo_of}
use Rattle.machine_state.specs.Values.{StateView}
use Rattle.machine_state.proofs.StayLemmas.{stays_changed}
use Rattle.step_model.specs.declared.reading.Reading.TheVariants.{Nothing}
use Rattle.step_model.specs.Answers.{AreBuilt, ComesTo, FaultIs, IsRefusedFor, IsWanted, QueriesRefuse, Told}
use Rattle.step_model.specs.Case.{Case, Came, changes, refuses}
use Rattle.step_model.specs.Refuses.{Refuses}
use Rattle.step_model.proofs.AskingLemmas.{asking_comes, asking_wanted, queries_told}
use Rattle.step_model.proofs.FaultLemmas.{fault_map}
use Rattle.step_model.specs.Queries.{chosen, is_true_of}
use Rattle.package_intake.specs.Arrival.{list_in, list_of}
use Rattle.repo_packages.specs.PackageCases.{IsJoinRefusal, added_reply, bad_transfer, came_or, chosen_for, chosen_of, copying, joining, listed, moved_reply, moving, pair_case, removal, with_list}
use Rattle.repo_packages.specs.PackageReplies as own
use Rattle.repo_packages.proofs.JoinLemmas.{all_had, found_holds, found_name}
use Rattle.package_intake.proofs.LawLemmas.{union_has}
use Rattle.package_choice.specs.Choice.{chosen_with}
use Rattle.repo_packages.proofs.ListingLemmas.{listed_list, listed_new, listed_same, without_none, without_some}

no_members : (xs : List Card) → length xs ≡ 0 → xs ≡ []
no_members [] e = refl
no_members (x ∷ xs) e = absurd (omega (arith, e))

-- what a query of a command is true of
abbrev is_chosen : List (List ℕ) → Card → Bool
is_chosen queries p = list_any (λ text. is_true_of (query_of text) p) queries

module _ (state : StateView) (name : List ℕ) (repo : Repo) (found : repo_of name state.repos ≡ Some repo) where
  -- the repository that is found has the name, and its list is that of the name
  pub name_is : repo.name ≡ name
  name_is = (bytes_eq-Decides repo.name name).0 (found_name name state.repos repo found)

  pub list_is : list_of state name ≡ repo.list
  list_is = ap list_in found

  left_is : (left gone : List Card) → left ≡ without repo.list gone → left ≡ without (list_of state name) gone
  left_is left gone e = e ∙ ap (λ (l : List Card). without l gone) (sym list_is)

  all_is : (all more : List Card) → all ≡ union repo.list more → all ≡ union (list_of state name) more
  all_is all more e = e ∙ ap (λ (l : List Card). union l more) (sym list_is)

  removed_is : (reply : List ℕ) (left gone : List Card) → left ≡ without repo.list gone → reply ≡ own.repo_removed repo.name (length gone) (length left)
      → reply ≡ own.repo_removed name (length gone) (length (without (list_of state name) gone))
  removed_is reply left gone e r = r ∙ (λ i. own.repo_removed (name_is i) (length gone) (length (left_is left gone e i)))

  added_is : (reply : List ℕ) (all more : List Card) → all ≡ union repo.list more → reply ≡ added_reply repo.name repo.list all → reply ≡ added_reply name (list_of state name) (union (list_of state name) more)
  added_is reply all more e r = r ∙ (λ i. added_reply (name_is i) (sym list_is i) (all_is all more e i))

  -- ---- a removal

  pub removal_dry : (reply : List ℕ) (gone : List Card) → reply ≡ own.dry_run_of gone [] → removal state true name gone ≡ changes reply state
  removal_dry reply gone r = ap (λ (t : List ℕ). changes t state) (sym r)

  pub removal_none : (reply : List ℕ) (left gone : List Card) → Valid state → length gone ≡ 0 → left ≡ without repo.list gone → reply ≡ own.repo_removed repo.name (length gone) (length left) → removal state false name gone ≡ changes reply state
  removal_none reply left gone v none e r =
      let same = listed_same state name (without (list_of state name) gone) repo v.repos.sorted found (sym (left_is left gone e) ∙ e ∙ without_none repo.list gone (no_members gone none)) in
      (λ i. changes (sym (removed_is reply left gone e r) i) (same i))

  pub removal_some : (reply : List ℕ) (left gone : List Card) (new : StateView) → left ≡ without repo.list gone → reply ≡ own.repo_removed repo.name (length gone) (length left) → new ≡ listed state repo.name left
      → removal state false name gone ≡ changes reply new
  removal_some reply left gone new e r is =
      let made : new ≡ listed state name (without (list_of state name) gone) = is ∙ (λ i. listed state (name_is i) (left_is left gone e i)) in
      (λ i. changes (sym (removed_is reply left gone e r) i) (sym made i))

  pub removal_new : (left gone : List Card) (new : StateView) (queries : List (List ℕ)) → left ≡ without repo.list gone → gone ≡ chosen repo.list queries → (length gone ≡ 0 → ⊥) → new ≡ listed state repo.name left → new ≢ state
  removal_new left gone new queries e chose some is same =
      listed_new state name left repo found (λ s. without_some repo.list gone (is_chosen queries) chose (λ none. some (ap length none)) (sym e ∙ s)) (sym (is ∙ ap (λ (n : List ℕ). listed state n left) name_is) ∙ same)

  -- ---- a copy

  -- where a list isn't longer with more, it has all of them
  nothing_more : (all more : List Card) → Valid state → all ≡ union repo.list more → length all ≤ length repo.list → all ≡ repo.list
  nothing_more all more v e few =
      let named = found_holds (λ q. IsNamedList state.known q.list) name state.repos repo v.repos.lists found in
      e ∙ union_has repo.list more named.sorted (each_of (λ p. IsTrue (has_member repo.list p)) more (all_had package_total repo.list more named.sorted (subst (λ (l : List Card). length l ≤ length repo.list) e few)))

  pub copying_none : (reply : List ℕ) (all more : List Card) → Valid state → all ≡ union repo.list more → length all ≤ length repo.list → reply ≡ added_reply repo.name repo.list all → copying state false name more ≡ changes reply state
  copying_none reply all more v e few r =
      let same = listed_same state name (union (list_of state name) more) repo v.repos.sorted found (sym (all_is all more e) ∙ nothing_more all more v e few) in
      (λ i. changes (sym (added_is reply all more e r) i) (same i))

  pub copying_some : (reply : List ℕ) (all more : List Card) (new : StateView) → all ≡ union repo.list more → reply ≡ added_reply repo.name repo.list all → new ≡ listed state repo.name all → copying state false name more ≡ changes reply new
  copying_some reply all more new e r is =
      let made : new ≡ listed state name (union (list_of state name) more) = is ∙ (λ i. listed state (name_is i) (all_is all more e i)) in
      (λ i. changes (sym (added_is reply all more e r) i) (sym made i))

  pub copying_new : (all : List Card) (new : StateView) → (length all ≤ length repo.list → ⊥) → new ≡ listed state repo.name all → new ≢ state
  copying_new all new longer is same =
      listed_new state name all repo found (λ s. longer (omega (arith, ap length s))) (sym (is ∙ ap (λ (n : List ℕ). listed state n all) name_is) ∙ same)

  pub copying_dry : (reply : List ℕ) (more : List Card) → reply ≡ own.dry_run_of [] (without more repo.list) → copying state true name more ≡ changes reply state
  copying_dry reply more r = ap (λ (t : List ℕ). changes t state) (sym (r ∙ ap (λ (l : List Card). own.dry_run_of [] (without more l)) (sym list_is)))

  -- ---- packages that join

  pub joins_refused : (more : List Card) (came : Came) (refusal : Refusal) → IsJoinRefusal repo.list more refusal → joining state name more came ≡ refuses refusal
  joins_refused more came refusal h = ap (λ (r : Result (Unit {0}) Refusal). came_or r came) (ap (λ (l : List Card). or_refused Packages (append_answer l more)) list_is ∙ h)

  pub joins_well : (more : List Card) (came : Came) → append_answer repo.list more ≡ Ok tt → joining state name more came ≡ came
  joins_well more came h = ap (λ (r : Result (Unit {0}) ListFault). came_or (or_refused Packages r) came) (ap (λ (l : List Card). append_answer l more) list_is ∙ h)

-- ---- a move
module _ (state : StateView) (from to : List ℕ) (source destination : Repo) (there : repo_of from state.repos ≡ Some source) (here : repo_of to state.repos ≡ Some destination) where
  pub moving_dry : (reply : List ℕ) (more : List Card) → reply ≡ own.dry_run_of more (without more destination.list) → moving state true from to more ≡ changes reply state
  moving_dry reply more r = ap (λ (t : List ℕ). changes t state) (sym (r ∙ ap (λ (l : List Card). own.dry_run_of more (without more l)) (sym (list_is state to destination here))))

  lines_are : (reply : List ℕ) (all left more : List Card) → all ≡ union destination.list more → left ≡ without source.list more
      → reply ≡ added_reply destination.name destination.list all ++ own.repo_removed source.name (length more) (length left) → reply ≡ moved_reply state from to more
  lines_are reply all left more e f r =
      r ∙ (λ i. added_is state to destination here (added_reply destination.name destination.list all) all more e refl i ++ removed_is state from source there (own.repo_removed source.name (length more) (length left)) left more f refl i)

  pub moving_none : (reply : List ℕ) (all left more : List Card) → Valid state → length more ≡ 0 → all ≡ union destination.list more → left ≡ without source.list more
      → reply ≡ added_reply destination.name destination.list all ++ own.repo_removed source.name (length more) (length left) → moving state false from to more ≡ changes reply state
  moving_none reply all left more v none e f r =
      let empty : more ≡ [] = no_members more none in
      let joined : union (list_of state to) more ≡ destination.list = ap (union (list_of state to)) empty ∙ list_is state to destination here in
      let stays : without (list_of state from) more ≡ source.list = without_none (list_of state from) more empty ∙ list_is state from source there in
      let first : listed state to (union (list_of state to) more) ≡ state = listed_same state to (union (list_of state to) more) destination v.repos.sorted here joined in
      let second : listed state from (without (list_of state from) more) ≡ state = listed_same state from (without (list_of state from) more) source v.repos.sorted there stays in
      (λ i. changes (sym (lines_are reply all left more e f r) i) ((ap (λ (s : StateView). listed s from (without (list_of state from) more)) first ∙ second) i))

  pub moving_some : (reply : List ℕ) (all left more : List Card) (between new : StateView) → all ≡ union destination.list more → left ≡ without source.list more
      → reply ≡ added_reply destination.name destination.list all ++ own.repo_removed source.name (length more) (length left)
      → between ≡ listed state destination.name all → new ≡ listed between source.name left → moving state false from to more ≡ changes reply new
  moving_some reply all left more between new e f r is made =
      let first : between ≡ listed state to (union (list_of state to) more) = is ∙ (λ i. listed state (name_is state to destination here i) (all_is state to destination here all more e i)) in
      let second : new ≡ listed (listed state to (union (list_of state to) more)) from (without (list_of state from) more) =
      made ∙ (λ i. listed (first i) (name_is state from source there i) (left_is state from source there left more f i)) in
      (λ i. changes (sym (lines_are reply all left more e f r) i) (sym second i))

  pub moving_new : (all left more : List Card) (between new : StateView) (test : Card → Bool) → left ≡ without source.list more → more ≡ filter test source.list → (length more ≡ 0 → ⊥)
      → between ≡ listed state destination.name all → new ≡ listed between source.name left → new ≢ state
  moving_new all left more between new test f chose some is made same =
      without_some source.list more test chose (λ none. some (ap length none)) (sym f ∙ sym gone ∙ ap (λ (s : StateView). list_of s from) final ∙ list_is state from source there)
    where
      final : listed (listed state destination.name all) from left ≡ state
      final = (λ i. listed (sym is i) (sym (name_is state from source there) i) left) ∙ sym made ∙ same

      still : IsTrue (is_some (repo_of from (listed state destination.name all).repos))
      still = stays_changed (λ repo. cond (bytes_eq repo.name destination.name) (with_list all repo) repo) (λ repo. named repo (bytes_eq repo.name destination.name)) state.repos from (ap is_some there)
        where
          named : (repo : Repo) (b : Bool) → (cond b (with_list all repo) repo).name ≡ repo.name
          named repo true = refl
          named repo false = refl

      gone : list_of (listed (listed state destination.name all) from left) from ≡ left
      gone = by_repo (repo_of from (listed state destination.name all).repos) refl still
        where
          by_repo : (o : Option Repo) → repo_of from (listed state destination.name all).repos ≡ o → IsTrue (is_some o) → list_of (listed (listed state destination.name all) from left) from ≡ left
          by_repo (Some repo) e s = listed_list (listed state destination.name all) from left repo e
          by_repo None e s = absurd (false≢true s)

-- ---- the case of a copy or a move
module _ (state : StateView) (deps : Option Bool) (follow : PlainFollow) (source destination : List ℕ) (queries : List (List ℕ)) (came : Came) (good : bad_transfer state follow source destination ≡ None) where
  abbrev the_case : Case
  the_case = pair_case state deps follow source destination queries came

  abbrev joins : Came
  joins = joining state destination (chosen_for state deps follow source queries) came

  pub pair_wanted : AreBuilt queries → IsWanted None (pair_case state deps follow source destination queries came) Nothing
  pair_wanted built = asking_wanted (bad_transfer state follow source destination) queries joins good built

  pub pair_told : (old new : ℕ) (refused : Option (List ℕ)) (fault : ChangeFault) → FaultIs (λ refusal. Told old new refused (λ large. QueriesRefuse large queries refusal)) fault
      → FaultIs (λ refusal. Told old new refused (λ large. Refuses large (pair_case state deps follow source destination queries came) (Some refusal))) fault
  pair_told old new refused fault h = queries_told (bad_transfer state follow source destination) queries joins old new refused fault good h

  pub pair_comes : (arrived : Arrived) (comes : Came) → AreBuilt queries → joining state destination (chosen_for state deps follow source queries) came ≡ comes → ComesTo None (pair_case state deps follow source destination queries came) arrived comes
  pair_comes arrived comes built is = asking_comes (bad_transfer state follow source destination) queries joins arrived comes good built is

  -- the packages that can't join are told
  pub pair_refused : (old new : ℕ) (refused : Option (List ℕ)) (arrived : Arrived) (fault : ChangeFault) (repo : Repo) (more : List Card) → AreBuilt queries → repo_of destination state.repos ≡ Some repo → more ≡ chosen_for state deps follow source queries
      → FaultIs (IsJoinRefusal repo.list more) fault → FaultIs (λ refusal. Told old new refused (λ large. IsRefusedFor large (pair_case state deps follow source destination queries came) arrived refusal)) fault
  pair_refused old new refused arrived fault repo more built found chose h =
      fault_map (IsJoinRefusal repo.list more) (λ refusal. Told old new refused (λ large. IsRefusedFor large the_case arrived refusal)) fault
      (λ refusal r. (None, tt, inr (pair_comes arrived (refuses refusal) built (ap (λ (l : List Card). joining state destination l came) (sym chose) ∙ joins_refused state destination repo found more came refusal r)))) h

-- what is chosen of the repository that is found
pub chose_is : (state : StateView) (name : List ℕ) (repo : Repo) (queries : List (List ℕ)) (more : List Card) → repo_of name state.repos ≡ Some repo → more ≡ chosen repo.list queries → more ≡ chosen_of state name queries
chose_is state name repo queries more found e = e ∙ ap (λ (l : List Card). chosen l queries) (sym (list_is state name repo found))

-- the same with what it needs
pub chose_for : (state : StateView) (deps : Option Bool) (follow : PlainFollow) (name : List ℕ) (repo : Repo) (queries : List (List ℕ)) (more : List Card) → repo_of name state.repos ≡ Some repo → more ≡ chosen_with (unwrap_or deps false) follow repo.list queries → more ≡ chosen_for state deps follow name queries
chose_for state deps follow name repo queries more found e = e ∙ ap (λ (l : List Card). chosen_with (unwrap_or deps false) follow l queries) (sym (list_is state name repo found))
