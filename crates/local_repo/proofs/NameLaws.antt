-- Laws of the commands that change names and settings of repositories.
use Rattle.std.proofs.Common.{◌≡◌, ◌≢◌, ℕ, List, [], length, map, ap, ◌&&◌, ◌||◌, ◌==◌, Option, Some, None, Bool, true, false, refl, sym, subst, arith, rules, inl, unwrap_or}
use Rattle.std.specs.Option.{IfSome}
use Rattle.std.specs.Bool.{nat_le, if◌then◌else◌}
use Rattle.std.specs.Str.{is_utf8}
use Rattle.std.proofs.lemmas.Str.{IsUtf8-from_is_utf8}
use Rattle.ap_text.specs.Names.{is_component, is_name}
use Rattle.command_value.specs.Plain.{repo_create, repo_edit, repo_rename, repo_drop}
use Rattle.package_core.specs.Card.{Card}
use Rattle.machine_state.specs.declared.limit.Limit.TheVariants as limits
use Rattle.machine_state.specs.declared.limit.Kind.TheVariants as kinds
use Rattle.machine_state.specs.declared.refusal.Refusal.{Refusal}
use Rattle.machine_state.specs.declared.refusal.Refusal.TheVariants.{BadName, Limit}
use Rattle.machine_state.specs.declared.repo.Repo.{Repo}
use Rattle.machine_state.specs.declared.arrived.Arrived.{Arrived}
use Rattle.machine_state.specs.Ascending.{put}
use Rattle.machine_state.specs.Named.{dropped}
use Rattle.machine_state.specs.Sources.{in_use, source_renamed}
use Rattle.machine_state.specs.State.{Valid, IsRepo, IsNamedList, IsLineText, is_line, is_line_text, repo_cmp, repo_name}
use Rattle.machine_state.specs.Values.{StateView}
use Rattle.machine_state.proofs.SourceLemmas.{valid_repo_changed, valid_repo_dropped, valid_repo_more, valid_repo_renamed}
use Rattle.reply_text.specs.Replies as replies
use Rattle.step_model.specs.Case.{Came, changes, refuses, or_else, plain_case}
use Rattle.step_model.specs.Names.{bad_name}
use Rattle.step_model.specs.Lawful.{IfChanges, IfRefuses, IsFrom, IsLawful}
use Rattle.step_model.proofs.StepLemmas.{from_known}
use Rattle.local_repo.specs.Replies as own
use Rattle.local_repo.specs.Settings.{bad_comment, bad_component, bad_distribution, bad_settings, bad_word, bare_repo, distribution_or, edited, if_written}
use Rattle.local_repo.specs.Cases.{created, repo_case, repo_renamed_in, taken}
use Rattle.local_repo.proofs.OwnLemmas.{created_some, own_settings, own_taken}
use Rattle.repo_packages.specs.PackageCases.{changed_in, unknown}
use Rattle.step_model.proofs.OwnLemmas.{first_none, second_none, Own, OwnOr, own_else, own_name, own_used}
use Rattle.repo_packages.proofs.OwnLemmas.{line_some, own_unknown}

-- a command that changes the state at once, and reads nothing
changing : (state new : StateView) (May : Arrived → Type 0) (early : Option Refusal) (reply : List ℕ) → (Valid state → early ≡ None → Valid new) → reply ≢ [] → new.known ≡ state.known → (state.publications ≡ [] → new.publications ≡ []) → Own early → IsLawful state May (plain_case early (changes reply new))
changing state new May early reply valid some known none own = record {
  valid = λ v e late arrived may. valid v e;
  says = λ arrived. some;
  knows = λ arrived. ((subst (λ (l : List Card). IsFrom state arrived (record state { known = l })) (sym known) (from_known state arrived)).0, none);
  early = own;
  late = tt;
  comes = λ arrived may. tt;
}

-- ---- settings

good_word : (good : Bool) (text : List ℕ) → bad_word good text ≡ None → good ≡ true
good_word true text h = refl
good_word false text h = cc

both : (a b : Bool) → (a && b) ≡ true → (a ≡ true) × (b ≡ true)
both true b h = (refl, h)
both false b h = cc

pub line_text : (text : List ℕ) → is_line_text text ≡ true → IsLineText text
line_text text h = let parts = both (is_line text) (is_utf8 text) h in record { line = parts.0; utf8 = IsUtf8-from_is_utf8 text parts.1 }

good_comment : (said : Option (List ℕ)) (before : List ℕ) → if_written bad_comment said ≡ None → IsLineText before → IsLineText (unwrap_or said before)
good_comment None before h is = is
good_comment (Some text) before h is = line_text text (good_word (is_line_text text) text h)

good_component : (said : Option (List ℕ)) (before : List ℕ) → if_written bad_component said ≡ None → is_component before ≡ true → is_component (unwrap_or said before) ≡ true
good_component None before h is = is
good_component (Some text) before h is = good_word (is_component text) text h

good_distribution : (said before : Option (List ℕ)) → if_written bad_distribution said ≡ None → IfSome before (λ name. is_name name ≡ true) → IfSome (distribution_or before said) (λ name. is_name name ≡ true)
good_distribution None before h is = is
good_distribution (Some text) before h is = by_empty (length text == 0) (good_word (length text == 0 || is_name text) text h)
  where
    by_empty : (b : Bool) → (b || is_name text) ≡ true → IfSome (if b then None else Some text) (λ name. is_name name ≡ true)
    by_empty true e = tt
    by_empty false e = e

edited_good : (comment distribution component : Option (List ℕ)) (repo : Repo) → bad_settings comment distribution component ≡ None → IsRepo repo → IsRepo (edited comment distribution component repo)
edited_good comment distribution component repo h is =
    let more = second_none (if_written bad_comment comment) _ h in
    record {
      name = is.name;
      comment = good_comment comment repo.comment (first_none (if_written bad_comment comment) _ h) is.comment;
      distribution = good_distribution distribution repo.distribution (first_none (if_written bad_distribution distribution) _ more) is.distribution;
      component = good_component component repo.component (second_none (if_written bad_distribution distribution) _ more) is.component;
    }

bare_good : (name : List ℕ) → is_name name ≡ true → IsRepo (bare_repo name)
bare_good name e = record { name = e; comment = record { line = refl; utf8 = ([], (refl, refl)) }; distribution = tt; component = refl }

name_is : (name : List ℕ) → bad_name name ≡ None → is_name name ≡ true
name_is name = by_name (is_name name)
  where
    by_name : (b : Bool) → (if b then None else Some (BadName name)) ≡ None → b ≡ true
    by_name true h = refl
    by_name false h = cc

-- ---- a repository more

module _ (state : StateView) (repo : Repo) where
  abbrev if_full : Bool → Came
  if_full full = if full then refuses (Limit limits.Repos) else changes (replies.repo_created repo.name) (record state { repos = put repo_cmp repo state.repos })

  created_valid : Valid state → IsRepo repo → IsNamedList state.known repo.list → IfChanges (created state repo) (λ reply new. Valid new)
  created_valid v is list = by_room (nat_le 10000 (length state.repos)) refl
    where
      by_room : (b : Bool) → nat_le 10000 (length state.repos) ≡ b → IfChanges (if_full b) (λ reply new. Valid new)
      by_room true f = tt
      by_room false f = valid_repo_more state v repo is list (search rules)

  created_says : IfChanges (created state repo) (λ reply new. reply ≢ [])
  created_says = by_room (nat_le 10000 (length state.repos))
    where
      by_room : (b : Bool) → IfChanges (if_full b) (λ reply new. reply ≢ [])
      by_room true = tt
      by_room false = created_some repo.name

  created_knows : (arrived : Arrived) → IfChanges (created state repo) (λ reply new. IsFrom state arrived new)
  created_knows arrived = by_room (nat_le 10000 (length state.repos))
    where
      by_room : (b : Bool) → IfChanges (if_full b) (λ reply new. IsFrom state arrived new)
      by_room true = tt
      by_room false = from_known state arrived

  created_refuses : (arrived : Arrived) → IfRefuses (created state repo) (OwnOr arrived)
  created_refuses arrived = by_room (nat_le 10000 (length state.repos))
    where
      by_room : (b : Bool) → IfRefuses (if_full b) (OwnOr arrived)
      by_room true = inl tt
      by_room false = tt

pub create_law : (state : StateView) (May : Arrived → Type 0) (comment distribution component : Option (List ℕ)) (name : List ℕ) → IsLawful state May (repo_case state (repo_create comment distribution component name))
unfolding repo_case
create_law state May comment distribution component name =
    let repo = edited comment distribution component (bare_repo name) in
    record {
      valid = λ v early late arrived may.
          let settings = first_none (bad_settings comment distribution component) _ early in
          let named = name_is name (first_none (bad_name name) (taken state.repos name) (second_none (bad_settings comment distribution component) _ early)) in
          created_valid state repo v (edited_good comment distribution component (bare_repo name) settings (bare_good name named)) (record { sorted = tt; apart = refl; listed = λ k d l. absurd (omega arith); few = omega arith });
      says = λ arrived. created_says state repo;
      knows = λ arrived. created_knows state repo arrived;
      early =
          own_else (bad_settings comment distribution component) (or_else (bad_name name) (taken state.repos name)) (own_settings comment distribution component)
          (own_else (bad_name name) (taken state.repos name) (own_name name) (own_taken state.repos name));
      late = tt;
      comes = λ arrived may. created_refuses state repo arrived;
    }

-- ---- other settings

edited_some : (name : List ℕ) → own.repo_edited name ≢ []
unfolding own.repo_edited
edited_some name = line_some _

pub edit_law : (state : StateView) (May : Arrived → Type 0) (comment distribution component : Option (List ℕ)) (name : List ℕ) → IsLawful state May (repo_case state (repo_edit comment distribution component name))
unfolding repo_case
edit_law state May comment distribution component name =
    changing state (record state { repos = changed_in name (edited comment distribution component) state.repos }) May _ (own.repo_edited name)
    (λ v early. valid_repo_changed state v name (edited comment distribution component) (λ repo. refl) (λ repo is. edited_good comment distribution component repo (first_none (bad_settings comment distribution component) _ early) is) (λ repo list. list))
    (edited_some name) refl (λ none. none)
    (own_else (bad_settings comment distribution component) (or_else (bad_name name) (unknown state.repos name)) (own_settings comment distribution component)
    (own_else (bad_name name) (unknown state.repos name) (own_name name) (own_unknown state.repos name)))

-- ---- another name

renamed_some : (before after : List ℕ) → own.repo_renamed before after ≢ []
unfolding own.repo_renamed
renamed_some before after = line_some _

pub rename_law : (state : StateView) (May : Arrived → Type 0) (before after : List ℕ) → IsLawful state May (repo_case state (repo_rename before after))
unfolding repo_case
rename_law state May before after =
    changing state (repo_renamed_in state before after) May _ (own.repo_renamed before after)
    (λ v early. valid_repo_renamed state v before after (name_is after (first_none (bad_name after) _ (second_none (bad_name before) _ early))))
    (renamed_some before after) refl (λ none. ap (map (source_renamed kinds.Repo before after)) none)
    (own_else (bad_name before) (or_else (bad_name after) (or_else (taken state.repos after) (unknown state.repos before))) (own_name before)
    (own_else (bad_name after) (or_else (taken state.repos after) (unknown state.repos before)) (own_name after)
    (own_else (taken state.repos after) (unknown state.repos before) (own_taken state.repos after) (own_unknown state.repos before))))

-- ---- no more

dropped_some : (name : List ℕ) → own.repo_dropped name ≢ []
unfolding own.repo_dropped
dropped_some name = line_some _

pub drop_law : (state : StateView) (May : Arrived → Type 0) (name : List ℕ) → IsLawful state May (repo_case state (repo_drop name))
unfolding repo_case
drop_law state May name =
    changing state (record state { repos = dropped repo_name name state.repos }) May _ (own.repo_dropped name)
    (λ v early. valid_repo_dropped state v name (second_none (unknown state.repos name) _ (second_none (bad_name name) _ early)))
    (dropped_some name) refl (λ none. none)
    (own_else (bad_name name) (or_else (unknown state.repos name) (in_use kinds.Repo name state.publications)) (own_name name)
    (own_else (unknown state.repos name) (in_use kinds.Repo name state.publications) (own_unknown state.repos name) (own_used kinds.Repo name state.publications)))
