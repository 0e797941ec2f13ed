-- What the commands on names and settings of repositories keep to in their replies and refusals.
use Rattle.std.proofs.Common.{◌≢◌, ℕ, List, [], Option, Some, None, Bool}
use Rattle.std.specs.Option.{is_some}
use Rattle.machine_state.specs.declared.limit.Kind.TheVariants as kinds
use Rattle.machine_state.specs.declared.refusal.Refusal.{Refusal}
use Rattle.machine_state.specs.declared.refusal.Refusal.TheVariants.{BadName, Exists}
use Rattle.machine_state.specs.declared.repo.Repo.{Repo}
use Rattle.machine_state.specs.State.{repo_of}
use Rattle.reply_text.specs.Replies as replies
use Rattle.step_model.specs.Case.{or_else}
use Rattle.step_model.proofs.OwnLemmas.{Own, own_else, own_if}
use Rattle.repo_packages.proofs.OwnLemmas.{front_some, line_some}
use Rattle.local_repo.specs.Cases.{taken}
use Rattle.local_repo.specs.Settings.{bad_comment, bad_component, bad_distribution, bad_settings, bad_word, if_written}

-- ---- every reply is some bytes

pub created_some : (name : List ℕ) → replies.repo_created name ≢ []
unfolding replies.repo_created
created_some name = line_some _

pub listed_some : (repos : List Repo) → replies.repo_list repos ≢ []
unfolding replies.repo_list
listed_some repos = front_some _ _ (line_some _)

settings_some : (repo : Repo) → replies.settings_lines repo ≢ []
unfolding replies.settings_lines
settings_some repo = front_some _ _ (front_some _ _ (front_some _ _ (line_some _)))

pub repo_some : (repo : Repo) (packages : Bool) → replies.repo_show repo packages ≢ []
unfolding replies.repo_show
repo_some repo packages = front_some _ _ (front_some _ _ (settings_some repo))

-- ---- refusals by names

pub own_taken : (repos : List Repo) (name : List ℕ) → Own (taken repos name)
own_taken repos name = own_if (is_some (repo_of name repos)) (Some (Exists kinds.Repo name)) None tt tt

own_written : (bad : List ℕ → Option Refusal) → ((text : List ℕ) → Own (bad text)) → (said : Option (List ℕ)) → Own (if_written bad said)
own_written bad own None = tt
own_written bad own (Some text) = own text

own_word : (good : Bool) (text : List ℕ) → Own (bad_word good text)
own_word good text = own_if good None (Some (BadName text)) tt tt

pub own_settings : (comment distribution component : Option (List ℕ)) → Own (bad_settings comment distribution component)
own_settings comment distribution component =
    own_else (if_written bad_comment comment) (or_else (if_written bad_distribution distribution) (if_written bad_component component)) (own_written bad_comment (λ text. own_word _ text) comment)
    (own_else (if_written bad_distribution distribution) (if_written bad_component component) (own_written bad_distribution (λ text. own_word _ text) distribution) (own_written bad_component (λ text. own_word _ text) component))
