-- What every command on packages keeps to in its replies and refusals.
use Rattle.std.proofs.Common.{◌≢◌, ◌≡◌, ℕ, List, [], ◌∷◌, ◌++◌, length, Option, Some, None, Bool, true, false, refl, ap, arith}
use Rattle.std.specs.List.{flat_map}
use Rattle.std.specs.Option.{is_some}
use Rattle.std.specs.Bool.{if◌then◌else◌}
use Rattle.std.proofs.lemmas.List.{length-append}
use Rattle.command_value.specs.Plain.{PlainFollow}
use Rattle.package_core.specs.Card.{Card}
use Rattle.machine_state.specs.declared.limit.Kind.TheVariants as kinds
use Rattle.machine_state.specs.declared.refusal.Refusal.TheVariants.{Unknown}
use Rattle.machine_state.specs.declared.repo.Repo.{Repo}
use Rattle.machine_state.specs.State.{repo_of}
use Rattle.machine_state.specs.Values.{StateView}
use Rattle.reply_text.specs.Words.{line}
use Rattle.reply_text.specs.Replies as replies
use Rattle.step_model.specs.Case.{or_else}
use Rattle.step_model.specs.Names.{bad_name}
use Rattle.step_model.proofs.OwnLemmas.{Own, own_else, own_if, own_name}
use Rattle.mirror_lists.specs.Mirrors.{unknown_mirror}
use Rattle.mirror_lists.proofs.MirrorLemmas.{own_mirror}
use Rattle.package_choice.specs.Choice.{bad_follow}
use Rattle.package_choice.proofs.ChoiceLemmas.{own_follow}
use Rattle.repo_packages.specs.PackageCases.{bad_import, bad_pair, bad_places, bad_repo, bad_transfer, unknown}
use Rattle.repo_packages.specs.PackageReplies as own

-- ---- every reply is some bytes

pub line_some : (text : List ℕ) → line text ≢ []
unfolding line
line_some text e = absurd (omega (arith, ap length e, length-append text (10 ∷ [])))

pub front_some : (xs ys : List ℕ) → xs ≢ [] → xs ++ ys ≢ []
front_some [] ys h e = h refl
front_some (x ∷ xs) ys h e = cc

pub added_some : (name : List ℕ) (k n : ℕ) → replies.repo_added name k n ≢ []
unfolding replies.repo_added
added_some name k n = line_some _

pub removed_some : (name : List ℕ) (k n : ℕ) → own.repo_removed name k n ≢ []
unfolding own.repo_removed
removed_some name k n = line_some _

behind_some : (xs ys : List ℕ) → ys ≢ [] → xs ++ ys ≢ []
behind_some [] ys h e = h e
behind_some (x ∷ xs) ys h e = cc

pub dry_run_some : (going coming : List Card) → own.dry_run_of going coming ≢ []
unfolding own.dry_run_of
dry_run_some going coming = behind_some (flat_map own.going_line going) _ (behind_some (flat_map own.coming_line coming) _ (line_some _))

-- ---- refusals by names

pub own_unknown : (repos : List Repo) (name : List ℕ) → Own (unknown repos name)
own_unknown repos name = own_if (is_some (repo_of name repos)) None (Some (Unknown kinds.Repo name)) tt tt

pub own_repo : (state : StateView) (name : List ℕ) → Own (bad_repo state name)
own_repo state name = own_else (bad_name name) (unknown state.repos name) (own_name name) (own_unknown state.repos name)

pub own_pair : (state : StateView) (source destination : List ℕ) → Own (bad_pair state source destination)
own_pair state source destination =
    own_else (bad_name source) (or_else (bad_name destination) (or_else (unknown state.repos source) (unknown state.repos destination))) (own_name source)
    (own_else (bad_name destination) (or_else (unknown state.repos source) (unknown state.repos destination)) (own_name destination)
    (own_else (unknown state.repos source) (unknown state.repos destination) (own_unknown state.repos source) (own_unknown state.repos destination)))

pub own_transfer : (state : StateView) (follow : PlainFollow) (source destination : List ℕ) → Own (bad_transfer state follow source destination)
own_transfer state follow source destination = own_else (bad_follow follow) (bad_pair state source destination) (own_follow follow) (own_pair state source destination)

own_places : (state : StateView) (mirror repo : List ℕ) → Own (bad_places state mirror repo)
own_places state mirror repo =
    own_else (bad_name mirror) (or_else (bad_name repo) (or_else (unknown_mirror state.mirrors mirror) (unknown state.repos repo))) (own_name mirror)
    (own_else (bad_name repo) (or_else (unknown_mirror state.mirrors mirror) (unknown state.repos repo)) (own_name repo)
    (own_else (unknown_mirror state.mirrors mirror) (unknown state.repos repo) (own_mirror state.mirrors mirror) (own_unknown state.repos repo)))

pub own_import : (state : StateView) (follow : PlainFollow) (mirror repo : List ℕ) → Own (bad_import state follow mirror repo)
own_import state follow mirror repo = own_else (bad_follow follow) (bad_places state mirror repo) (own_follow follow) (own_places state mirror repo)
