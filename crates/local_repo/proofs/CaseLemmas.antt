-- What the commands of repositories come to, by how it goes.
use Rattle.std.proofs.Common.{◌≡◌, ℕ, ◌<◌, ◌≤◌, List, length, Option, Some, None, Bool, true, false, true≢false, unwrap_or, rules, inr, sym, subst, refl, ap, ◌∙◌}
use Rattle.std.specs.Option.{is_some}
use Rattle.std.specs.Global.{Vec}
use Rattle.std.specs.Bool.{nat_le, if◌then◌else◌}
use Rattle.command_value.specs.declared.command.Command.{Command}
use Rattle.command_value.specs.declared.command.Command.TheVariants as commands
use Rattle.command_value.specs.declared.command.Follow.{Follow}
use Rattle.command_value.specs.Plain.{PlainCommand, RepoCommand, plain, of_repo, repo_create, repo_add, repo_list, repo_show, repo_edit, repo_remove, repo_copy, repo_move, repo_import, repo_rename, repo_drop}
use Rattle.machine_state.specs.declared.limit.Limit.TheVariants as limits
use Rattle.machine_state.specs.declared.limit.Kind.TheVariants as kinds
use Rattle.machine_state.specs.declared.change.Change.{Change}
use Rattle.machine_state.specs.declared.change.ChangeFault.{ChangeFault}
use Rattle.machine_state.specs.declared.refusal.Refusal.{Refusal}
use Rattle.machine_state.specs.declared.refusal.Refusal.TheVariants.{Exists, Limit}
use Rattle.machine_state.specs.declared.arrived.Arrived.{Arrived}
use Rattle.machine_state.specs.declared.repo.Repo.{Repo}
use Rattle.machine_state.specs.Ascending.{IsAscending, put}
use Rattle.machine_state.specs.Sources.{in_use}
use Rattle.machine_state.specs.State.{Valid, repo_cmp, repo_name, repo_of}
use Rattle.machine_state.specs.Values.{PublicationView, StateView}
use Rattle.machine_state.proofs.NamedLemmas.{put_has}
use Rattle.reply_text.specs.Replies as replies
use Rattle.step_model.specs.declared.reading.Reading.TheVariants as readings
use Rattle.step_model.specs.Case.{Case, Came, changes, refuses, plain_case, unbuilt}
use Rattle.step_model.specs.Names.{bad_name}
use Rattle.step_model.specs.Answers.{came, ComesTo, IsFirst, IsNew, IsRefusedFor, IsWanted}
use Rattle.step_model.proofs.OwnLemmas.{last_none}
use Rattle.step_model.proofs.RefusalLemmas.{passes, reads_on}
use Rattle.local_repo.specs.Settings.{bad_settings, bare_repo, edited}
use Rattle.local_repo.specs.Cases.{repo_case, created, shown, taken}
use Rattle.local_repo.specs.Verbs.{IsAdd, IsCopy, IsCreate, IsDrop, IsEdit, IsImport, IsMove, IsNamed, IsRemove, IsRename, IsShow}

-- ---- names

pub taken_along : (repos : List Repo) (n m : List ℕ) (fault : ChangeFault) → n ≡ m → IsFirst (taken repos n) fault → IsFirst (taken repos m) fault
taken_along repos n m fault f h = subst (λ (k : List ℕ). IsFirst (taken repos k) fault) f h

pub used_along : (publications : List PublicationView) (n m : List ℕ) (fault : ChangeFault) → n ≡ m → IsFirst (in_use kinds.Repo n publications) fault → IsFirst (in_use kinds.Repo m publications) fault
used_along publications n m fault f h = subst (λ (k : List ℕ). IsFirst (in_use kinds.Repo k publications) fault) f h

pub is_free : (repos : List Repo) (name : List ℕ) → taken repos name ≡ None → is_some (repo_of name repos) ≡ false
is_free repos name = by_found (is_some (repo_of name repos))
  where
    by_found : (b : Bool) → (if b then Some (Exists kinds.Repo name) else None) ≡ None → b ≡ false
    by_found true h = cc
    by_found false h = refl

-- ---- a new repository

-- as it is made with these flags
abbrev pub repo_from : Option (List ℕ) → Option (List ℕ) → Option (List ℕ) → List ℕ → Repo
repo_from comment distribution component name = edited comment distribution component (bare_repo name)

created_full : (state : StateView) (repo : Repo) → 10000 ≤ length state.repos → created state repo ≡ refuses (Limit limits.Repos)
created_full state repo many = rw (full many) refl
  where
    full : 10000 ≤ length state.repos → nat_le 10000 (length state.repos) ≡ true
    full h = search rules

-- the change of a repository's making
abbrev pub MadeChange : StateView → Repo → Change
MadeChange state repo = record { state = Some (record state { repos = put repo_cmp repo state.repos }); reply = replies.repo_created repo.name }

-- a copy of the state with a repository more
pub put_change : (seen state : StateView) (repos : List Repo) (repo : Repo) (reply : List ℕ) → seen ≡ state → Valid state → (IsAscending repo_cmp seen.repos → repos ≡ put repo_cmp repo seen.repos) → reply ≡ replies.repo_created repo.name
    → (record { state = Some (record seen { repos = repos }); reply = reply }) ≡ MadeChange state repo
put_change seen state repos repo reply same v made e =
    let p = made (subst (λ (s : StateView). IsAscending repo_cmp s.repos) (sym same) v.repos.sorted) in
    (λ i. record { state = Some (record seen { repos = p i }); reply = reply }) ∙ (λ i. record { state = Some (record (same i) { repos = put repo_cmp repo (same i).repos }); reply = e i })

created_fits : (state : StateView) (repo : Repo) → length state.repos < 10000 → created state repo ≡ came state (MadeChange state repo)
created_fits state repo few = rw (fits few) refl
  where
    fits : length state.repos < 10000 → nat_le 10000 (length state.repos) ≡ false
    fits h = search rules

module _ (state : StateView) (comment distribution component : Option (List ℕ)) (text : List ℕ) (good : (repo_case state (repo_create comment distribution component text)).early ≡ None) where
  pub created_comes : (name : List ℕ) (change : Change) (arrived : Arrived) → change ≡ MadeChange state (repo_from comment distribution component name) → name ≡ text → length state.repos < 10000
      → ComesTo None (repo_case state (repo_create comment distribution component text)) arrived (came state change)
  unfolding repo_case
  created_comes name change arrived e same few = (
    passes None (repo_case state (repo_create comment distribution component text)) good refl refl,
    created_fits state (repo_from comment distribution component text) few ∙ ap (λ (n : List ℕ). came state (MadeChange state (repo_from comment distribution component n))) (sym same) ∙ ap (came state) (sym e),
  )

  pub created_new : (name : List ℕ) (change : Change) → change ≡ MadeChange state (repo_from comment distribution component name) → name ≡ text → IsNew state change.state
  unfolding repo_case
  created_new name change e same =
      let repo = repo_from comment distribution component name in
      let none = is_free state.repos text (last_none (bad_settings comment distribution component) (bad_name text) (taken state.repos text) good) in
      let has = put_has repo_name repo state.repos in
      subst (λ (k : Change). IsNew state k.state) (sym e)
      (λ (all : record state { repos = put repo_cmp repo state.repos } ≡ state). absurd (true≢false (sym has ∙ ap (λ (s : StateView). is_some (repo_of name s.repos)) all ∙ ap (λ (n : List ℕ). is_some (repo_of n state.repos)) same ∙ none)))

  pub created_full_up : (arrived : Arrived) → 10000 ≤ length state.repos → IsRefusedFor None (repo_case state (repo_create comment distribution component text)) arrived (Limit limits.Repos)
  unfolding repo_case
  created_full_up arrived many = inr (passes None (repo_case state (repo_create comment distribution component text)) good refl refl, created_full state (repo_from comment distribution component text) many)

-- ---- a repository that is shown

pub shown_comes : (state : StateView) (packages : Option Bool) (name reply : List ℕ) (repo : Repo) (arrived : Arrived) → (repo_case state (repo_show packages name)).early ≡ None
    → repo_of name state.repos ≡ Some repo → reply ≡ replies.repo_show repo (unwrap_or packages false) → ComesTo None (repo_case state (repo_show packages name)) arrived (changes reply state)
unfolding repo_case
shown_comes state packages name reply repo arrived good e r = (
  passes None (repo_case state (repo_show packages name)) good refl refl,
  ap (shown state name (unwrap_or packages false)) e ∙ ap (λ (t : List ℕ). changes t state) (sym r),
)

pub listed_comes : (state : StateView) (reply : List ℕ) (arrived : Arrived) → reply ≡ replies.repo_list state.repos → ComesTo None (repo_case state repo_list) arrived (changes reply state)
unfolding repo_case
listed_comes state reply arrived e = (passes None (repo_case state repo_list) refl refl refl, ap (λ (t : List ℕ). changes t state) (sym e))

-- ---- what is wanted

-- nothing is wanted for a command that reads nothing
pub nothing_wanted : (early : Option Refusal) (comes : Came) → early ≡ None → IsWanted None (plain_case early comes) readings.Nothing
nothing_wanted early comes e = (passes None (plain_case early comes) e refl refl, sym (reads_on (plain_case early comes) e refl))

pub list_wanted : (state : StateView) → IsWanted None (repo_case state repo_list) readings.Nothing
unfolding repo_case
list_wanted state = (passes None (repo_case state repo_list) refl refl refl, refl)

-- ---- which command it is

-- what a command is among those of repositories
abbrev case_in : StateView → PlainCommand → Case
case_in state (of_repo c) = repo_case state c
case_in state command = unbuilt

-- a command that is seen otherwise
pub case_along : (state : StateView) (command : Command) (c d : RepoCommand) → plain command ≡ of_repo c → plain command ≡ of_repo d → repo_case state c ≡ repo_case state d
case_along state command c d e f = sym (ap (case_in state) e) ∙ ap (case_in state) f

-- a command of one verb is of no other
pub is_create : (command : Command) (c : RepoCommand) → plain command ≡ of_repo c → IsCreate c
    → ((comment distribution component : Option (List ℕ)) (name : List ℕ) → command ≡ commands.RepoCreate comment distribution component name → ⊥) → ⊥
is_create (commands.RepoCreate a b d n) c e is not = not a b d n refl
is_create command (repo_create comment distribution component name) e is not = absurd (cc)
is_create command c e is not = absurd is

pub is_add : (command : Command) (c : RepoCommand) → plain command ≡ of_repo c → IsAdd c → ((name folder : List ℕ) → command ≡ commands.RepoAdd name folder → ⊥) → ⊥
is_add (commands.RepoAdd n f) c e is not = not n f refl
is_add command (repo_add name folder) e is not = absurd (cc)
is_add command c e is not = absurd is

pub is_show : (command : Command) (c : RepoCommand) → plain command ≡ of_repo c → IsShow c → ((packages : Option Bool) (name : List ℕ) → command ≡ commands.RepoShow packages name → ⊥) → ⊥
is_show (commands.RepoShow p n) c e is not = not p n refl
is_show command (repo_show packages name) e is not = absurd (cc)
is_show command c e is not = absurd is

pub is_edit : (command : Command) (c : RepoCommand) → plain command ≡ of_repo c → IsEdit c
    → ((comment distribution component : Option (List ℕ)) (name : List ℕ) → command ≡ commands.RepoEdit comment distribution component name → ⊥) → ⊥
is_edit (commands.RepoEdit a b d n) c e is not = not a b d n refl
is_edit command (repo_edit comment distribution component name) e is not = absurd (cc)
is_edit command c e is not = absurd is

pub is_rename : (command : Command) (c : RepoCommand) → plain command ≡ of_repo c → IsRename c → ((before after : List ℕ) → command ≡ commands.RepoRename before after → ⊥) → ⊥
is_rename (commands.RepoRename a b) c e is not = not a b refl
is_rename command (repo_rename before after) e is not = absurd (cc)
is_rename command c e is not = absurd is

pub is_drop : (command : Command) (c : RepoCommand) → plain command ≡ of_repo c → IsDrop c → ((name : List ℕ) → command ≡ commands.RepoDrop name → ⊥) → ⊥
is_drop (commands.RepoDrop n) c e is not = not n refl
is_drop command (repo_drop name) e is not = absurd (cc)
is_drop command c e is not = absurd is

pub is_remove : (command : Command) (c : RepoCommand) → plain command ≡ of_repo c → IsRemove c
    → ((dry : Option Bool) (name : List ℕ) (queries : Vec (List ℕ)) → command ≡ commands.RepoRemove dry name queries → ⊥) → ⊥
is_remove (commands.RepoRemove d n q) c e is not = not d n q refl
is_remove command (repo_remove dry name queries) e is not = absurd (cc)
is_remove command c e is not = absurd is

pub is_copy : (command : Command) (c : RepoCommand) → plain command ≡ of_repo c → IsCopy c
    → ((dry deps : Option Bool) (follow : Follow) (source destination : List ℕ) (queries : Vec (List ℕ)) → command ≡ commands.RepoCopy dry deps follow source destination queries → ⊥) → ⊥
is_copy (commands.RepoCopy d w f s t q) c e is not = not d w f s t q refl
is_copy command (repo_copy dry deps follow source destination queries) e is not = absurd (cc)
is_copy command c e is not = absurd is

pub is_move : (command : Command) (c : RepoCommand) → plain command ≡ of_repo c → IsMove c
    → ((dry deps : Option Bool) (follow : Follow) (source destination : List ℕ) (queries : Vec (List ℕ)) → command ≡ commands.RepoMove dry deps follow source destination queries → ⊥) → ⊥
is_move (commands.RepoMove d w f s t q) c e is not = not d w f s t q refl
is_move command (repo_move dry deps follow source destination queries) e is not = absurd (cc)
is_move command c e is not = absurd is

pub is_import : (command : Command) (c : RepoCommand) → plain command ≡ of_repo c → IsImport c
    → ((dry deps : Option Bool) (follow : Follow) (mirror repo : List ℕ) (queries : Vec (List ℕ)) → command ≡ commands.RepoImport dry deps follow mirror repo queries → ⊥) → ⊥
is_import (commands.RepoImport d w f m r q) c e is not = not d w f m r q refl
is_import command (repo_import dry deps follow mirror repo queries) e is not = absurd (cc)
is_import command c e is not = absurd is

pub is_list : (command : Command) → plain command ≡ of_repo repo_list → (command ≡ commands.RepoList → ⊥) → ⊥
is_list commands.RepoList e not = not refl
is_list command e not = absurd (cc)

module _ (state : StateView) (command : Command) where
  -- a command that isn't on packages is one by names
  pub is_named : (c : RepoCommand) → plain command ≡ of_repo c
      → ((name folder : List ℕ) → command ≡ commands.RepoAdd name folder → ⊥)
      → ((dry : Option Bool) (name : List ℕ) (queries : Vec (List ℕ)) → command ≡ commands.RepoRemove dry name queries → ⊥)
      → ((dry deps : Option Bool) (follow : Follow) (source destination : List ℕ) (queries : Vec (List ℕ)) → command ≡ commands.RepoCopy dry deps follow source destination queries → ⊥)
      → ((dry deps : Option Bool) (follow : Follow) (source destination : List ℕ) (queries : Vec (List ℕ)) → command ≡ commands.RepoMove dry deps follow source destination queries → ⊥)
      → ((dry deps : Option Bool) (follow : Follow) (mirror repo : List ℕ) (queries : Vec (List ℕ)) → command ≡ commands.RepoImport dry deps follow mirror repo queries → ⊥)
      → IsNamed c
  is_named (repo_add name folder) e add remove copy move imports = is_add command (repo_add name folder) e tt add
  is_named (repo_remove dry name queries) e add remove copy move imports = is_remove command (repo_remove dry name queries) e tt remove
  is_named (repo_copy dry deps follow source destination queries) e add remove copy move imports = is_copy command (repo_copy dry deps follow source destination queries) e tt copy
  is_named (repo_move dry deps follow source destination queries) e add remove copy move imports = is_move command (repo_move dry deps follow source destination queries) e tt move
  is_named (repo_import dry deps follow mirror repo queries) e add remove copy move imports = is_import command (repo_import dry deps follow mirror repo queries) e tt imports
  is_named c e add remove copy move imports = tt

  -- there is no other command by names
  pub no_other : (c : RepoCommand) → plain command ≡ of_repo c → IsNamed c
      → ((comment distribution component : Option (List ℕ)) (name : List ℕ) → command ≡ commands.RepoCreate comment distribution component name → ⊥)
      → (command ≡ commands.RepoList → ⊥)
      → ((packages : Option Bool) (name : List ℕ) → command ≡ commands.RepoShow packages name → ⊥)
      → ((comment distribution component : Option (List ℕ)) (name : List ℕ) → command ≡ commands.RepoEdit comment distribution component name → ⊥)
      → ((before after : List ℕ) → command ≡ commands.RepoRename before after → ⊥)
      → ((name : List ℕ) → command ≡ commands.RepoDrop name → ⊥)
      → ⊥
  no_other (repo_create comment distribution component name) e is create list show edit rename drop = absurd (is_create command (repo_create comment distribution component name) e tt create)
  no_other (repo_add name folder) e is create list show edit rename drop = absurd is
  no_other repo_list e is create list show edit rename drop = absurd (is_list command e list)
  no_other (repo_show packages name) e is create list show edit rename drop = absurd (is_show command (repo_show packages name) e tt show)
  no_other (repo_edit comment distribution component name) e is create list show edit rename drop = absurd (is_edit command (repo_edit comment distribution component name) e tt edit)
  no_other (repo_remove dry name queries) e is create list show edit rename drop = absurd is
  no_other (repo_copy dry deps follow source destination queries) e is create list show edit rename drop = absurd is
  no_other (repo_move dry deps follow source destination queries) e is create list show edit rename drop = absurd is
  no_other (repo_rename before after) e is create list show edit rename drop = absurd (is_rename command (repo_rename before after) e tt rename)
  no_other (repo_drop name) e is create list show edit rename drop = absurd (is_drop command (repo_drop name) e tt drop)
  no_other (repo_import dry deps follow mirror repo queries) e is create list show edit rename drop = absurd is
