-- The commands of local repositories: what each is in a state.
use Rattle.std.specs.Prelude.{ℕ, false, List, length, map, Option, Some, None, Bool, nat_le, unwrap_or, if◌then◌else◌}
use Rattle.std.specs.Option.{is_some}
use Rattle.command_value.specs.Plain.{RepoCommand, repo_create, repo_add, repo_list, repo_show, repo_edit, repo_remove, repo_copy, repo_move, repo_import, repo_rename, repo_drop}
use Rattle.machine_state.specs.declared.limit.Limit.TheVariants.{Repos}
use Rattle.machine_state.specs.declared.limit.Kind.TheVariants as kinds
use Rattle.machine_state.specs.declared.refusal.Refusal.{Refusal}
use Rattle.machine_state.specs.declared.refusal.Refusal.TheVariants.{Exists, Unknown, Limit}
use Rattle.machine_state.specs.declared.repo.Repo.{Repo}
use Rattle.machine_state.specs.Ascending.{put}
use Rattle.machine_state.specs.Limits.{limit_number}
use Rattle.machine_state.specs.Named.{dropped, renamed}
use Rattle.machine_state.specs.Sources.{in_use, source_renamed}
use Rattle.machine_state.specs.State.{repo_cmp, repo_name, repo_of}
use Rattle.machine_state.specs.Values.{StateView}
use Rattle.reply_text.specs.Replies as replies
use Rattle.step_model.specs.Case.{Case, Came, changes, refuses, or_else, plain_case}
use Rattle.step_model.specs.Names.{bad_name}
use Rattle.repo_packages.specs.PackageCases.{addition_case, bad_repo, changed_in, copy_case, import_case, move_case, removal_case, unknown}
use Rattle.local_repo.specs.Replies as own
use Rattle.local_repo.specs.Settings.{bad_settings, edited, bare_repo}

-- a repository has the name already
abbrev pub taken : List Repo → List ℕ → Option Refusal
taken repos name = if is_some (repo_of name repos) then Some (Exists kinds.Repo name) else None

-- a repository more, where there is room for it
abbrev pub created : StateView → Repo → Came
created state repo =
    if nat_le (limit_number Repos) (length state.repos) then refuses (Limit Repos)
    else changes (replies.repo_created repo.name) (record state { repos = put repo_cmp repo state.repos })

-- the repository is shown
abbrev pub shown : StateView → List ℕ → Bool → Option Repo → Came
shown state name packages (Some repo) = changes (replies.repo_show repo packages) state
shown state name packages None = refuses (Unknown kinds.Repo name)

-- ---- settings and names

-- the same repository under another name
abbrev pub called : Repo → List ℕ → Repo
called repo name = record repo { name = name }

-- a repository has another name, in the sources of publications too
abbrev pub repo_renamed_in : StateView → List ℕ → List ℕ → StateView
repo_renamed_in state before after =
    record state { repos = renamed repo_name called before after state.repos; publications = map (source_renamed kinds.Repo before after) state.publications }

-- What each command of repositories is in a state.
unfoldable pub repo_case : StateView → RepoCommand → Case
repo_case state (repo_create comment distribution component name) =
    plain_case (or_else (bad_settings comment distribution component) (or_else (bad_name name) (taken state.repos name))) (created state (edited comment distribution component (bare_repo name)))
repo_case state (repo_add name folder) = addition_case state name folder
repo_case state repo_list = plain_case None (changes (replies.repo_list state.repos) state)
repo_case state (repo_show packages name) = plain_case (bad_repo state name) (shown state name (unwrap_or packages false) (repo_of name state.repos))
repo_case state (repo_edit comment distribution component name) =
    plain_case (or_else (bad_settings comment distribution component) (or_else (bad_name name) (unknown state.repos name)))
    (changes (own.repo_edited name) (record state { repos = changed_in name (edited comment distribution component) state.repos }))
repo_case state (repo_rename before after) =
    plain_case (or_else (bad_name before) (or_else (bad_name after) (or_else (taken state.repos after) (unknown state.repos before))))
    (changes (own.repo_renamed before after) (repo_renamed_in state before after))
repo_case state (repo_drop name) =
    plain_case (or_else (bad_name name) (or_else (unknown state.repos name) (in_use kinds.Repo name state.publications)))
    (changes (own.repo_dropped name) (record state { repos = dropped repo_name name state.repos }))
repo_case state (repo_remove dry name queries) = removal_case state dry name queries
repo_case state (repo_copy dry deps follow source destination queries) = copy_case state dry deps follow source destination queries
repo_case state (repo_move dry deps follow source destination queries) = move_case state dry deps follow source destination queries
repo_case state (repo_import dry deps follow mirror repo queries) = import_case state dry deps follow mirror repo queries
