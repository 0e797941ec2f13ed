-- Of which verb a command of repositories is.
use Rattle.command_value.specs.Plain.{RepoCommand, repo_create, repo_add, repo_show, repo_edit, repo_remove, repo_copy, repo_move, repo_import, repo_rename, repo_drop}

abbrev pub IsCreate : RepoCommand → Type 0
IsCreate (repo_create comment distribution component name) = Unit {0}
IsCreate c = ⊥

abbrev pub IsAdd : RepoCommand → Type 0
IsAdd (repo_add name folder) = Unit {0}
IsAdd c = ⊥

abbrev pub IsShow : RepoCommand → Type 0
IsShow (repo_show packages name) = Unit {0}
IsShow c = ⊥

abbrev pub IsEdit : RepoCommand → Type 0
IsEdit (repo_edit comment distribution component name) = Unit {0}
IsEdit c = ⊥

abbrev pub IsRename : RepoCommand → Type 0
IsRename (repo_rename before after) = Unit {0}
IsRename c = ⊥

abbrev pub IsDrop : RepoCommand → Type 0
IsDrop (repo_drop name) = Unit {0}
IsDrop c = ⊥

abbrev pub IsRemove : RepoCommand → Type 0
IsRemove (repo_remove dry name queries) = Unit {0}
IsRemove c = ⊥

abbrev pub IsCopy : RepoCommand → Type 0
IsCopy (repo_copy dry deps follow source destination queries) = Unit {0}
IsCopy c = ⊥

abbrev pub IsMove : RepoCommand → Type 0
IsMove (repo_move dry deps follow source destination queries) = Unit {0}
IsMove c = ⊥

abbrev pub IsImport : RepoCommand → Type 0
IsImport (repo_import dry deps follow mirror repo queries) = Unit {0}
IsImport c = ⊥

-- a command that reads nothing and asks no query
abbrev pub IsNamed : RepoCommand → Type 0
IsNamed (repo_add name folder) = ⊥
IsNamed (repo_remove dry name queries) = ⊥
IsNamed (repo_copy dry deps follow source destination queries) = ⊥
IsNamed (repo_move dry deps follow source destination queries) = ⊥
IsNamed (repo_import dry deps follow mirror repo queries) = ⊥
IsNamed c = Unit {0}
