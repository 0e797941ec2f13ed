-- Laws of the cases of snapshots.
use Rattle.std.proofs.Common.{◌≢◌, ℕ, List, [], ◌∷◌, map, ap, Option, Some, None, Bool, true, false, unwrap_or, refl, inl, inr}
use Rattle.std.specs.Bool.{if◌then◌else◌}
use Rattle.command_value.specs.declared.command.Origin.TheVariants as origins
use Rattle.command_value.specs.Plain.{PlainFollow, SnapshotCommand, snapshot_create, snapshot_list, snapshot_show, snapshot_filter, snapshot_merge, snapshot_pull, snapshot_search, snapshot_rename, snapshot_drop}
use Rattle.package_core.specs.Card.{Card}
use Rattle.machine_state.specs.declared.limit.Kind.TheVariants as kinds
use Rattle.machine_state.specs.declared.snapshot.Snapshot.{Snapshot}
use Rattle.machine_state.specs.declared.arrived.Arrived.{Arrived}
use Rattle.machine_state.specs.Sources.{in_use, source_renamed}
use Rattle.machine_state.specs.Lists.{IsNamedList}
use Rattle.machine_state.specs.State.{Valid, snapshot_of}
use Rattle.machine_state.specs.Values.{StateView}
use Rattle.machine_state.proofs.ListLemmas.{named_kept, named_none}
use Rattle.package_choice.specs.Choice.{bad_follow}
use Rattle.package_choice.proofs.ChoiceLemmas.{kept_for, own_follow}
use Rattle.reply_text.specs.Replies.{package_search, packages_line}
use Rattle.reply_text.specs.Snapshots as replies
use Rattle.step_model.specs.declared.reading.Reading.TheVariants as readings
use Rattle.step_model.specs.Case.{changes, plain_case}
use Rattle.step_model.specs.Names.{bad_name}
use Rattle.step_model.specs.Lawful.{CommandLaw, IsLawful}
use Rattle.step_model.specs.Refuses.{IsReadable, reading}
use Rattle.mirror_lists.specs.Mirrors.{fetched_list_of, never_updated, unknown_mirror}
use Rattle.mirror_lists.proofs.MirrorLemmas.{fetched_list_named, own_mirror, own_updated}
use Rattle.snapshot_ops.specs.Cases.{MayArrive, bad_among, bad_copy, bad_drop, bad_empty, bad_fetched, bad_filter, bad_merge, bad_pair, bad_rename, bad_search, bad_snapshot, chosen_for, copy_case, drop_case, empty_case, fetched_case, filter_case, list_of, merge_case, rename_case, repo_list_of, search_case, show_case, shown, snapshot_case, snapshot_renamed_in, taken, unknown, unknown_among, unknown_repo, without_snapshot}
use Rattle.snapshot_pull.specs.Pulls.{flags_of}
use Rattle.snapshot_pull.proofs.LawfulLemmas.{pull_lawful, pull_reads}
use Rattle.snapshot_ops.specs.Merges.{merge_of, way_of}
use Rattle.snapshot_ops.specs.Replies as own
use Rattle.snapshot_ops.proofs.CaseLemmas.{first_none, second_none}
use Rattle.snapshot_ops.proofs.JoinLemmas.{named_behind}
use Rattle.snapshot_ops.proofs.LawLemmas.{Keeps, Own, asking_law, changing, created_keeps, front_some, line_some, list_named, lists_named, made_keeps, merge_own, name_is, own_bad, own_else, own_missing, own_name, own_repo, own_snapshot, own_taken, own_unknown, own_used, plain_law, repo_list_named, telling}
use Rattle.snapshot_ops.proofs.StateLemmas.{valid_dropped, valid_renamed}

module _ (state : StateView) (May : Arrived → Type 0) where
  -- ---- new snapshots

  empty_law : (name : List ℕ) → IsLawful state May (empty_case state name)
  empty_law name =
      plain_law state May (bad_empty state name) _
      (created_keeps state (bad_empty state name) name (λ e. name_is name (first_none (bad_name name) (taken state.snapshots name) e))
      (own_else (bad_name name) (taken state.snapshots name) (own_name name) (own_taken state.snapshots name)) [] (λ v e. named_none state.known))

  copy_law : (name repo : List ℕ) → IsLawful state May (copy_case state name repo)
  copy_law name repo =
      plain_law state May (bad_copy state name repo) _
      (created_keeps state (bad_copy state name repo) name (λ e. name_is name (first_none (bad_name name) _ e))
      (own_else (bad_name name) _ (own_name name) (own_else (bad_name repo) _ (own_name repo) (own_else (taken state.snapshots name) (unknown_repo state.repos repo) (own_taken state.snapshots name) (own_repo state.repos repo))))
      (repo_list_of state repo) (λ v e. repo_list_named state repo v))

  fetched_law : (name mirror : List ℕ) → IsLawful state May (fetched_case state name mirror)
  fetched_law name mirror =
      plain_law state May (bad_fetched state name mirror) _
      (created_keeps state (bad_fetched state name mirror) name (λ e. name_is name (first_none (bad_name name) _ e))
      (own_else (bad_name name) _ (own_name name) (own_else (bad_name mirror) _ (own_name mirror) (own_else (taken state.snapshots name) _ (own_taken state.snapshots name)
      (own_else (unknown_mirror state.mirrors mirror) (never_updated state mirror) (own_mirror state.mirrors mirror) (own_updated state mirror)))))
      (fetched_list_of state mirror) (λ v e. fetched_list_named state mirror v))

  -- what is chosen is a list by name
  chosen_named : (deps : Option Bool) (follow : PlainFollow) (name : List ℕ) (queries : List (List ℕ)) → Valid state → IsNamedList state.known (chosen_for state deps follow name queries)
  chosen_named deps follow name queries v =
      kept_for (IsNamedList state.known) (unwrap_or deps false) follow (list_of state name) queries (λ test. named_kept state.known (list_of state name) test (list_named state name v))

  own_pair : (source destination : List ℕ) → Own (bad_pair state source destination)
  own_pair source destination =
      own_else (bad_name source) _ (own_name source) (own_else (bad_name destination) _ (own_name destination) (own_else (taken state.snapshots destination) (unknown state.snapshots source) (own_taken state.snapshots destination) (own_unknown state.snapshots source)))

  filter_law : (deps : Option Bool) (follow : PlainFollow) (source destination : List ℕ) (queries : List (List ℕ)) → IsLawful state May (filter_case state deps follow source destination queries)
  filter_law deps follow source destination queries =
      asking_law state May (bad_filter state follow source destination) queries _
      (created_keeps state (bad_filter state follow source destination) destination (λ e. name_is destination (first_none (bad_name destination) _ (second_none (bad_name source) _ (second_none (bad_follow follow) _ e))))
      (own_else (bad_follow follow) (bad_pair state source destination) (own_follow follow) (own_pair source destination))
      (chosen_for state deps follow source queries) (λ v e. chosen_named deps follow source queries v))

  merge_law : (newest no_remove : Bool) (destination : List ℕ) (sources : List (List ℕ)) → IsLawful state May (merge_case state newest no_remove destination sources)
  merge_law newest no_remove destination sources =
      plain_law state May (bad_merge state destination sources) _
      (made_keeps state (bad_merge state destination sources) destination (λ e. name_is destination (first_none (bad_name destination) _ e))
      (own_else (bad_name destination) _ (own_name destination) (own_else (bad_among sources) _ (own_bad sources) (own_else (taken state.snapshots destination) (unknown_among state.snapshots sources) (own_taken state.snapshots destination) (own_missing state.snapshots sources))))
      (merge_of (way_of newest no_remove) (map (list_of state) sources))
      (λ list is v e. named_behind state.known (way_of newest no_remove) [] (map (list_of state) sources) list (named_none state.known) (lists_named state sources v) is)
      (λ refusal is. merge_own (way_of newest no_remove) [] (map (list_of state) sources) refusal is))

  -- ---- what is shown

  listed_some : (snapshots : List Snapshot) → replies.snapshot_list snapshots ≢ []
  unfolding replies.snapshot_list
  listed_some snapshots = front_some _ _ (line_some _)

  list_law : IsLawful state May (plain_case None (changes (replies.snapshot_list state.snapshots) state))
  list_law = plain_law state May None _ (telling state None _ (listed_some state.snapshots) tt)

  shown_some : (snapshot : Snapshot) (packages : Bool) → replies.snapshot_show snapshot packages ≢ []
  unfolding replies.snapshot_show
  shown_some snapshot packages = front_some _ _ (front_some _ _ (line_some _))

  shown_keeps : (name : List ℕ) (packages : Bool) (o : Option Snapshot) → Keeps state (bad_snapshot state name) (shown state name packages o)
  shown_keeps name packages None = record { valid = λ v e. tt; says = tt; knows = λ arrived. tt; own = own_snapshot state name; told = λ arrived. inl tt }
  shown_keeps name packages (Some snapshot) = telling state (bad_snapshot state name) _ (shown_some snapshot packages) (own_snapshot state name)

  show_law : (packages : Bool) (name : List ℕ) → IsLawful state May (show_case state packages name)
  show_law packages name = plain_law state May (bad_snapshot state name) _ (shown_keeps name packages (snapshot_of name state.snapshots))

  count_some : (n : ℕ) → packages_line n ≢ []
  unfolding packages_line
  count_some n = line_some _

  searched_some : (list : List Card) → package_search list ≢ []
  unfolding package_search
  searched_some list = front_some _ _ (count_some _)

  search_law : (deps : Option Bool) (follow : PlainFollow) (name query : List ℕ) → IsLawful state May (search_case state deps follow name query)
  search_law deps follow name query =
      asking_law state May (bad_search state follow name) (query ∷ []) _
      (telling state (bad_search state follow name) _ (searched_some (chosen_for state deps follow name (query ∷ []))) (own_else (bad_follow follow) (bad_snapshot state name) (own_follow follow) (own_snapshot state name)))

  -- ---- names

  renamed_some : (before after : List ℕ) → own.snapshot_renamed before after ≢ []
  unfolding own.snapshot_renamed
  renamed_some before after = line_some _

  rename_law : (before after : List ℕ) → IsLawful state May (rename_case state before after)
  rename_law before after =
      plain_law state May (bad_rename state before after) _
      (changing state (snapshot_renamed_in state before after) (bad_rename state before after) _
      (λ v e. valid_renamed state v before after (name_is after (first_none (bad_name after) _ (second_none (bad_name before) _ e))))
      (renamed_some before after) refl (λ none. ap (map (source_renamed kinds.Snapshot before after)) none)
      (own_else (bad_name before) _ (own_name before) (own_else (bad_name after) _ (own_name after) (own_else (taken state.snapshots after) (unknown state.snapshots before) (own_taken state.snapshots after) (own_unknown state.snapshots before)))))

  dropped_some : (name : List ℕ) → own.snapshot_dropped name ≢ []
  unfolding own.snapshot_dropped
  dropped_some name = line_some _

  drop_law : (name : List ℕ) → IsLawful state May (drop_case state name)
  drop_law name =
      plain_law state May (bad_drop state name) _
      (changing state (without_snapshot state name) (bad_drop state name) _
      (λ v e. valid_dropped state v name (second_none (unknown state.snapshots name) _ (second_none (bad_name name) _ e)))
      (dropped_some name) refl (λ none. none)
      (own_else (bad_name name) _ (own_name name) (own_else (unknown state.snapshots name) (in_use kinds.Snapshot name state.publications) (own_unknown state.snapshots name) (own_used kinds.Snapshot name state.publications))))

-- ---- all of them

pub lawful : (c : SnapshotCommand) → CommandLaw (λ state. snapshot_case state c) MayArrive
unfolding snapshot_case
lawful (snapshot_create name origins.Empty) = inr (λ inbox state. empty_law state _ name)
lawful (snapshot_create name (origins.Repo repo)) = inr (λ inbox state. copy_law state _ name repo)
lawful (snapshot_create name (origins.Mirror mirror)) = inr (λ inbox state. fetched_law state _ name mirror)
lawful snapshot_list = inr (λ inbox state. list_law state _)
lawful (snapshot_show packages name) = inr (λ inbox state. show_law state _ (unwrap_or packages false) name)
lawful (snapshot_filter deps follow source destination queries) = inr (λ inbox state. filter_law state _ deps follow source destination queries)
lawful (snapshot_merge newest no_remove destination sources) = inr (λ inbox state. merge_law state _ (unwrap_or newest false) (unwrap_or no_remove false) destination sources)
lawful (snapshot_pull all dry no_deps no_remove follow name source destination queries) = pull_lawful dry (flags_of all no_deps no_remove follow) follow name source destination queries
lawful (snapshot_search deps follow name query) = inr (λ inbox state. search_law state _ deps follow name query)
lawful (snapshot_rename before after) = inr (λ inbox state. rename_law state _ before after)
lawful (snapshot_drop name) = inr (λ inbox state. drop_law state _ name)

-- ---- what is read

nothing_read : (b : Bool) → IsReadable (if b then readings.Nothing else readings.Nothing)
nothing_read true = tt
nothing_read false = tt

pub snapshot_reads : (state : StateView) (c : SnapshotCommand) → IsReadable (reading (snapshot_case state c))
unfolding snapshot_case
snapshot_reads state (snapshot_create name origins.Empty) = nothing_read _
snapshot_reads state (snapshot_create name (origins.Repo repo)) = nothing_read _
snapshot_reads state (snapshot_create name (origins.Mirror mirror)) = nothing_read _
snapshot_reads state snapshot_list = tt
snapshot_reads state (snapshot_show packages name) = nothing_read _
snapshot_reads state (snapshot_filter deps follow source destination queries) = nothing_read _
snapshot_reads state (snapshot_merge newest no_remove destination sources) = nothing_read _
snapshot_reads state (snapshot_pull all dry no_deps no_remove follow name source destination queries) = pull_reads state dry (flags_of all no_deps no_remove follow) follow name source destination queries
snapshot_reads state (snapshot_search deps follow name query) = nothing_read _
snapshot_reads state (snapshot_rename before after) = nothing_read _
snapshot_reads state (snapshot_drop name) = nothing_read _
