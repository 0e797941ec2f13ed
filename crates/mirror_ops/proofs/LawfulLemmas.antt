-- Laws of the cases of mirrors.
use Rattle.std.proofs.Common.{◌≢◌, ℕ, List, [], Option, Some, None, Bool, true, false, unwrap_or, refl, inl, inr}
use Rattle.std.specs.Bool.{if◌then◌else◌}
use Rattle.command_value.specs.Plain.{MirrorCommand, mirror_create, mirror_update, mirror_list, mirror_show, mirror_rename, mirror_drop}
use Rattle.machine_state.specs.declared.arrived.Arrived.{Arrived}
use Rattle.machine_state.specs.Named.{dropped, renamed}
use Rattle.machine_state.specs.State.{mirror_name, mirror_of}
use Rattle.machine_state.specs.Values.{MirrorView, StateView}
use Rattle.reply_text.specs.Mirrors as replies
use Rattle.step_model.specs.declared.reading.Reading.TheVariants as readings
use Rattle.step_model.specs.Case.{Case, changes, plain_case}
use Rattle.step_model.specs.Names.{bad_name}
use Rattle.step_model.specs.Lawful.{CommandLaw, IsLawful}
use Rattle.step_model.specs.Refuses.{reading}
use Rattle.step_model.proofs.OwnLemmas.{first_none, own_else, own_name, second_none}
use Rattle.mirror_lists.specs.Mirrors.{unknown_mirror}
use Rattle.mirror_lists.proofs.MirrorLemmas.{own_mirror}
use Rattle.mirror_ops.specs.Settings.{asked, bad_settings, bare_mirror, filtered}
use Rattle.mirror_ops.specs.Cases.{MayArrive, ReadsArchive, bad_create, bad_mirror, bad_rename, called, create_case, drop_case, mirror_case, rename_case, show_case, shown, taken, update_case}
use Rattle.mirror_ops.proofs.LawLemmas.{Keeps, asking_law, changing, created_keeps, front_some, line_some, mirror_is, name_is, own_called, own_settings, own_taken, plain_law, telling}
use Rattle.mirror_ops.proofs.StateLemmas.{valid_dropped, valid_renamed}
use Rattle.mirror_ops.proofs.UpdateCases.{Fit, update_law}

module _ (state : StateView) (May : Arrived → Type 0) where
  create_law : (architectures : Option (List (List ℕ))) (filter : Option (List ℕ)) (deps : Option Bool) (name archive distribution : List ℕ) (components : List (List ℕ))
      → IsLawful state May (create_case state architectures filter deps name archive distribution components)
  create_law architectures filter deps name archive distribution components =
      asking_law state May (bad_create state architectures filter name archive distribution components) (asked filter) _
      (created_keeps state (bad_create state architectures filter name archive distribution components) (filtered filter deps (bare_mirror architectures name archive distribution components))
      (λ e. mirror_is architectures filter deps name archive distribution components (first_none (bad_settings architectures filter name archive distribution components) (taken state.mirrors name) e)) refl
      (own_else (bad_settings architectures filter name archive distribution components) (taken state.mirrors name) (own_settings architectures filter name archive distribution components) (own_taken state.mirrors name)))

  -- ---- what is shown

  listed_some : (mirrors : List MirrorView) → replies.mirror_list mirrors ≢ []
  unfolding replies.mirror_list
  listed_some mirrors = front_some _ _ (line_some _)

  list_law : IsLawful state May (plain_case None (changes (replies.mirror_list state.mirrors) state))
  list_law = plain_law state May None _ (telling state None _ (listed_some state.mirrors) tt)

  origin_some : (name archive distribution : List ℕ) → replies.origin_lines name archive distribution ≢ []
  unfolding replies.origin_lines
  origin_some name archive distribution = front_some _ _ (line_some _)

  shown_some : (mirror : MirrorView) (packages : Bool) → replies.mirror_show mirror packages ≢ []
  unfolding replies.mirror_show
  shown_some mirror packages = front_some _ _ (front_some _ _ (front_some _ _ (origin_some mirror.name mirror.archive mirror.distribution)))

  shown_keeps : (name : List ℕ) (packages : Bool) (o : Option MirrorView) → Keeps state (bad_mirror state name) (shown state name packages o)
  shown_keeps name packages None = record { valid = λ v e. tt; says = tt; knows = λ arrived. tt; own = own_called state name; told = λ arrived. inl tt }
  shown_keeps name packages (Some mirror) = telling state (bad_mirror state name) _ (shown_some mirror packages) (own_called state name)

  show_law : (packages : Bool) (name : List ℕ) → IsLawful state May (show_case state packages name)
  show_law packages name = plain_law state May (bad_mirror state name) _ (shown_keeps name packages (mirror_of name state.mirrors))

  -- ---- names

  renamed_some : (before after : List ℕ) → replies.mirror_renamed before after ≢ []
  unfolding replies.mirror_renamed
  renamed_some before after = line_some _

  rename_law : (before after : List ℕ) → IsLawful state May (rename_case state before after)
  rename_law before after =
      plain_law state May (bad_rename state before after) _
      (changing state (renamed mirror_name called before after state.mirrors) (bad_rename state before after) _
      (λ v e. valid_renamed state v before after (name_is after (first_none (bad_name after) _ (second_none (bad_name before) _ e))))
      (renamed_some before after)
      (own_else (bad_name before) _ (own_name before) (own_else (bad_name after) _ (own_name after) (own_else (taken state.mirrors after) (unknown_mirror state.mirrors before) (own_taken state.mirrors after) (own_mirror state.mirrors before)))))

  dropped_some : (name : List ℕ) → replies.mirror_dropped name ≢ []
  unfolding replies.mirror_dropped
  dropped_some name = line_some _

  drop_law : (name : List ℕ) → IsLawful state May (drop_case state name)
  drop_law name =
      plain_law state May (bad_mirror state name) _
      (changing state (dropped mirror_name name state.mirrors) (bad_mirror state name) _ (λ v e. valid_dropped state v name) (dropped_some name) (own_called state name))

-- ---- all of them

-- where what arrives for a mirror fits
pub lawful : Fit → (c : MirrorCommand) → CommandLaw (λ state. mirror_case state c) MayArrive
unfolding mirror_case
lawful fit (mirror_create architectures filter deps name archive distribution components) = inr (λ inbox state. create_law state _ architectures filter deps name archive distribution components)
lawful fit (mirror_update name) = inr (λ inbox state. update_law fit inbox state name)
lawful fit mirror_list = inr (λ inbox state. list_law state _)
lawful fit (mirror_show packages name) = inr (λ inbox state. show_law state _ (unwrap_or packages false) name)
lawful fit (mirror_rename before after) = inr (λ inbox state. rename_law state _ before after)
lawful fit (mirror_drop name) = inr (λ inbox state. drop_law state _ name)

-- ---- what is read

nothing_read : (case : Case) (b : Bool) → ReadsArchive case (if b then readings.Nothing else readings.Nothing)
nothing_read case true = tt
nothing_read case false = tt

archive_read : (state : StateView) (name : List ℕ) (b : Bool) → ReadsArchive (update_case state name) (if b then readings.Nothing else readings.Mirror name)
archive_read state name true = tt
archive_read state name false = (refl, λ refusal. refl)

pub mirror_reads : (state : StateView) (c : MirrorCommand) → ReadsArchive (mirror_case state c) (reading (mirror_case state c))
unfolding mirror_case
mirror_reads state (mirror_create architectures filter deps name archive distribution components) = nothing_read (create_case state architectures filter deps name archive distribution components) _
mirror_reads state (mirror_update name) = archive_read state name _
mirror_reads state mirror_list = tt
mirror_reads state (mirror_show packages name) = nothing_read (show_case state (unwrap_or packages false) name) _
mirror_reads state (mirror_rename before after) = nothing_read (rename_case state before after) _
mirror_reads state (mirror_drop name) = nothing_read (drop_case state name) _
