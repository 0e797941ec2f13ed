-- The law of pulls.
use Rattle.std.proofs.Common.{◌≡◌, ◌≢◌, ℕ, List, [], Option, None, Bool, true, false, unwrap_or, Result, Ok, Err, refl, inr}
use Rattle.std.specs.Bool.{if◌then◌else◌}
use Rattle.std.specs.List.{flat_map}
use Rattle.package_core.specs.Card.{Card}
use Rattle.package_list.specs.Lists.{without}
use Rattle.package_list.specs.declared.fault.ListFault.{ListFault}
use Rattle.package_list.specs.declared.fault.ListFault.TheVariants as faults
use Rattle.command_value.specs.Plain.{PlainFollow}
use Rattle.depend_pull.specs.declared.flags.PullFlags.{PullFlags}
use Rattle.depend_pull.specs.Pull as pulls
use Rattle.machine_state.specs.declared.limit.Limit.TheVariants as limits
use Rattle.machine_state.specs.declared.refusal.Refusal.{Refusal}
use Rattle.machine_state.specs.declared.refusal.Refusal.TheVariants.{Conflict, Limit}
use Rattle.machine_state.specs.declared.arrived.Arrived.{Arrived}
use Rattle.machine_state.specs.Lists.{IsNamedList}
use Rattle.machine_state.specs.State.{Valid}
use Rattle.machine_state.specs.Values.{StateView}
use Rattle.machine_state.proofs.ListLemmas.{named_kept, named_union}
use Rattle.package_choice.specs.Choice.{bad_follow}
use Rattle.package_choice.proofs.ChoiceLemmas.{own_follow}
use Rattle.reply_text.specs.DryRuns.{coming_line, dry_run_of, going_line}
use Rattle.step_model.specs.declared.reading.Reading.TheVariants as readings
use Rattle.step_model.specs.Names.{bad_name}
use Rattle.step_model.specs.Lawful.{IsOwn, CommandLaw, IsLawful}
use Rattle.step_model.specs.Refuses.{IsReadable, reading}
use Rattle.step_model.proofs.OwnLemmas.{Own, first_none, own_else, own_name, second_none}
use Rattle.snapshot_pull.specs.Pulls.{MayArrive, bad_ends, bad_pull, became, came_or, pull_refused, pull_case, pulled_onto, taken_for, too_long}
use Rattle.snapshot_pull.specs.Replies.{snapshot_pulled}
use Rattle.snapshot_pull.specs.Snapshots.{list_of, taken, unknown}
use Rattle.snapshot_pull.proofs.JoinLemmas.{named_merged}
use Rattle.snapshot_pull.proofs.LawLemmas.{Keeps, asking_law, behind_some, line_some, list_named, name_is, own_taken, own_unknown, refusing, room_keeps, room_made, telling}

-- ---- refusals

own_ends : (state : StateView) (name source destination : List ℕ) → Own (bad_ends state name source destination)
own_ends state name source destination =
    own_else (bad_name name) _ (own_name name)
    (own_else (bad_name source) _ (own_name source)
    (own_else (bad_name destination) _ (own_name destination)
    (own_else (taken state.snapshots destination) _ (own_taken state.snapshots destination)
    (own_else (unknown state.snapshots name) (unknown state.snapshots source) (own_unknown state.snapshots name) (own_unknown state.snapshots source)))))

own_pull : (state : StateView) (follow : PlainFollow) (name source destination : List ℕ) → Own (bad_pull state follow name source destination)
own_pull state follow name source destination = own_else (bad_follow follow) (bad_ends state name source destination) (own_follow follow) (own_ends state name source destination)

-- ---- replies

pulled_some : (name : List ℕ) (packages added removed : ℕ) → snapshot_pulled name packages added removed ≢ []
unfolding snapshot_pulled
pulled_some name packages added removed = line_some _

dry_run_some : (going coming : List Card) → dry_run_of going coming ≢ []
unfolding dry_run_of
dry_run_some going coming = behind_some (flat_map going_line going) _ (behind_some (flat_map coming_line coming) _ (line_some _))

-- ---- what is made

-- no refusal of a limit is of a pattern
own_limit : (b : Bool) → IsOwn (if b then Limit limits.Snapshots else Limit limits.Packages)
own_limit true = tt
own_limit false = tt

own_too_long : (state : StateView) → IsOwn (too_long state)
own_too_long state = own_limit _

-- what comes to a list by name, where it can
named_pulled : (known base more : List Card) (remove : Bool) → IsNamedList known base → IsNamedList known more → pulls.pull_answer remove base more ≡ Ok tt → IsNamedList known (pulls.pulled remove base more)
named_pulled known base more true n m h = named_merged known base more n m h
named_pulled known base more false n m h = named_union known base more n m h

module _ (state : StateView) (early : Option Refusal) (good : Own early) (destination : List ℕ) (is : early ≡ None → bad_name destination ≡ None) (base : List Card) where
  became_keeps : (dry : Bool) (list : List Card) → (Valid state → early ≡ None → IsNamedList state.known list) → Keeps state early (became state dry destination base list)
  became_keeps true list named = room_keeps state early _ good (λ few. telling state early _ (dry_run_some (without base list) (without list base)) good)
  became_keeps false list named = room_made state early destination (λ e. name_is destination (is e)) good list named _ (pulled_some destination _ _ _)

  onto_keeps : (dry remove : Bool) (more : List Card) → (Valid state → IsNamedList state.known base) → (Valid state → IsNamedList state.known more) → Keeps state early (pulled_onto state dry remove destination base more)
  onto_keeps dry remove more n m = by_answer (pulls.pull_answer remove base more) refl
    where
      by_answer : (r : Result (Unit {0}) ListFault) → pulls.pull_answer remove base more ≡ r → Keeps state early (came_or (pull_refused state r) (became state dry destination base (pulls.pulled remove base more)))
      by_answer (Ok u) e = became_keeps dry (pulls.pulled remove base more) (λ v first. named_pulled state.known base more remove (n v) (m v) e)
      by_answer (Err (faults.Conflict triple)) e = refusing state early (Conflict triple) tt good
      by_answer (Err faults.Full) e = refusing state early (too_long state) (own_too_long state) good
      by_answer (Err faults.OutOfMemory) e = refusing state early (too_long state) (own_too_long state) good

-- ---- the command

pub pull_law : (state : StateView) (May : Arrived → Type 0) (dry : Option Bool) (flags : PullFlags) (follow : PlainFollow) (name source destination : List ℕ) (queries : List (List ℕ)) → IsLawful state May (pull_case state dry flags follow name source destination queries)
unfolding pull_case
pull_law state May dry flags follow name source destination queries =
    asking_law state May (bad_pull state follow name source destination) queries _
    (onto_keeps state (bad_pull state follow name source destination) (own_pull state follow name source destination) destination
    (λ e. first_none (bad_name destination) _ (second_none (bad_name source) _ (second_none (bad_name name) _ (second_none (bad_follow follow) _ e))))
    (list_of state name) (unwrap_or dry false) flags.remove (taken_for flags follow.architectures (list_of state name) (list_of state source) queries)
    (λ v. list_named state name v) (λ v. named_kept state.known (list_of state source) _ (list_named state source v)))

pub pull_lawful : (dry : Option Bool) (flags : PullFlags) (follow : PlainFollow) (name source destination : List ℕ) (queries : List (List ℕ)) → CommandLaw (λ state. pull_case state dry flags follow name source destination queries) MayArrive
pull_lawful dry flags follow name source destination queries = inr (λ inbox state. pull_law state _ dry flags follow name source destination queries)

nothing_read : (b : Bool) → IsReadable (if b then readings.Nothing else readings.Nothing)
nothing_read true = tt
nothing_read false = tt

pub pull_reads : (state : StateView) (dry : Option Bool) (flags : PullFlags) (follow : PlainFollow) (name source destination : List ℕ) (queries : List (List ℕ)) → IsReadable (reading (pull_case state dry flags follow name source destination queries))
unfolding pull_case
pull_reads state dry flags follow name source destination queries = nothing_read _
