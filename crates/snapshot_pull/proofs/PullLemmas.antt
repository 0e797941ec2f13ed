-- What pulls come to, by how it goes.
use Rattle.std.proofs.Common.{◌≡◌, ◌∙◌, ◌++◌, ℕ, List, length, map, Option, Some, None, Bool, false, Result, Ok, Err, refl, sym, ap}
use Rattle.std.specs.Result.{OnOk}
use Rattle.package_core.specs.Card.{Card}
use Rattle.package_list.specs.Lists.{without}
use Rattle.package_list.specs.declared.fault.ListFault.{ListFault}
use Rattle.query_tree.specs.Tree.{Tree}
use Rattle.query_grammar.specs.Said.{query_of}
use Rattle.command_value.specs.declared.command.Command.{Command}
use Rattle.command_value.specs.declared.command.Command.TheVariants as commands
use Rattle.command_value.specs.declared.command.Follow.{Follow}
use Rattle.command_value.specs.Plain.{PlainCommand, PlainFollow, plain, of_snapshot, snapshot_pull}
use Rattle.std.specs.Global.{Vec}
use Rattle.depend_pull.specs.declared.flags.PullFlags.{PullFlags}
use Rattle.depend_pull.specs.Pull as pulls
use Rattle.machine_state.specs.declared.refusal.Refusal.{Refusal}
use Rattle.machine_state.specs.declared.snapshot.Snapshot.{Snapshot}
use Rattle.machine_state.specs.State.{snapshot_of}
use Rattle.machine_state.specs.Values.{StateView}
use Rattle.package_choice.specs.Choice.{archs_for, bad_follow}
use Rattle.package_choice.proofs.ChoiceLemmas.{trees_are}
use Rattle.reply_text.specs.DryRuns.{dry_run_of}
use Rattle.step_model.specs.Case.{Case, changes, refuses, or_else, unbuilt}
use Rattle.step_model.specs.Names.{bad_name}
use Rattle.step_model.proofs.OwnLemmas.{first_none, second_none}
use Rattle.snapshot_pull.specs.Pulls.{bad_pull, became, came_or, flags_of, pull_refused, pull_case, pulled_onto, taken_for}
use Rattle.snapshot_pull.specs.Replies.{snapshot_pulled}
use Rattle.snapshot_pull.specs.Snapshots.{list_in, list_of, made, taken, unknown}

-- ---- checks

-- two checks that find nothing
pub both_none : {X E : Type 0} (r : Result X E) (first second : Option Refusal) → first ≡ None → OnOk r (second ≡ None) → OnOk r (or_else first second ≡ None)
both_none (Ok x) first second e h = ap (λ (o : Option Refusal). or_else o second) e ∙ h
both_none (Err fault) first second e h = tt

-- what holds anyway
pub on_any : {X E P : Type 0} (r : Result X E) → P → OnOk r P
on_any (Ok x) h = h
on_any (Err fault) h = tt

-- where nothing is refused the name of what is made is free
pub ends_free : (state : StateView) (follow : PlainFollow) (name source destination : List ℕ) → bad_pull state follow name source destination ≡ None → taken state.snapshots destination ≡ None
ends_free state follow name source destination h =
    first_none (taken state.snapshots destination) (or_else (unknown state.snapshots name) (unknown state.snapshots source))
    (second_none (bad_name destination) _ (second_none (bad_name source) _ (second_none (bad_name name) _ (second_none (bad_follow follow) _ h))))

-- ---- what is made

-- what is taken, with architectures and queries that are seen otherwise
pub taken_as : (flags : PullFlags) (written : Option (List (List ℕ))) (archs : List (List ℕ)) (base source : List Card) (queries : List (List ℕ)) (asked : List Tree) → archs ≡ archs_for written (base ++ source) → map query_of queries ≡ map Ok asked
    → taken_for flags written base source queries ≡ pulls.taken flags archs base source asked
taken_as flags written archs base source queries asked a q = (λ i. pulls.taken flags (sym a i) base source (trees_are queries asked q i))

module _ (state : StateView) (dry remove : Bool) (destination : List ℕ) (base more wanted : List Card) (same : wanted ≡ more) where
  -- the base can take it
  pub onto_came : (list : List Card) → pulls.pull_answer remove base more ≡ Ok tt → list ≡ pulls.pulled remove base more → pulled_onto state dry remove destination base wanted ≡ became state dry destination base list
  onto_came list good is =
      ap (λ (l : List Card). pulled_onto state dry remove destination base l) same
      ∙ ap (λ (a : Result (Unit {0}) ListFault). came_or (pull_refused state a) (became state dry destination base (pulls.pulled remove base more))) good
      ∙ ap (became state dry destination base) (sym is)

  -- it can't
  pub onto_refused : (refusal : Refusal) → pull_refused state (pulls.pull_answer remove base more) ≡ Err refusal → pulled_onto state dry remove destination base wanted ≡ refuses refusal
  onto_refused refusal e =
      ap (λ (l : List Card). pulled_onto state dry remove destination base l) same
      ∙ ap (λ (a : Result (Unit {0}) Refusal). came_or a (became state dry destination base (pulls.pulled remove base more))) e

module _ (state : StateView) (destination : List ℕ) (base list added removed : List Card) (came : added ≡ without list base) (went : removed ≡ without base list) where
  -- what a dry run tells
  pub told_so : (reply : List ℕ) → reply ≡ dry_run_of removed added → changes (dry_run_of (without base list) (without list base)) state ≡ changes reply state
  told_so reply e = ap (λ (t : List ℕ). changes t state) (sym (e ∙ (λ i. dry_run_of (went i) (came i))))

  -- what is made
  pub made_so : (reply : List ℕ) → reply ≡ snapshot_pulled destination (length list) (length added) (length removed) → became state false destination base list ≡ made state reply destination list
  made_so reply e = ap (λ (t : List ℕ). made state t destination list) (sym (e ∙ (λ i. snapshot_pulled destination (length list) (length (came i)) (length (went i)))))

-- the same pull of lists and of a name that are seen otherwise
pub pulled_as : (state : StateView) (dry seen : Bool) (flags : PullFlags) (written : Option (List (List ℕ))) (name source destination : List ℕ) (queries : List (List ℕ)) (base more : Snapshot) (to : List ℕ)
    → seen ≡ dry → snapshot_of name state.snapshots ≡ Some base → snapshot_of source state.snapshots ≡ Some more → to ≡ destination
    → pulled_onto state dry flags.remove destination (list_of state name) (taken_for flags written (list_of state name) (list_of state source) queries)
    ≡ pulled_onto state seen flags.remove to base.list (taken_for flags written base.list more.list queries)
pulled_as state dry seen flags written name source destination queries base more to d b m t =
    (λ i. pulled_onto state (sym d i) flags.remove (sym t i) (list_in (b i)) (taken_for flags written (list_in (b i)) (list_in (m i)) queries))

-- a command of this verb is of no other
pub is_pull : (command : Command) (all dry no_deps no_remove : Option Bool) (follow : PlainFollow) (name source destination : List ℕ) (queries : List (List ℕ))
    → plain command ≡ of_snapshot (snapshot_pull all dry no_deps no_remove follow name source destination queries)
    → ((all dry no_deps no_remove : Option Bool) (follow : Follow) (name source destination : List ℕ) (queries : Vec (List ℕ)) → command ≡ commands.SnapshotPull all dry no_deps no_remove follow name source destination queries → ⊥) → ⊥
is_pull (commands.SnapshotPull a d n r f m s t q) all dry no_deps no_remove follow name source destination queries e not = not a d n r f m s t q refl
is_pull command all dry no_deps no_remove follow name source destination queries e not = absurd (cc)

-- ---- which command it is

-- what a command is that is a pull
abbrev case_in : StateView → PlainCommand → Case
case_in state (of_snapshot (snapshot_pull all dry no_deps no_remove follow name source destination queries)) = pull_case state dry (flags_of all no_deps no_remove follow) follow name source destination queries
case_in state command = unbuilt

-- the same pull, with queries and flags that are seen otherwise
pub case_along : (state : StateView) (command : Command) (all dry no_deps no_remove : Option Bool) (follow : PlainFollow) (name source destination : List ℕ) (queries : List (List ℕ))
    → (a d n r : Option Bool) (f : PlainFollow) (m s t : List ℕ) (q seen : List (List ℕ)) {flags : PullFlags}
    → plain command ≡ of_snapshot (snapshot_pull all dry no_deps no_remove follow name source destination queries) → plain command ≡ of_snapshot (snapshot_pull a d n r f m s t q)
    → q ≡ seen → flags ≡ flags_of a n r f
    → pull_case state dry (flags_of all no_deps no_remove follow) follow name source destination queries ≡ pull_case state d flags f m s t seen
case_along state command all dry no_deps no_remove follow name source destination queries a d n r f m s t q seen {flags} e is same e2 =
    sym (ap (case_in state) e) ∙ ap (case_in state) is ∙ (λ i. pull_case state d (sym e2 i) f m s t (same i))
