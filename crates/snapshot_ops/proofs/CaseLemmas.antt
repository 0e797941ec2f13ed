-- What the commands of snapshots come to, by how it goes.
use Rattle.std.proofs.Common.{◌≡◌, ℕ, List, Option, Some, None, Bool, inr, sym, subst, refl, ap, ◌∙◌}
use Rattle.std.specs.Global.{Vec}
use Rattle.command_value.specs.declared.command.Command.{Command}
use Rattle.command_value.specs.declared.command.Command.TheVariants as commands
use Rattle.command_value.specs.declared.command.Follow.{Follow}
use Rattle.command_value.specs.declared.command.Origin.{Origin}
use Rattle.command_value.specs.declared.command.Origin.TheVariants as origins
use Rattle.command_value.specs.Plain.{PlainCommand, PlainFollow, SnapshotCommand, plain, of_snapshot, snapshot_create, snapshot_list, snapshot_show, snapshot_filter, snapshot_merge, snapshot_search, snapshot_rename, snapshot_drop}
use Rattle.machine_state.specs.declared.limit.Kind.TheVariants as kinds
use Rattle.machine_state.specs.declared.change.ChangeFault.{ChangeFault}
use Rattle.machine_state.specs.declared.refusal.Refusal.{Refusal}
use Rattle.machine_state.specs.declared.refusal.Refusal.TheVariants.{NotBuilt}
use Rattle.machine_state.specs.declared.arrived.Arrived.{Arrived}
use Rattle.machine_state.specs.declared.repo.Repo.{Repo}
use Rattle.machine_state.specs.Sources.{in_use}
use Rattle.machine_state.specs.Values.{PublicationView, StateView}
use Rattle.reply_text.specs.Snapshots as replies
use Rattle.step_model.specs.declared.reading.Reading.TheVariants as readings
use Rattle.step_model.specs.Case.{Case, Came, changes, refuses, or_else, plain_case, unbuilt}
use Rattle.step_model.specs.Answers.{ComesTo, FaultIs, IsFirst, IsRefusedFor, IsWanted}
use Rattle.step_model.proofs.FaultLemmas.{fault_map}
use Rattle.step_model.proofs.RefusalLemmas.{passes, reads_on}
pub use Rattle.step_model.proofs.OwnLemmas.{first_none, second_none}
pub use Rattle.snapshot_pull.proofs.CaseLemmas.{asking_told, is_free, is_there, taken_along, unknown_along}
use Rattle.snapshot_ops.specs.Cases.{copy_case, empty_case, fetched_case, snapshot_case, unknown_repo}

-- ---- names

pub repo_along : (repos : List Repo) (n m : List ℕ) (fault : ChangeFault) → n ≡ m → IsFirst (unknown_repo repos n) fault → IsFirst (unknown_repo repos m) fault
repo_along repos n m fault f h = subst (λ (k : List ℕ). IsFirst (unknown_repo repos k) fault) f h

pub used_along : (publications : List PublicationView) (n m : List ℕ) (fault : ChangeFault) → n ≡ m → IsFirst (in_use kinds.Snapshot n publications) fault → IsFirst (in_use kinds.Snapshot m publications) fault
used_along publications n m fault f h = subst (λ (k : List ℕ). IsFirst (in_use kinds.Snapshot k publications) fault) f h

-- ---- commands without queries

module _ (early : Option Refusal) (came : Came) (good : early ≡ None) where
  -- it comes to what its case says
  pub plain_comes : (arrived : Arrived) (comes : Came) → came ≡ comes → ComesTo None (plain_case early came) arrived comes
  plain_comes arrived comes e = (passes None (plain_case early came) good refl refl, e)

  -- and is refused so
  pub plain_refused : (arrived : Arrived) (fault : ChangeFault) → FaultIs (λ refusal. came ≡ refuses refusal) fault → FaultIs (IsRefusedFor None (plain_case early came) arrived) fault
  plain_refused arrived fault h = fault_map (λ refusal. came ≡ refuses refusal) (IsRefusedFor None (plain_case early came) arrived) fault (λ refusal e. inr (plain_comes arrived (refuses refusal) e)) h

  -- nothing is wanted for it
  pub plain_wanted : IsWanted None (plain_case early came) readings.Nothing
  plain_wanted = (passes None (plain_case early came) good refl refl, sym (reads_on (plain_case early came) good refl))

-- ---- which command it is

-- what a command is among those of snapshots
abbrev case_in : StateView → PlainCommand → Case
case_in state (of_snapshot c) = snapshot_case state c
case_in state command = unbuilt

-- a command that is seen otherwise
pub case_along : (state : StateView) (command : Command) (c d : SnapshotCommand) → plain command ≡ of_snapshot c → plain command ≡ of_snapshot d → snapshot_case state c ≡ snapshot_case state d
case_along state command c d e f = sym (ap (case_in state) e) ∙ ap (case_in state) f

module _ (command : Command)
    (a : (name : List ℕ) (origin : Origin) → command ≡ commands.SnapshotCreate name origin → ⊥)
    (b : command ≡ commands.SnapshotList → ⊥)
    (d : (packages : Option Bool) (name : List ℕ) → command ≡ commands.SnapshotShow packages name → ⊥)
    (e : (deps : Option Bool) (follow : Follow) (source destination : List ℕ) (queries : Vec (List ℕ)) → command ≡ commands.SnapshotFilter deps follow source destination queries → ⊥)
    (f : (latest no_remove : Option Bool) (destination : List ℕ) (sources : Vec (List ℕ)) → command ≡ commands.SnapshotMerge latest no_remove destination sources → ⊥)
    (p : (all dry no_deps no_remove : Option Bool) (follow : Follow) (name source destination : List ℕ) (queries : Vec (List ℕ)) → command ≡ commands.SnapshotPull all dry no_deps no_remove follow name source destination queries → ⊥)
    (g : (deps : Option Bool) (follow : Follow) (name query : List ℕ) → command ≡ commands.SnapshotSearch deps follow name query → ⊥)
    (h : (before after : List ℕ) → command ≡ commands.SnapshotRename before after → ⊥)
    (k : (name : List ℕ) → command ≡ commands.SnapshotDrop name → ⊥) where
  unbuilt_in : (state : StateView) (other : Command) → command ≡ other → case_in state (plain other) ≡ unbuilt
  unfolding snapshot_case
  unbuilt_in state (commands.SnapshotCreate name origin) is = absurd (a name origin is)
  unbuilt_in state commands.SnapshotList is = absurd (b is)
  unbuilt_in state (commands.SnapshotShow packages name) is = absurd (d packages name is)
  unbuilt_in state (commands.SnapshotFilter deps follow source destination queries) is = absurd (e deps follow source destination queries is)
  unbuilt_in state (commands.SnapshotMerge latest no_remove destination sources) is = absurd (f latest no_remove destination sources is)
  unbuilt_in state (commands.SnapshotPull all dry no_deps no_remove follow name source destination queries) is = absurd (p all dry no_deps no_remove follow name source destination queries is)
  unbuilt_in state (commands.SnapshotSearch deps follow name query) is = absurd (g deps follow name query is)
  unbuilt_in state (commands.SnapshotRename before after) is = absurd (h before after is)
  unbuilt_in state (commands.SnapshotDrop name) is = absurd (k name is)
  unbuilt_in state other is = refl

  -- each other command isn't built
  pub other_early : (state : StateView) (c : SnapshotCommand) → plain command ≡ of_snapshot c → (snapshot_case state c).early ≡ Some NotBuilt
  other_early state c is = ap (λ (q : Case). q.early) (sym (ap (case_in state) is) ∙ unbuilt_in state command refl)

-- a command of one verb is of no other
pub is_create : (command : Command) (name : List ℕ) (origin : Origin) → plain command ≡ of_snapshot (snapshot_create name origin) → ((name : List ℕ) (origin : Origin) → command ≡ commands.SnapshotCreate name origin → ⊥) → ⊥
is_create (commands.SnapshotCreate n o) name origin e not = not n o refl
is_create command name origin e not = absurd (cc)

pub is_show : (command : Command) (packages : Option Bool) (name : List ℕ) → plain command ≡ of_snapshot (snapshot_show packages name) → ((packages : Option Bool) (name : List ℕ) → command ≡ commands.SnapshotShow packages name → ⊥) → ⊥
is_show (commands.SnapshotShow p n) packages name e not = not p n refl
is_show command packages name e not = absurd (cc)

pub is_filter : (command : Command) (deps : Option Bool) (follow : PlainFollow) (source destination : List ℕ) (queries : List (List ℕ)) → plain command ≡ of_snapshot (snapshot_filter deps follow source destination queries)
    → ((deps : Option Bool) (follow : Follow) (source destination : List ℕ) (queries : Vec (List ℕ)) → command ≡ commands.SnapshotFilter deps follow source destination queries → ⊥) → ⊥
is_filter (commands.SnapshotFilter d f s t q) deps follow source destination queries e not = not d f s t q refl
is_filter command deps follow source destination queries e not = absurd (cc)

pub is_merge : (command : Command) (latest no_remove : Option Bool) (destination : List ℕ) (sources : List (List ℕ)) → plain command ≡ of_snapshot (snapshot_merge latest no_remove destination sources)
    → ((latest no_remove : Option Bool) (destination : List ℕ) (sources : Vec (List ℕ)) → command ≡ commands.SnapshotMerge latest no_remove destination sources → ⊥) → ⊥
is_merge (commands.SnapshotMerge l n d s) latest no_remove destination sources e not = not l n d s refl
is_merge command latest no_remove destination sources e not = absurd (cc)

pub is_search : (command : Command) (deps : Option Bool) (follow : PlainFollow) (name query : List ℕ) → plain command ≡ of_snapshot (snapshot_search deps follow name query)
    → ((deps : Option Bool) (follow : Follow) (name query : List ℕ) → command ≡ commands.SnapshotSearch deps follow name query → ⊥) → ⊥
is_search (commands.SnapshotSearch d f n q) deps follow name query e not = not d f n q refl
is_search command deps follow name query e not = absurd (cc)

pub is_rename : (command : Command) (before after : List ℕ) → plain command ≡ of_snapshot (snapshot_rename before after) → ((before after : List ℕ) → command ≡ commands.SnapshotRename before after → ⊥) → ⊥
is_rename (commands.SnapshotRename a b) before after e not = not a b refl
is_rename command before after e not = absurd (cc)

pub is_drop : (command : Command) (name : List ℕ) → plain command ≡ of_snapshot (snapshot_drop name) → ((name : List ℕ) → command ≡ commands.SnapshotDrop name → ⊥) → ⊥
is_drop (commands.SnapshotDrop n) name e not = not n refl
is_drop command name e not = absurd (cc)

-- ---- new snapshots, by their origin

pub create_empties : (state : StateView) (name : List ℕ) (origin : Origin) → origin ≡ origins.Empty → snapshot_case state (snapshot_create name origin) ≡ empty_case state name
unfolding snapshot_case
create_empties state name origin e = ap (λ (o : Origin). snapshot_case state (snapshot_create name o)) e

pub create_copies : (state : StateView) (name : List ℕ) (origin : Origin) (repo : List ℕ) → origin ≡ origins.Repo repo → snapshot_case state (snapshot_create name origin) ≡ copy_case state name repo
unfolding snapshot_case
create_copies state name origin repo e = ap (λ (o : Origin). snapshot_case state (snapshot_create name o)) e

pub create_fetches : (state : StateView) (name : List ℕ) (origin : Origin) (mirror : List ℕ) → origin ≡ origins.Mirror mirror → snapshot_case state (snapshot_create name origin) ≡ fetched_case state name mirror
unfolding snapshot_case
create_fetches state name origin mirror e = ap (λ (o : Origin). snapshot_case state (snapshot_create name o)) e

-- four checks that find nothing
pub all_none : (a b c d : Option Refusal) → a ≡ None → b ≡ None → c ≡ None → d ≡ None → or_else a (or_else b (or_else c d)) ≡ None
all_none a b c d e f g h = (λ i. or_else (e i) (or_else (f i) (or_else (g i) (h i))))

pub list_wanted : (state : StateView) → IsWanted None (snapshot_case state snapshot_list) readings.Nothing
unfolding snapshot_case
list_wanted state = plain_wanted None (changes (replies.snapshot_list state.snapshots) state) refl
