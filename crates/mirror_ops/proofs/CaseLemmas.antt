-- What the commands of mirrors come to, by how it goes.
use Rattle.std.proofs.Common.{◌≡◌, ℕ, List, Option, Some, None, Bool, true, false, inr, sym, subst, refl, ap, ◌∙◌}
use Rattle.std.specs.Option.{is_some}
use Rattle.std.specs.Global.{Vec}
use Rattle.std.specs.Bool.{if◌then◌else◌}
use Rattle.command_value.specs.declared.command.Command.{Command}
use Rattle.command_value.specs.declared.command.Command.TheVariants as commands
use Rattle.command_value.specs.Plain.{PlainCommand, MirrorCommand, plain, of_mirror, mirror_create, mirror_update, mirror_list, mirror_show, mirror_rename, mirror_drop}
use Rattle.machine_state.specs.declared.limit.Kind.TheVariants as kinds
use Rattle.machine_state.specs.declared.change.ChangeFault.{ChangeFault}
use Rattle.machine_state.specs.declared.refusal.Refusal.{Refusal}
use Rattle.machine_state.specs.declared.refusal.Refusal.TheVariants.{Exists, Unknown, NotBuilt}
use Rattle.machine_state.specs.declared.arrived.Arrived.{Arrived}
use Rattle.machine_state.specs.State.{mirror_of}
use Rattle.machine_state.specs.Values.{MirrorView, StateView}
use Rattle.reply_text.specs.Mirrors as replies
use Rattle.step_model.specs.declared.reading.Reading.TheVariants as readings
use Rattle.step_model.specs.Case.{Case, Came, asking_case, changes, refuses, or_else, plain_case, unbuilt}
use Rattle.step_model.specs.Answers.{AreBuilt, ComesTo, FaultIs, IsFirst, IsRefusedFor, IsWanted, Told}
use Rattle.step_model.proofs.AskingLemmas.{asking_comes}
use Rattle.step_model.proofs.FaultLemmas.{fault_map}
use Rattle.step_model.proofs.RefusalLemmas.{passes, reads_on}
use Rattle.mirror_lists.specs.Mirrors.{unknown_mirror}
use Rattle.mirror_ops.specs.Cases.{IsCreate, IsDrop, IsRename, IsShow, IsUpdate, mirror_case, taken}

-- ---- names

pub taken_along : (mirrors : List MirrorView) (n m : List ℕ) (fault : ChangeFault) → n ≡ m → IsFirst (taken mirrors n) fault → IsFirst (taken mirrors m) fault
taken_along mirrors n m fault f h = subst (λ (k : List ℕ). IsFirst (taken mirrors k) fault) f h

pub is_free : (mirrors : List MirrorView) (name : List ℕ) → taken mirrors name ≡ None → is_some (mirror_of name mirrors) ≡ false
is_free mirrors name = by_found (is_some (mirror_of name mirrors))
  where
    by_found : (b : Bool) → (if b then Some (Exists kinds.Mirror name) else None) ≡ None → b ≡ false
    by_found true h = cc
    by_found false h = refl

pub is_there : (mirrors : List MirrorView) (name : List ℕ) → unknown_mirror mirrors name ≡ None → is_some (mirror_of name mirrors) ≡ true
is_there mirrors name = by_found (is_some (mirror_of name mirrors))
  where
    by_found : (b : Bool) → (if b then None else Some (Unknown kinds.Mirror name)) ≡ None → b ≡ true
    by_found true h = refl
    by_found false h = cc

-- ---- commands without queries

module _ (early : Option Refusal) (came : Came) (good : early ≡ None) where
  -- it comes to what its case says
  pub plain_comes : (arrived : Arrived) (comes : Came) → came ≡ comes → ComesTo None (plain_case early came) arrived comes
  plain_comes arrived comes e = (passes None (plain_case early came) good refl refl, e)

  -- nothing is wanted for it
  pub plain_wanted : IsWanted None (plain_case early came) readings.Nothing
  plain_wanted = (passes None (plain_case early came) good refl refl, sym (reads_on (plain_case early came) good refl))

-- a command with queries that is refused behind them
pub asking_told : (early : Option Refusal) (queries : List (List ℕ)) (came : Came) (old new : ℕ) (refused : Option (List ℕ)) (arrived : Arrived) (fault : ChangeFault) → early ≡ None → AreBuilt queries → FaultIs (λ refusal. came ≡ refuses refusal) fault
    → FaultIs (λ refusal. Told old new refused (λ large. IsRefusedFor large (asking_case early queries came) arrived refusal)) fault
asking_told early queries came old new refused arrived fault good built h =
    fault_map (λ refusal. came ≡ refuses refusal) (λ refusal. Told old new refused (λ large. IsRefusedFor large (asking_case early queries came) arrived refusal)) fault
    (λ refusal e. (None, tt, inr (asking_comes early queries came arrived (refuses refusal) good built e))) h

pub list_wanted : (state : StateView) → IsWanted None (mirror_case state mirror_list) readings.Nothing
unfolding mirror_case
list_wanted state = plain_wanted None (changes (replies.mirror_list state.mirrors) state) refl

-- ---- which command it is

-- what a command is among those of mirrors
abbrev case_in : StateView → PlainCommand → Case
case_in state (of_mirror c) = mirror_case state c
case_in state command = unbuilt

-- a command that is seen otherwise
pub case_along : (state : StateView) (command : Command) (c d : MirrorCommand) → plain command ≡ of_mirror c → plain command ≡ of_mirror d → mirror_case state c ≡ mirror_case state d
case_along state command c d e f = sym (ap (case_in state) e) ∙ ap (case_in state) f

-- it is no new mirror
abbrev pub NoCreate : Command → Type 0
NoCreate command =
    (architectures : Option (Vec (List ℕ))) (filter : Option (List ℕ)) (deps : Option Bool) (name archive distribution : List ℕ) (components : Vec (List ℕ))
    → command ≡ commands.MirrorCreate architectures filter deps name archive distribution components → ⊥

module _ (command : Command)
    (a : NoCreate command)
    (u : (name : List ℕ) → command ≡ commands.MirrorUpdate name → ⊥)
    (b : command ≡ commands.MirrorList → ⊥)
    (d : (packages : Option Bool) (name : List ℕ) → command ≡ commands.MirrorShow packages name → ⊥)
    (h : (before after : List ℕ) → command ≡ commands.MirrorRename before after → ⊥)
    (k : (name : List ℕ) → command ≡ commands.MirrorDrop name → ⊥) where
  unbuilt_in : (state : StateView) (other : Command) → command ≡ other → case_in state (plain other) ≡ unbuilt
  unfolding mirror_case
  unbuilt_in state (commands.MirrorCreate architectures filter deps name archive distribution components) is = absurd (a architectures filter deps name archive distribution components is)
  unbuilt_in state (commands.MirrorUpdate name) is = absurd (u name is)
  unbuilt_in state commands.MirrorList is = absurd (b is)
  unbuilt_in state (commands.MirrorShow packages name) is = absurd (d packages name is)
  unbuilt_in state (commands.MirrorRename before after) is = absurd (h before after is)
  unbuilt_in state (commands.MirrorDrop name) is = absurd (k name is)
  unbuilt_in state other is = refl

  -- another command isn't one of mirrors
  pub other_early : (state : StateView) (c : MirrorCommand) → plain command ≡ of_mirror c → (mirror_case state c).early ≡ Some NotBuilt
  other_early state c is = ap (λ (q : Case). q.early) (sym (ap (case_in state) is) ∙ unbuilt_in state command refl)

-- a command of one verb is of no other
pub is_create : (command : Command) (c : MirrorCommand) → plain command ≡ of_mirror c → IsCreate c → NoCreate command → ⊥
is_create (commands.MirrorCreate a f w n r d k) c e is not = not a f w n r d k refl
is_create command (mirror_create architectures filter deps name archive distribution components) e is not = absurd (cc)
is_create command c e is not = absurd is

pub is_update : (command : Command) (c : MirrorCommand) → plain command ≡ of_mirror c → IsUpdate c → ((name : List ℕ) → command ≡ commands.MirrorUpdate name → ⊥) → ⊥
is_update (commands.MirrorUpdate n) c e is not = not n refl
is_update command (mirror_update name) e is not = absurd (cc)
is_update command c e is not = absurd is

pub is_show : (command : Command) (c : MirrorCommand) → plain command ≡ of_mirror c → IsShow c → ((packages : Option Bool) (name : List ℕ) → command ≡ commands.MirrorShow packages name → ⊥) → ⊥
is_show (commands.MirrorShow p n) c e is not = not p n refl
is_show command (mirror_show packages name) e is not = absurd (cc)
is_show command c e is not = absurd is

pub is_rename : (command : Command) (c : MirrorCommand) → plain command ≡ of_mirror c → IsRename c → ((before after : List ℕ) → command ≡ commands.MirrorRename before after → ⊥) → ⊥
is_rename (commands.MirrorRename a b) c e is not = not a b refl
is_rename command (mirror_rename before after) e is not = absurd (cc)
is_rename command c e is not = absurd is

pub is_drop : (command : Command) (c : MirrorCommand) → plain command ≡ of_mirror c → IsDrop c → ((name : List ℕ) → command ≡ commands.MirrorDrop name → ⊥) → ⊥
is_drop (commands.MirrorDrop n) c e is not = not n refl
is_drop command (mirror_drop name) e is not = absurd (cc)
is_drop command c e is not = absurd is

-- two checks that find nothing
pub both_none : (a b : Option Refusal) → a ≡ None → b ≡ None → or_else a b ≡ None
both_none a b e f = (λ i. or_else (e i) (f i))
