-- What a whole call did.
use Rattle.std.specs.Prelude.{◌≡◌, ◌⊎◌, ◌↔◌, ℕ, true, false, List, [], ◌∷◌, ◌++◌, Option, Some, None, Result, OnOk, codes, option_map, if◌then◌else◌}
use Rattle.ap_host.specs.declared.host.Op.{Op}
use Rattle.ap_host.specs.declared.host.Op.TheVariants.{Barrier, Say, Claim}
use Rattle.ap_host.specs.Disk.{Files, Log, extended, live_of, said, Images}
use Rattle.ap_host.specs.Changes.{EachOp}
use Rattle.run_model.specs.Run.{IsFront}
use Rattle.run_model.specs.Call.{Entry, RanAll, HandOverLaw, fresh}
use Rattle.command_words.specs.Plain.{PlainCommand, of_other, db_cleanup}
use Rattle.command_words.specs.Commands as words_spell
use Rattle.command_words.specs.Commands.{IsUsagePlace}
use Rattle.machine_state.specs.declared.refusal.Refusal.{Refusal}
use Rattle.machine_state.specs.State.{empty}
use Rattle.machine_step.specs.Step.{Given}
use Rattle.reply_text.specs.Refusals.{usage_line}
use Rattle.catalogue_root.specs.declared.damage.Damage.{Damage}
use Rattle.aptly_core.specs.declared.status.Status.{Status}
use Rattle.aptly_core.specs.declared.status.Status.TheVariants.{Done, Refused, Usage, HostFault, InboxFault, OutOfMemory, Damaged, Busy}
use Rattle.aptly_core.specs.Machine.{Place, machine, IsWork}
use Rattle.aptly_core.specs.Opens.{IsDamagedOrFault}
use Rattle.aptly_core.specs.Runs.{EndsWith, SaysRefusal}
use Rattle.aptly_core.specs.Apart.{Apart}
use Rattle.catalogue_root.specs.Loads.{IsDamage, RootApart}
use Rattle.catalogue_root.specs.Store.{store, Sound, SoundForNone, Stored}

-- Nothing, or a claim that wasn't got and nothing more, or one that was got and then no other. Behind it files are written
-- below `stage/` alone, in pieces of at most 65,536 bytes, and renamed from there.
abbrev pub ClaimsFirst : List Op → Type 0
ClaimsFirst [] = Unit {0}
ClaimsFirst (op ∷ ops) = ((op ≡ Claim false) × (ops ≡ [])) ⊎ ((op ≡ Claim true) × EachOp IsWork ops)

abbrev pub GotClaim : List Op → Type 0
GotClaim ops = (rest : List Op) × (ops ≡ Claim true ∷ rest)

-- words alone
abbrev pub IsSaid : Op → Type 0
IsSaid (Say bytes) = Unit {0}
IsSaid _ = ⊥

-- What the words ask for: the commands that they spell. As long as its archive isn't made, `demo` is one command that isn't
-- built: the last of those that it stands for.
abbrev pub asked : List (List ℕ) → Option (List PlainCommand)
asked words = option_map (λ commands. if words_spell.is_first (codes "demo") words then of_other db_cleanup ∷ [] else commands) (words_spell.commands words)

-- what a whole call that ends with this status did, from an entry for s
abbrev pub CallTo : Given → Option (List ℕ) → Log → Place → Place → List PlainCommand → Status → List Op → Type 0
CallTo given large l s t commands Done ops = (end : Place) × RanAll (machine given) large l s t commands (Some (end, None)) ops
CallTo given large l s t commands (Refused refusal) ops = (end : Place) × RanAll (machine given) large l s t commands (Some (end, Some refusal)) ops
CallTo given large l s t commands HostFault ops = RanAll (machine given) large l s t commands None ops
CallTo given large l s t commands InboxFault ops = RanAll (machine given) large l s t commands None ops
CallTo given large l s t commands OutOfMemory ops = RanAll (machine given) large l s t commands None ops
CallTo given large l s t commands (Usage place) ops = ⊥
CallTo given large l s t commands (Damaged damage) ops = ⊥
CallTo given large l s t commands Busy ops = (ops ≡ Claim false ∷ []) × RanAll (machine given) large l s t commands None ops

-- The call of these commands.
pub record Called (given : Given) (Told : Option (List ℕ) → Type 0) (commands : List PlainCommand) (status : Status) (l : Log) (ops : List Op) : Type 0 where
  -- whatever the store held
  pub first : ClaimsFirst ops
  pub busy : (status ≡ Busy) ↔ (ops ≡ Claim false ∷ [])
  -- a damaged store was claimed and left as it was. It stands for no state, and the damage is there
  pub damaged : (damage : Damage) → status ≡ Damaged damage → (ops ≡ Claim true ∷ Barrier ∷ []) × (RootApart (live_of l) → SoundForNone (live_of l) × IsDamage (live_of l) damage)
  -- and one that stands for no state is told to be damaged, but for a fault
  pub none : SoundForNone (live_of l) → GotClaim ops → IsDamagedOrFault status
  -- the refused command's line was said, and it is refused so
  pub refused : (refusal : Refusal) → status ≡ Refused refusal → SaysRefusal refusal ops × ((s : Place) → Sound (live_of l) s → RootApart (live_of l) → EndsWith given Told s commands status)
  -- from any entry: the run of these commands
  pub run : (s t : Place) → Entry store l s t → Apart given (live_of l) s commands → (large : Option (List ℕ)) × Told large × CallTo given large l s t commands status ops

-- the usage line of this place was said, where the answer is Ok, or its front, and nothing else was done
pub record SaysUsage {T E : Type 0} (place : ℕ) (result : Result T E) (ops : List Op) : Type 0 where
  pub first : EachOp IsSaid ops
  pub whole : OnOk result (ops ≡ Say (usage_line place) ∷ [])
  pub front : IsFront (said ops) (usage_line place)

-- the same, where the status is that of its place
pub record TellsUsage (place : ℕ) (status : Status) (ops : List Op) : Type 0 where
  pub first : EachOp IsSaid ops
  pub usage : (p : ℕ) → status ≡ Usage p → ops ≡ Say (usage_line p) ∷ []
  pub front : IsFront (said ops) (usage_line place)

-- The words spell no commands: the usage line is said, or its front, and nothing else is done.
pub record ToldUsage (words : List (List ℕ)) (status : Status) (ops : List Op) : Type 0 where
  pub first : EachOp IsSaid ops
  pub usage : (place : ℕ) → status ≡ Usage place → ops ≡ Say (usage_line place) ∷ []
  pub front : (said ops ≡ []) ⊎ ((place : ℕ) × IsUsagePlace words place × IsFront (said ops) (usage_line place))

-- what a call ends with from an entry, where no fault rose
abbrev pub IsRunAnswer : Status → Type 0
IsRunAnswer Done = Unit {0}
IsRunAnswer (Refused refusal) = Unit {0}
IsRunAnswer OutOfMemory = Unit {0}
IsRunAnswer _ = ⊥

-- what it ends with where the store stands for no state
abbrev pub IsDamagedAnswer : Status → Type 0
IsDamagedAnswer (Damaged damage) = Unit {0}
IsDamagedAnswer OutOfMemory = Unit {0}
IsDamagedAnswer _ = ⊥

-- what words that spell no commands end with
abbrev pub IsUsageAnswer : Status → Type 0
IsUsageAnswer (Usage place) = Unit {0}
IsUsageAnswer HostFault = Unit {0}
IsUsageAnswer OutOfMemory = Unit {0}
IsUsageAnswer _ = ⊥

-- A call with these words, in which the host's count of faults rose or the inbox's, or not.
pub record CalledWith (words : List (List ℕ)) (given : Given) (Told : Option (List ℕ) → Type 0) (HostRose InboxRose : Type 0) (status : Status) (l : Log) (ops : List Op) : Type 0 where
  pub usage : words_spell.commands words ≡ None → ToldUsage words status ops
  pub called : (commands : List PlainCommand) → asked words ≡ Some commands → Called given Told commands status l ops
  -- complete: want of memory alone is free
  pub answers : (commands : List PlainCommand) → asked words ≡ Some commands → ¬ HostRose → ¬ InboxRose → GotClaim ops → (s t : Place) → Entry store l s t → Apart given (live_of l) s commands → IsRunAnswer status
  pub damaged : (commands : List PlainCommand) → asked words ≡ Some commands → ¬ HostRose → GotClaim ops → SoundForNone (live_of l) → IsDamagedAnswer status

-- Calls of commands hand over. Where the next begins hangs on the store alone: it may be given another inbox and another moment.
abbrev pub LawOfHandOver : Type 0
LawOfHandOver = (given : Given) → HandOverLaw (machine given)

-- Calls that say words alone, as one that ends with the usage line, leave a store as it was.
abbrev pub LawOfWords : Type 0
LawOfWords = (l : Log) (s t : Place) (ops : List Op) → Entry store l s t → EachOp IsSaid ops →
    Entry store (extended ops l) s t
    × ((before after : List Op) → before ++ after ≡ ops → Images (extended before l) (λ f. Entry store (fresh f) s s ⊎ Entry store (fresh f) t t))

-- a store with no file is one that a call may begin on
abbrev pub LawOfEmptyStore : Type 0
LawOfEmptyStore = Entry store (fresh (λ path. None)) empty empty
