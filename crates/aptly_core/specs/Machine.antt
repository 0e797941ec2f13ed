-- The machine of the program: what the operations of a command keep to.
use Rattle.std.specs.Prelude.{◌≡◌, ◌⊎◌, ℕ, ◌≤◌, ◌||◌, Bool, List, [], ◌∷◌, length, Option, None, MatchOption, false, IsTrue, IsSome, IfSome, codes}
use Rattle.ap_text.specs.Paths.{is_below}
use Rattle.ap_host.specs.declared.host.Op.{Op}
use Rattle.ap_host.specs.declared.host.Op.TheVariants.{Create, Append, Sync, Rename, Remove, Barrier, Say, Claim}
use Rattle.ap_host.specs.Disk.{Path, Log, live_of}
use Rattle.ap_host.specs.Changes.{EachOp}
use Rattle.command_words.specs.Plain.{PlainCommand}
use Rattle.run_model.specs.Run.{Outcome, Machine, IsFront}
use Rattle.stage_file.specs.Stage.{is_staged}
use Rattle.hash_pool.specs.Names.{is_pooled}
use Rattle.hash_pool.specs.Growth.{targets, IsOnce}
use Rattle.machine_state.specs.declared.refusal.Refusal.{Refusal}
use Rattle.machine_state.specs.State.{Valid}
use Rattle.machine_state.specs.Values.{StateView}
use Rattle.step_model.specs.declared.reading.Reading.TheVariants as readings
use Rattle.machine_step.specs.Removal.{is_to_remove}
use Rattle.machine_step.specs.Step.{Given, Step, read_for}
use Rattle.catalogue_root.specs.Commits.{IsTarget, Sets}
use Rattle.catalogue_root.specs.Store.{store}

-- What the machine goes from and to. So far it is the state alone; a map of files that commands look at would stand beside it.
abbrev pub Place : Type 0
Place = StateView

-- in a call that is given this, the command, in this state, may come to this
abbrev pub Steps : Given → Option (List ℕ) → Place → PlainCommand → Outcome Place Refusal → Type 0
Steps given = Step given

abbrev pub is_below_one : Path → Bool
is_below_one path = is_below (codes "db") path || is_pooled path || is_below (codes "public") path

-- An operation of a command. Files are written in the folder of staged files alone, in pieces of at most 65,536 bytes, and
-- renamed from there.
abbrev pub IsWork : Op → Type 0
IsWork (Create p) = IsTrue (is_staged p)
IsWork (Append p bytes) = IsTrue (is_staged p) × (length bytes ≤ 65536)
IsWork (Sync p) = IsTrue (is_staged p)
IsWork (Rename a b) = IsTrue (is_staged a) × IsTrue (is_below_one b)
IsWork (Remove p) = IsTrue (is_staged p || is_below_one p)
IsWork Barrier = Unit {0}
IsWork (Say bytes) = Unit {0}
IsWork (Claim got) = ⊥

-- an operation of an opening, which removes staged files
abbrev pub IsOpening : Op → Type 0
IsOpening (Remove p) = IsTrue (is_staged p)
IsOpening Barrier = Unit {0}
IsOpening (Claim got) = Unit {0}
IsOpening _ = ⊥

-- an operation of a refused command: it removes nothing, and sets pool files alone that weren't there
abbrev pub IsIdle : Log → Op → Type 0
IsIdle l (Rename a b) = IsTrue (is_pooled b) × (live_of l b ≡ None)
IsIdle l (Remove p) = ⊥
IsIdle l _ = Unit {0}

-- the operation removes a file
abbrev pub IsRemoval : Op → Type 0
IsRemoval (Remove p) = Unit {0}
IsRemoval _ = ⊥

-- no more than the reply is said, or its front, and nothing else is done
abbrev pub SaysAtMost : List ℕ → List Op → Type 0
SaysAtMost reply ops = (ops ≡ []) ⊎ ((part : List ℕ) × IsFront part reply × (ops ≡ Say part ∷ []))

-- each is one that a commit sets, or a pool file that wasn't there
abbrev pub AreTargets : Log → List Path → Type 0
AreTargets l [] = Unit {0}
AreTargets l (p ∷ ps) = (IsTarget l p ⊎ (IsTrue (is_pooled p) × (live_of l p ≡ None))) × AreTargets l ps

-- what the operations of one command keep to, from the log at its start on
pub record Moves (given : Given) (l : Log) (state : Place) (command : PlainCommand) (outcome : Option (Outcome Place Refusal)) (ops : List Op) : Type 0 where
  pub work : EachOp IsWork ops
  pub once : IsOnce (targets ops)
  pub targets : AreTargets l (targets ops)
  pub refused : IfSome outcome (λ o. IsSome o.refusal → EachOp (IsIdle l) ops)
  -- what leaves the state as it was sets no root
  pub unchanged : IfSome outcome (λ o. o.state ≡ state → EachOp (λ op. ¬ Sets op) ops)
  -- a command that reads nothing and leaves the state as it was says its reply, and does nothing else, unless it is done and is to remove
  -- files
  pub quiet : read_for given.now state command ≡ readings.Nothing → MatchOption outcome (ops ≡ []) (λ o. o.state ≡ state → ((is_to_remove command ≡ false) ⊎ IsSome o.refusal) → SaysAtMost o.reply ops)
  -- only a command that is to remove files removes any
  pub removes : is_to_remove command ≡ false → EachOp (λ op. ¬ IsRemoval op) ops

-- what the operations of an opening keep to
pub record Opening (l : Log) (state : Place) (ops : List Op) : Type 0 where
  pub kinds : EachOp IsOpening ops
  pub once : IsOnce (targets ops)

-- the machine of a call that is given this
abbrev pub machine : Given → Machine (Option (List ℕ)) Place PlainCommand Refusal
machine given = record { Valid = Valid; Step = Steps given; store = store; Sets = Sets; Moves = Moves given; Opening = Opening }
