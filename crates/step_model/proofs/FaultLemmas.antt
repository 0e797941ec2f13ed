-- Faults of the calls of a step, by how it goes.
use Rattle.std.proofs.Common.{◌≡◌, ℕ, List, Option, Some, None, Result, Ok, Err, inl, refl, sym, ap, subst}
use Rattle.std.specs.Result.{IfOk, IfErr, IsErrAnd}
use Rattle.machine_state.specs.declared.change.Change.{Change}
use Rattle.machine_state.specs.declared.change.ChangeFault.{ChangeFault}
use Rattle.machine_state.specs.declared.change.ChangeFault.TheVariants as faults
use Rattle.machine_state.specs.declared.refusal.Refusal.{Refusal}
use Rattle.machine_state.specs.declared.refusal.Refusal.TheVariants.{PatternTooLarge}
use Rattle.machine_state.specs.declared.arrived.Arrived.{Arrived}
use Rattle.machine_state.specs.Values.{StateView}
use Rattle.step_model.specs.declared.reading.Reading.{Reading}
use Rattle.step_model.specs.Case.{Case, or_else}
use Rattle.step_model.specs.Refuses.{Refuses}
use Rattle.step_model.specs.Answers.{came, ComesTo, FaultIs, IsFirst, IsMemory, IsRefusedFor, IsWanted, KeepsBut, KeepsText, Told}
use Rattle.step_model.proofs.RefusalLemmas.{refuses_first}

pub fault_memory : (P : Refusal → Type 0) (fault : ChangeFault) → IsMemory fault → FaultIs P fault
fault_memory P (faults.Refused refusal) e = absurd e
fault_memory P faults.OutOfMemory e = tt

pub fault_map : (P Q : Refusal → Type 0) (fault : ChangeFault) → ((refusal : Refusal) → P refusal → Q refusal) → FaultIs P fault → FaultIs Q fault
fault_map P Q (faults.Refused refusal) f p = f refusal p
fault_map P Q faults.OutOfMemory f p = tt

-- a refusal before patterns is one of the case
pub fault_refuses : (large : Option (List ℕ)) (case : Case) (fault : ChangeFault) → IsFirst case.early fault → FaultIs (λ refusal. Refuses large case (Some refusal)) fault
fault_refuses large case fault h = fault_map (λ refusal. case.early ≡ Some refusal) (λ refusal. Refuses large case (Some refusal)) fault (refuses_first large case) h

pub fault_first : (large : Option (List ℕ)) (case : Case) (arrived : Arrived) (fault : ChangeFault) → IsFirst case.early fault → FaultIs (IsRefusedFor large case arrived) fault
fault_first large case arrived fault h = fault_map (λ refusal. case.early ≡ Some refusal) (IsRefusedFor large case arrived) fault (λ refusal e. inl (refuses_first large case refusal e)) h

-- the second of two checks decides where the first finds nothing
pub second_decides : (first second : Option Refusal) (fault : ChangeFault) → first ≡ None → IsFirst second fault → IsFirst (or_else first second) fault
second_decides first second fault e h = subst (λ (o : Option Refusal). IsFirst (or_else o second) fault) (sym e) h

-- and the first where it finds something
pub first_decides : (first second : Option Refusal) (fault : ChangeFault) → IsFirst first fault → IsFirst (or_else first second) fault
first_decides first second fault h = fault_map (λ refusal. first ≡ Some refusal) (λ refusal. or_else first second ≡ Some refusal) fault (λ refusal e. ap (λ (o : Option Refusal). or_else o second) e) h

-- the exit of a `?` that hands its fault on
pub at_exit : {X : Type 0} (r : Result X ChangeFault) (fault : ChangeFault) (P : ChangeFault → Type 0) → IsErrAnd r (λ e. e ≡ fault) → P fault → IfErr r P
at_exit (Ok x) fault P h p = tt
at_exit (Err e) fault P h p = subst P (sym h) p

pub err_map : {X : Type 0} (r : Result X ChangeFault) (P Q : ChangeFault → Type 0) → ((e : ChangeFault) → P e → Q e) → IfErr r P → IfErr r Q
err_map (Ok x) P Q f h = tt
err_map (Err e) P Q f h = f e h

-- what holds of no text is told
pub told_none : (old new : ℕ) (refused : Option (List ℕ)) (P : Option (List ℕ) → Type 0) → P None → Told old new refused P
told_none old new refused P p = (None, tt, p)

pub told_map : (old new : ℕ) (refused : Option (List ℕ)) (P Q : Option (List ℕ) → Type 0) → ((text : Option (List ℕ)) → P text → Q text) → Told old new refused P → Told old new refused Q
told_map old new refused P Q f t = (t.0, t.1, f t.0 t.2)

-- ---- a case that is seen otherwise

pub ok_along : (large : Option (List ℕ)) (state : StateView) (a b : Case) (arrived : Arrived) (r : Result Change ChangeFault) → a ≡ b → IfOk r (λ change. ComesTo large b arrived (came state change)) → IfOk r (λ change. ComesTo large a arrived (came state change))
ok_along large state a b arrived r e h = subst (λ (k : Case). IfOk r (λ change. ComesTo large k arrived (came state change))) (sym e) h

pub fault_along : (large : Option (List ℕ)) (a b : Case) (arrived : Arrived) (r : Result Change ChangeFault) → a ≡ b → IfErr r (FaultIs (IsRefusedFor large b arrived)) → IfErr r (FaultIs (IsRefusedFor large a arrived))
fault_along large a b arrived r e h = subst (λ (k : Case). IfErr r (FaultIs (IsRefusedFor large k arrived))) (sym e) h

pub wanted_along : (large : Option (List ℕ)) (a b : Case) (r : Result Reading ChangeFault) → a ≡ b → IfOk r (IsWanted large b) → IfOk r (IsWanted large a)
wanted_along large a b r e h = subst (λ (k : Case). IfOk r (IsWanted large k)) (sym e) h

pub refuses_along : (large : Option (List ℕ)) (a b : Case) (r : Result Reading ChangeFault) → a ≡ b → IfErr r (FaultIs (λ refusal. Refuses large b (Some refusal))) → IfErr r (FaultIs (λ refusal. Refuses large a (Some refusal)))
refuses_along large a b r e h = subst (λ (k : Case). IfErr r (FaultIs (λ refusal. Refuses large k (Some refusal)))) (sym e) h

pub told_along : (old new : ℕ) (refused : Option (List ℕ)) (a b : Case) (r : Result Reading ChangeFault) → a ≡ b → IfErr r (FaultIs (λ refusal. Told old new refused (λ large. Refuses large b (Some refusal))))
    → IfErr r (FaultIs (λ refusal. Told old new refused (λ large. Refuses large a (Some refusal))))
told_along old new refused a b r e h = subst (λ (k : Case). IfErr r (FaultIs (λ refusal. Told old new refused (λ large. Refuses large k (Some refusal))))) (sym e) h

pub refused_along : (old new : ℕ) (refused : Option (List ℕ)) (a b : Case) (arrived : Arrived) (r : Result Change ChangeFault) → a ≡ b → IfErr r (FaultIs (λ refusal. Told old new refused (λ large. IsRefusedFor large b arrived refusal)))
    → IfErr r (FaultIs (λ refusal. Told old new refused (λ large. IsRefusedFor large a arrived refusal)))
refused_along old new refused a b arrived r e h = subst (λ (k : Case). IfErr r (FaultIs (λ refusal. Told old new refused (λ large. IsRefusedFor large k arrived refusal)))) (sym e) h

-- ---- what is told of no text

pub ok_told : (old new : ℕ) (refused : Option (List ℕ)) (state : StateView) (case : Case) (arrived : Arrived) (r : Result Change ChangeFault) → IfOk r (λ change. ComesTo None case arrived (came state change))
    → IfOk r (λ change. Told old new refused (λ large. ComesTo large case arrived (came state change)))
ok_told old new refused state case arrived (Ok change) h = (None, tt, h)
ok_told old new refused state case arrived (Err fault) h = tt

pub fault_told : (old new : ℕ) (refused : Option (List ℕ)) (case : Case) (arrived : Arrived) (r : Result Change ChangeFault) → IfErr r (FaultIs (IsRefusedFor None case arrived))
    → IfErr r (FaultIs (λ refusal. Told old new refused (λ large. IsRefusedFor large case arrived refusal)))
fault_told old new refused case arrived (Ok change) h = tt
fault_told old new refused case arrived (Err (faults.Refused refusal)) h = (None, tt, h)
fault_told old new refused case arrived (Err faults.OutOfMemory) h = tt

-- a fault that is told so is told otherwise
pub told_fault : (old new : ℕ) (refused : Option (List ℕ)) (P Q : Option (List ℕ) → Refusal → Type 0) (fault : ChangeFault) → ((large : Option (List ℕ)) (refusal : Refusal) → P large refusal → Q large refusal)
    → FaultIs (λ refusal. Told old new refused (λ large. P large refusal)) fault → FaultIs (λ refusal. Told old new refused (λ large. Q large refusal)) fault
told_fault old new refused P Q fault f h = fault_map (λ refusal. Told old new refused (λ large. P large refusal)) (λ refusal. Told old new refused (λ large. Q large refusal)) fault (λ refusal t. (t.0, t.1, f t.0 refusal t.2)) h

-- what is refused whatever text was too large
pub none_told : {X : Type 0} (old new : ℕ) (refused : Option (List ℕ)) (P : Option (List ℕ) → Refusal → Type 0) (r : Result X ChangeFault) → IfErr r (FaultIs (P None)) → IfErr r (FaultIs (λ refusal. Told old new refused (λ large. P large refusal)))
none_told old new refused P r h = err_map r (FaultIs (P None)) (FaultIs (λ refusal. Told old new refused (λ large. P large refusal))) (λ fault e. fault_map (P None) (λ refusal. Told old new refused (λ large. P large refusal)) fault (λ refusal p. (None, tt, p)) e) h

-- the exit of a `?` that hands its fault on
pub keeps_exit : {X : Type 0} (old new : Option (List ℕ)) (r : Result X ChangeFault) (fault : ChangeFault) → IsErrAnd r (λ e. e ≡ fault) → KeepsBut old new fault → KeepsText old new r
keeps_exit old new (Ok x) fault h k = absurd h
keeps_exit old new (Err e) fault h k = subst (KeepsBut old new) (sym h) k

-- a builder that wasn't called has its text
keeps_but : (refused : Option (List ℕ)) (fault : ChangeFault) → KeepsBut refused refused fault
keeps_but refused (faults.Refused (PatternTooLarge query test)) = tt
keeps_but refused fault = refl

pub keeps_same : {X : Type 0} (refused : Option (List ℕ)) (r : Result X ChangeFault) → KeepsText refused refused r
keeps_same refused (Ok x) = refl
keeps_same refused (Err fault) = keeps_but refused fault
