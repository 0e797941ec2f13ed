-- Steps in turn, and what a call gives of them.
use Rattle.std.specs.Prelude.{◌≡◌, Result, Ok, Err}
use Rattle.package_list.specs.declared.fault.ListFault.{ListFault}
use Rattle.machine_state.specs.declared.limit.Limit.{Limit as LimitKind}
use Rattle.machine_state.specs.declared.refusal.Refusal.{Refusal}
use Rattle.machine_state.specs.declared.refusal.Refusal.TheVariants.{Conflict, Limit}
use Rattle.machine_state.specs.declared.arrived.UpdateFault.{UpdateFault}
use Rattle.package_list.specs.declared.fault.ListFault.TheVariants as list_faults
use Rattle.machine_state.specs.declared.arrived.UpdateFault.TheVariants as faults

-- the next step is made where this one went well
abbrev pub and_then : {X Y : Type 0} → Result X Refusal → (X → Result Y Refusal) → Result Y Refusal
and_then (Ok x) next = next x
and_then (Err refusal) next = Err refusal

-- a list that would pass this limit refuses so (memory isn't wanted here)
abbrev pub list_refusal : LimitKind → ListFault → Refusal
list_refusal limit (list_faults.Conflict triple) = Conflict triple
list_refusal limit list_faults.Full = Limit limit
list_refusal limit list_faults.OutOfMemory = Limit limit

abbrev pub or_refused : {X : Type 0} → LimitKind → Result X ListFault → Result X Refusal
or_refused limit (Ok x) = Ok x
or_refused limit (Err fault) = Err (list_refusal limit fault)

-- an error is what the steps come to
abbrev pub FaultGives : {Y : Type 0} → UpdateFault → Result Y Refusal → Type 0
FaultGives (faults.Refused refusal) wanted = wanted ≡ Err refusal
FaultGives fault wanted = Unit {0}

-- a call gives what the steps come to, unless the outside fails or memory is wanting
abbrev pub Gives : {Y : Type 0} → Result Y UpdateFault → Result Y Refusal → Type 0
Gives (Ok y) wanted = wanted ≡ Ok y
Gives (Err fault) wanted = FaultGives fault wanted
