-- The exit codes, and the status of an error.
use Rattle.std.specs.Prelude.{ℕ}
use Rattle.ap_host.specs.declared.host.HostErr.{HostErr}
use Rattle.ap_host.specs.declared.host.HostErr.TheVariants.{Failed, OutOfMemory as NoMemory}
use Rattle.aptly_core.specs.declared.status.Status.{Status}
use Rattle.aptly_core.specs.declared.status.Status.TheVariants.{Done, Refused, Usage, HostFault, InboxFault, OutOfMemory, Damaged, Busy}

abbrev pub code_of : Status → ℕ
code_of Done = 0
code_of (Refused refusal) = 1
code_of (Usage place) = 2
code_of HostFault = 3
code_of InboxFault = 4
code_of OutOfMemory = 5
code_of (Damaged damage) = 6
code_of Busy = 7

-- how a call ends whose host gave this error
abbrev pub status_of_host : HostErr → Status
status_of_host Failed = HostFault
status_of_host NoMemory = OutOfMemory
