-- The faults of the outside, as faults of the pool.
use Rattle.ap_host.specs.declared.host.HostErr.{HostErr}
use Rattle.ap_host.specs.declared.host.HostErr.TheVariants.{Failed as HostFailed, OutOfMemory as NoMemoryOfHost}
use Rattle.ap_host.specs.declared.inbox.InboxErr.{InboxErr}
use Rattle.ap_host.specs.declared.inbox.InboxErr.TheVariants.{Failed as InboxFailed, OutOfMemory as NoMemoryOfInbox}
use Rattle.hash_pool.specs.declared.fault.PoolFault.{PoolFault}
use Rattle.hash_pool.specs.declared.fault.PoolFault.TheVariants.{HostFault, InboxFault, OutOfMemory}

abbrev pub of_host : HostErr → PoolFault
of_host HostFailed = HostFault
of_host NoMemoryOfHost = OutOfMemory

abbrev pub of_inbox : InboxErr → PoolFault
of_inbox InboxFailed = InboxFault
of_inbox NoMemoryOfInbox = OutOfMemory
