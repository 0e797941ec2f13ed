use Rattle.std.proofs.Common.{Result, Ok, Err}
use Rattle.package_intake.proofs.FaultLemmas.{if_err, unread_index, unread_ends}
use Rattle.package_intake.specs.Index.{IsUnreadFault, OfIndex}
use Rattle.package_intake.specs.Faults.{IsInputFault}
use Rattle.machine_state.specs.declared.limit.Limit.TheVariants.{Index}
use Rattle.package_intake.proofs.index.read_index.Goals as goal

pub returns-clause-fault : goal.returns-clause-fault
returns-clause-fault g c = if_err c.read_within.result (IsUnreadFault Index c.args.path.now) IsInputFault (unread_index c.args.path.now) c.read_within.ensures.fault

pub returns-clause-early : goal.returns-clause-early
returns-clause-early g c = if_err c.read_within.result (IsUnreadFault Index c.args.path.now) (OfIndex c.args.path.now) (unread_ends Index c.args.path.now) c.read_within.ensures.fault
