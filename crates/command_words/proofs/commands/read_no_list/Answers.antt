use Rattle.std.proofs.Common.{sym}
use Rattle.command_words.proofs.Top.{task_fault}
use Rattle.command_words.proofs.commands.read_no_list.Goals as goal

pub returns-then-is_first-clause-fault : goal.returns-then-is_first-clause-fault
returns-then-is_first-clause-fault c = task_fault c.args.words.now (sym c.if-is_first.ensures) c.requires
