use Rattle.std.proofs.Common.{◌∙◌, ap, ◌-◌, length, take, drop, arith}
use Rattle.std.specs.List.{find}
use Rattle.command_table.specs.Table.{rule, table, has_key}
use Rattle.command_words.proofs.Lifted.{two_words, fault_to_command}
use Rattle.command_words.proofs.read.read_command.Goals as goal

pub returns-in-Some-clause-fault : goal.returns-in-Some-clause-fault
returns-in-Some-clause-fault c =
    let group = c.group-item-2.result in
    let verb = c.verb-item.result in
    fault_to_command c.args.words.now (take (length c.args.words.now - 2) (drop 2 c.args.words.now)) group verb (rule c.in-Some.row.now) c.read_row.result (two_words c.args.words.now group verb (omega arith) c.group-item-2.is c.verb-item.is) (c.in-Some.ensures ∙ ap (λ g. find (has_key g c.as_str-in-len2-up-2.result.now) table) c.as_str-in-len2-up.ensures ∙ ap (λ v. find (has_key group v) table) c.as_str-in-len2-up-2.ensures) c.read_row.ensures.fault
