use Rattle.std.proofs.Common.{ap, ◌∙◌}
use Rattle.std.specs.Prelude.{option_map}
use Rattle.std.specs.List.{find}
use Rattle.command_table.specs.Table.{rule, has_key}
use Rattle.command_table.proofs.Rows.{find-map}
use Rattle.command_table.proofs.table.find_row.Goals as goal

pub returns : goal.returns
returns c =
    ap (option_map rule) c.find_among.ensures ∙ find-map rule (has_key c.args.group.now c.args.verb.now) c.all_rows.result.now ∙ ap (find (has_key c.args.group.now c.args.verb.now)) c.all_rows.ensures
