use Rattle.std.proofs.Common.{ap, ◌∙◌}
use Rattle.std.specs.List.{list_any}
use Rattle.std.specs.Str.{bytes_eq}
use Rattle.command_table.specs.Table.{rule}
use Rattle.command_table.proofs.Rows.{list_any-map}
use Rattle.command_table.proofs.table.is_group.Goals as goal

pub returns : goal.returns
returns c =
    c.is_group_among.ensures ∙ list_any-map rule (λ r. bytes_eq r.group c.args.group.now) c.all_rows.result.now ∙ ap (list_any (λ r. bytes_eq r.group c.args.group.now)) c.all_rows.ensures
