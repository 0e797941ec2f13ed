use Rattle.std.proofs.Common.{ap, ◌∙◌}
use Rattle.std.specs.Prelude.{option_map}
use Rattle.std.specs.Str.{bytes_eq}
use Rattle.command_table.specs.Table.{FlagRule, flag_rule}
use Rattle.command_table.proofs.Rows.{find-map}
use Rattle.command_table.proofs.flags.form_of.Goals as goal

pub returns-in-Some : goal.returns-in-Some
returns-in-Some c =
    ap (λ o. option_map (λ (f : FlagRule). f.form) (option_map flag_rule o)) c.in-Some.ensures ∙ ap (option_map (λ (f : FlagRule). f.form)) (find-map flag_rule (λ f. bytes_eq f.name c.args.name.now) c.args.row.now.flags.now)

pub returns-in-None : goal.returns-in-None
returns-in-None c =
    ap (λ o. option_map (λ (f : FlagRule). f.form) (option_map flag_rule o)) c.in-None.ensures ∙ ap (option_map (λ (f : FlagRule). f.form)) (find-map flag_rule (λ f. bytes_eq f.name c.args.name.now) c.args.row.now.flags.now)
