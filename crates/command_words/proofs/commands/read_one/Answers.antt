use Rattle.std.proofs.Common.{◌∙◌, ap, sym, map, Some, ◌++◌, ◌∷◌, []}
use Rattle.std.proofs.lemmas.Result.{err_from_is_err_and}
use Rattle.command_words.specs.Commands.{single, IsUsagePlace}
use Rattle.command_words.specs.Fault.{IsCommandFault}
use Rattle.command_value.specs.Plain.{plain}
use Rattle.command_words.proofs.Top.{one_command, one_fault, at_kept}
use Rattle.command_words.proofs.commands.read_one.Goals as goal

pub returns-in_err-command-clause-fault : goal.returns-in_err-command-clause-fault
returns-in_err-command-clause-fault c =
    let p = err_from_is_err_and c.from_residual.result c.from_residual.ensures.1 in
    let words = c.args.words.now in
    rw (p.1, p.2) (at_kept (IsCommandFault words) (IsUsagePlace words) (λ place. one_fault words place (c.requires.no_task, c.requires.no_demo)) c.in_err-command.field-0.0 c.in_err-command.ensures.fault)

pub returns-clause-read : goal.returns-clause-read
returns-clause-read c =
    one_command c.args.words.now (c.requires.no_task, c.requires.no_demo)
    ∙ ap single c.in_ok-command.ensures.read
    ∙ ap (λ items. Some (map plain (items ++ c.in_ok-command.command ∷ []))) (sym c.new-one.ensures.items)
    ∙ ap (λ items. Some (map plain items)) (sym c.in_ok-push.ensures.items)
