use Rattle.std.proofs.Common.{◌≡◌, ◌∙◌, ap, map, Some}
use Rattle.std.proofs.lemmas.Result.{IfOk-weaker}
use Rattle.command_words.specs.Commands.{after_task_run, cut, listed, commands, IsListFault, IsUsagePlace}
use Rattle.command_value.specs.Plain.{plain}
use Rattle.command_words.proofs.Top.{list_read, list_place, faults_kept}
use Rattle.command_words.proofs.commands.read_words.Goals as goal

pub returns-in-Some-clause-read : goal.returns-in-Some-clause-read
returns-in-Some-clause-read c =
    let words = c.args.words.now in
    let rest = c.in-Some.rest.now in
    let after = c.in-Some.ensures ∙ ap after_task_run c.as_slice-all.ensures in
    IfOk-weaker c.read_list.result (λ cs. listed (cut 2 rest) ≡ Some (map plain cs.items)) (λ cs. commands words ≡ Some (map plain cs.items)) (λ cs e. list_read words rest after ∙ e) c.read_list.ensures.read

pub returns-in-Some-clause-fault : goal.returns-in-Some-clause-fault
returns-in-Some-clause-fault c =
    let words = c.args.words.now in
    let rest = c.in-Some.rest.now in
    let after = c.in-Some.ensures ∙ ap after_task_run c.as_slice-all.ensures in
    faults_kept (IsListFault (cut 2 rest)) (IsUsagePlace words) c.read_list.result (λ place. list_place words rest place after) c.read_list.ensures.fault
