use Rattle.std.proofs.Common.{◌≡◌, ◌∙◌, ap, sym, map, Some}
use Rattle.std.proofs.lemmas.Result.{IfOk-weaker}
use Rattle.command_words.specs.Commands.{commands, demonstration}
use Rattle.command_value.specs.Plain.{plain}
use Rattle.command_words.proofs.Top.{demo_fault, demo_read}
use Rattle.command_words.proofs.commands.read_demo.Goals as goal

pub returns-in-Some-clause-fault : goal.returns-in-Some-clause-fault
returns-in-Some-clause-fault c = demo_fault c.args.words.now c.in-Some.place c.requires (sym c.in-Some.ensures)

pub returns-in-None-clause-read : goal.returns-in-None-clause-read
returns-in-None-clause-read c =
    IfOk-weaker c.read_demonstration.result (λ cs. map plain cs.items ≡ demonstration) (λ cs. commands c.args.words.now ≡ Some (map plain cs.items)) (λ cs e. demo_read c.args.words.now c.requires (sym c.in-None.ensures) ∙ ap Some (sym e)) c.read_demonstration.ensures.read
