use Rattle.std.proofs.Common.{◌∙◌, ap}
use Rattle.command_words.specs.Commands.{cut, listed, demonstration}
use Rattle.command_words.proofs.Top.{only_memory}
use Rattle.command_words.proofs.demo.read_demonstration.Goals as goal

pub returns-clause-fault : goal.returns-clause-fault
returns-clause-fault c =
    only_memory (cut 2 c.as_slice.result.now) demonstration c.read_list.result (ap (λ w. listed (cut 2 w)) (c.as_slice.ensures.value ∙ c.in_ok-words.ensures) ∙ c.written_demonstration.ensures) c.read_list.ensures.fault
