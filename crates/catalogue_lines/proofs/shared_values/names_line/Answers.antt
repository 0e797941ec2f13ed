use Rattle.machine_state.specs.Texts.{AreNames}
use Rattle.machine_state.specs.Words.{names_behind}
use Rattle.catalogue_lines.specs.NameLines.{listed_name}
use Rattle.catalogue_lines.proofs.ValueLemmas.{no_key, no_value, at_none}
use Rattle.catalogue_lines.proofs.shared_values.names_line.Goals as goal

pub returns-in-None : goal.returns-in-None
returns-in-None c = no_key names_behind (AreNames (listed_name c.args.listed)) c.args.text.now c.args.key.now c.in-None.ensures

pub returns-in-None-2 : goal.returns-in-None-2
returns-in-None-2 c =
    no_value names_behind (AreNames (listed_name c.args.listed)) c.args.text.now c.args.key.now c.in-Some.written.now c.in-Some.rest.now c.in-Some.ensures
    (λ a g e. at_none _ _ _ c.in_ok-names_of-in-Some.ensures c.in-None-2.is a g e)
