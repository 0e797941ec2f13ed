use Rattle.std.proofs.Common.{codes}
use Rattle.catalogue_publications.specs.PublicationLines.{source_text}
use Rattle.catalogue_publications.specs.PublicationGrammar.{IsSource}
use Rattle.catalogue_lines.proofs.ValueLemmas.{no_key, no_value, at_none}
use Rattle.catalogue_publications.proofs.publication_values.source_line.Goals as goal

pub returns-in-None : goal.returns-in-None
returns-in-None c = no_key source_text IsSource c.args.text.now (codes "source ") c.in-None.ensures

pub returns-in-None-2 : goal.returns-in-None-2
returns-in-None-2 c =
    no_value source_text IsSource c.args.text.now (codes "source ") c.in-Some.written.now c.in-Some.rest.now c.in-Some.ensures
    (λ a g e. at_none _ _ _ c.in_ok-source_of-in-Some.ensures c.in-None-2.is a g e)
