use Rattle.std.proofs.Common.{codes}
use Rattle.catalogue_publications.specs.PublicationLines.{numeral}
use Rattle.catalogue_publications.specs.PublicationGrammar.{IsAny}
use Rattle.catalogue_lines.proofs.ValueLemmas.{no_key, no_value}
use Rattle.catalogue_publications.proofs.publication_values.sources_line.Goals as goal

pub returns-in-None : goal.returns-in-None
returns-in-None c = no_key numeral IsAny c.args.text.now (codes "sources ") c.in-None.ensures

pub returns-in-None-number_of : goal.returns-in-None-number_of
returns-in-None-number_of c = no_value numeral IsAny c.args.text.now (codes "sources ") c.in-Some.written.now c.in-Some.rest.now c.in-Some.ensures (λ n g e. c.in-None-number_of.ensures n e)
