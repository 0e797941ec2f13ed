use Rattle.std.proofs.Common.{codes, IsTrue}
use Rattle.machine_state.specs.Publications.{is_published}
use Rattle.machine_state.specs.Words.{kind_word}
use Rattle.catalogue_lines.proofs.ValueLemmas.{no_key, no_value}
use Rattle.catalogue_publications.proofs.publication_values.kind_line.Goals as goal

pub returns-in-None : goal.returns-in-None
returns-in-None c = no_key kind_word (λ k. IsTrue (is_published k)) c.args.text.now (codes "kind ") c.in-None.ensures

pub returns-in-None-kind_of : goal.returns-in-None-kind_of
returns-in-None-kind_of c = no_value kind_word (λ k. IsTrue (is_published k)) c.args.text.now (codes "kind ") c.in-Some.written.now c.in-Some.rest.now c.in-Some.ensures (λ k g e. c.in-None-kind_of.ensures k g e)
