use Rattle.std.proofs.Common.{codes, sym, ◌∙◌, ◌++◌}
use Rattle.std.proofs.lemmas.List.{append_cancel_left}
use Rattle.catalogue_lines.specs.declared.shared_values.Listed.TheVariants.{Architectures}
use Rattle.machine_state.specs.Words.{names_behind}
use Rattle.catalogue_lines.proofs.LineLemmas.{line_unique}
use Rattle.catalogue_lines.proofs.ValueLemmas.{at_none, at_some}
use Rattle.catalogue_publications.proofs.PublicationValues.{no_length}
use Rattle.catalogue_lines.proofs.SharedValues.{names_apart}
use Rattle.catalogue_publications.proofs.publication_values.architectures_line.Goals as goal

pub returns-in-None : goal.returns-in-None
returns-in-None c = λ a behind g l. at_none _ _ _ c.in_ok-names_line.ensures c.in-None.is a behind g.names l

pub returns-then-is_empty : goal.returns-then-is_empty
returns-then-is_empty c = λ a behind g l.
    let read = at_some _ _ _ _ c.in_ok-names_line.ensures c.in-Some.is in
    let cut = line_unique c.args.text.now (codes "architectures" ++ names_behind c.in-Some.names.items) (codes "architectures" ++ names_behind a) c.in-Some.rest.now behind read.1 l in
    let same = names_apart Architectures c.in-Some.names.items a read.0 g.names (append_cancel_left (codes "architectures") _ _ cut.0) in
    g.some (sym same ∙ sym c.as_slice.ensures.value ∙ no_length c.as_slice.result.now c.is_empty.result c.is_empty.ensures c.if-is_empty.true)
