use Rattle.std.proofs.Common.{sym, ap, ◌∙◌}
use Rattle.std.proofs.lemmas.Bool.{true≢false}
use Rattle.ap_text.specs.Names.{is_name, is_component}
use Rattle.catalogue_lines.proofs.ValueLemmas.{at_default, at_none}
use Rattle.catalogue_publications.proofs.PublicationLineLemmas.{byte_cut, component_no_blank}
use Rattle.catalogue_publications.proofs.publication_values.source_of.Goals as goal

pub returns-in_default-2 : goal.returns-in_default-2
returns-in_default-2 c = λ s g e.
    let cut = byte_cut 32 c.in-Some.front.now s.0 c.in-Some.back.now s.1 c.in-Some.ensures.1 (component_no_blank s.0 g.component) (sym c.in-Some.ensures.0 ∙ e) in
    true≢false (sym g.component ∙ ap is_component (sym cut.0) ∙ at_default _ _ _ c.in_ok-component.ensures c.in_default-2.not-Some)

pub returns-in-None : goal.returns-in-None
returns-in-None c = λ s g e.
    let cut = byte_cut 32 c.in-Some.front.now s.0 c.in-Some.back.now s.1 c.in-Some.ensures.1 (component_no_blank s.0 g.component) (sym c.in-Some.ensures.0 ∙ e) in
    true≢false (sym g.name ∙ ap is_name (sym cut.1) ∙ at_none _ _ _ c.in_ok-name_of_bytes.ensures c.in-None.is)
