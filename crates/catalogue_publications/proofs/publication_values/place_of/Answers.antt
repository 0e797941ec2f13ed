use Rattle.std.proofs.Common.{sym, ap, ◌∙◌}
use Rattle.std.proofs.lemmas.Bool.{true≢false}
use Rattle.ap_text.specs.Names.{is_name}
use Rattle.machine_state.specs.Words.{prefix_word}
use Rattle.catalogue_lines.proofs.ValueLemmas.{at_default, at_none}
use Rattle.catalogue_publications.proofs.PublicationLineLemmas.{byte_cut, prefix_no_blank}
use Rattle.catalogue_publications.proofs.publication_values.place_of.Goals as goal

pub returns-in_default-2 : goal.returns-in_default-2
returns-in_default-2 c = λ p g e.
    let cut = byte_cut 32 c.in-Some.front.now (prefix_word p.0) c.in-Some.back.now p.1 c.in-Some.ensures.1 (prefix_no_blank p.0 g.prefix) (sym c.in-Some.ensures.0 ∙ e) in
    at_default _ _ _ c.in_ok-prefix.ensures c.in_default-2.not-Some p.0 g.prefix cut.0

pub returns-in-None : goal.returns-in-None
returns-in-None c = λ p g e.
    let cut = byte_cut 32 c.in-Some.front.now (prefix_word p.0) c.in-Some.back.now p.1 c.in-Some.ensures.1 (prefix_no_blank p.0 g.prefix) (sym c.in-Some.ensures.0 ∙ e) in
    true≢false (sym g.dist ∙ ap is_name (sym cut.1) ∙ at_none _ _ _ c.in_ok-name_of_bytes.ensures c.in-None.is)
