use Rattle.std.proofs.Common.{◌++◌, ◌∙◌, ap, string_bytes}
use Rattle.machine_state.specs.Values.{PublicationView}
use Rattle.catalogue_lines.specs.Pieces.{alone, piece_text, joined}
use Rattle.catalogue_lines.specs.NameLines.{architectures_line}
use Rattle.catalogue_publications.specs.PublicationLines.{serial_line, current_line, sources_pieces, generation_pieces, previous_pieces}
use Rattle.catalogue_lines.proofs.WriteLemmas.{on_ok}
use Rattle.catalogue_publications.proofs.PublicationWrite.{publication_text}
use Rattle.catalogue_publications.proofs.write_publications.put_publication.Goals as goal

pub returns : goal.returns
returns c =
    on_ok c.put_previous.result _ _
    (λ h. publication_text c.args.publication.now (string_bytes c.args.out.now) (string_bytes c.put_head.new.out) (string_bytes c.put_architectures.new.out) (string_bytes c.put_number.new.out) (string_bytes c.put_sources.new.out) (string_bytes c.put_generation.new.out) (string_bytes c.put_previous.new.out)
    c.in_ok-put_head.ensures
    (c.in_ok-put_architectures.ensures ∙ ap (λ names. string_bytes c.put_head.new.out ++ piece_text (alone (architectures_line names))) (c.deref.ensures.value ∙ ap (λ (p : PublicationView). p.architectures) c.publication.view_is))
    (c.in_ok-put_number.ensures ∙ ap (λ (p : PublicationView). string_bytes c.put_architectures.new.out ++ piece_text (alone (serial_line p.serial))) c.publication.view_is)
    (c.in_ok-put_sources.ensures ∙ ap (λ sources. string_bytes c.put_number.new.out ++ joined (sources_pieces sources)) (c.deref-2.ensures.value ∙ ap (λ (p : PublicationView). p.sources) c.publication.view_is))
    (c.in_ok-put_generation.ensures ∙ ap (λ (p : PublicationView). string_bytes c.put_sources.new.out ++ joined (generation_pieces current_line p.current)) c.publication.view_is)
    (h ∙ ap (λ (p : PublicationView). string_bytes c.put_generation.new.out ++ joined (previous_pieces p.previous)) c.publication.view_is))
    c.put_previous.ensures
