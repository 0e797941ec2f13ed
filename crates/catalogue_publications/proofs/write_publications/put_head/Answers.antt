use Rattle.std.proofs.Common.{◌++◌, ◌∙◌, codes, ap, string_bytes}
use Rattle.machine_state.specs.Values.{PublicationView}
use Rattle.catalogue_lines.specs.Pieces.{alone, piece_text, joined}
use Rattle.catalogue_publications.specs.PublicationLines.{publication_line}
use Rattle.machine_state.specs.Words.{kind_word}
use Rattle.catalogue_publications.specs.PublicationReading.{titles_of, titles_pieces}
use Rattle.catalogue_lines.proofs.WriteLemmas.{on_ok, then_two}
use Rattle.catalogue_publications.proofs.write_publications.put_head.Goals as goal

pub returns : goal.returns
returns c =
    on_ok c.put_titles.result _ _
    (λ h. then_two (string_bytes c.args.out.now) (string_bytes c.put_place.new.out) (string_bytes c.put_line.new.out) _ _ _ (joined (titles_pieces (titles_of c.args.publication.now)))
    (c.in_ok-put_place.ensures ∙ ap (λ (p : PublicationView). string_bytes c.args.out.now ++ piece_text (alone (publication_line (p.prefix, p.dist)))) c.publication.view_is)
    (c.in_ok-put_line.ensures ∙ ap (λ t. string_bytes c.put_place.new.out ++ piece_text (alone (codes "kind " ++ t))) (c.kind_word.ensures ∙ ap (λ (p : PublicationView). kind_word p.kind) c.publication.view_is)) h) c.put_titles.ensures
