-- The text of a publication, written piece by piece.
use Rattle.std.proofs.Common.{◌≡◌, ℕ, List, ◌∷◌, ◌++◌, ap, sym, ◌∙◌}
use Rattle.std.proofs.lemmas.List.Concat.{flat_map-append}
use Rattle.machine_state.specs.Values.{PublicationView}
use Rattle.catalogue_lines.specs.Pieces.{alone, piece_text, joined}
use Rattle.catalogue_lines.specs.NameLines.{architectures_line}
use Rattle.catalogue_publications.specs.PublicationLines.{serial_line, current_line, sources_pieces, generation_pieces, previous_pieces, publication_pieces}
use Rattle.catalogue_publications.specs.PublicationReading.{head_of, head_pieces}
use Rattle.catalogue_lines.proofs.WriteLemmas.{then_one, then_four}

module _ (p : PublicationView) where
  abbrev head_text : List ℕ
  head_text = joined (head_pieces (head_of p))

  abbrev sources_text : List ℕ
  sources_text = joined (sources_pieces p.sources)

  abbrev current_text : List ℕ
  current_text = joined (generation_pieces current_line p.current)

  abbrev previous_text : List ℕ
  previous_text = joined (previous_pieces p.previous)

  abbrev architectures_text : List ℕ
  architectures_text = piece_text (alone (architectures_line p.architectures))

  abbrev serial_text : List ℕ
  serial_text = piece_text (alone (serial_line p.serial))

  publication_joined : joined (publication_pieces p) ≡ head_text ++ (architectures_text ++ (serial_text ++ (sources_text ++ (current_text ++ previous_text))))
  unfolding publication_pieces
  publication_joined =
      flat_map-append piece_text (head_pieces (head_of p)) (alone (architectures_line p.architectures) ∷ alone (serial_line p.serial) ∷ (sources_pieces p.sources ++ (generation_pieces current_line p.current ++ previous_pieces p.previous)))
      ∙ ap (λ t. head_text ++ (architectures_text ++ (serial_text ++ t)))
      (flat_map-append piece_text (sources_pieces p.sources) (generation_pieces current_line p.current ++ previous_pieces p.previous)
      ∙ ap (λ t. sources_text ++ t) (flat_map-append piece_text (generation_pieces current_line p.current) (previous_pieces p.previous)))

  pub publication_text : (o u v w x y z : List ℕ) → u ≡ o ++ head_text → v ≡ u ++ architectures_text → w ≡ v ++ serial_text → x ≡ w ++ sources_text → y ≡ x ++ current_text → z ≡ y ++ previous_text → z ≡ o ++ joined (publication_pieces p)
  publication_text o u v w x y z a b c d e f =
      then_one o u z head_text (architectures_text ++ (serial_text ++ (sources_text ++ (current_text ++ previous_text)))) a
      (then_four u v w x y z architectures_text serial_text sources_text current_text previous_text b c d e f)
      ∙ ap (λ t. o ++ t) (sym publication_joined)
