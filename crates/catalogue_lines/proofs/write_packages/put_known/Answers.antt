use Rattle.std.proofs.Common.{◌++◌, ◌∙◌, ap, map, string_bytes}
use Rattle.catalogue_lines.specs.Pieces.{alone, packed, piece_text, joined}
use Rattle.catalogue_lines.specs.KnownForms.{known_line, known_pieces}
use Rattle.catalogue_lines.proofs.WriteLemmas.{on_ok, then_two}
use Rattle.catalogue_lines.proofs.write_packages.put_known.Goals as goal

pub returns : goal.returns
unfolding known_pieces
returns c =
    on_ok c.put_packages.result _ _
    (λ h. then_two (string_bytes c.args.out.now) (string_bytes c.put_fixed.new.out) (string_bytes c.put_count.new.out) _ _ _ (joined (map packed c.args.known.now)) c.in_ok-put_fixed.ensures
    (c.in_ok-put_count.ensures ∙ ap (λ n. string_bytes c.put_fixed.new.out ++ piece_text (alone (known_line n))) c.len.ensures) h) c.put_packages.ensures
