use Rattle.std.proofs.Common.{◌++◌, ◌∙◌, ap, string_bytes}
use Rattle.machine_state.specs.Values.{MirrorView}
use Rattle.catalogue_lines.specs.Pieces.{alone, piece_text}
use Rattle.catalogue_text.specs.MirrorLines.{archive_line, place_line}
use Rattle.catalogue_lines.proofs.WriteLemmas.{on_ok, two}
use Rattle.catalogue_text.proofs.write_mirrors.put_place.Goals as goal

pub returns : goal.returns
returns c =
    two c.put_line-2.result (string_bytes c.args.out.now) (string_bytes c.put_line.new.out) (string_bytes c.put_line-2.new.out) (piece_text (alone (archive_line c.args.mirror.now.archive))) (piece_text (alone (place_line c.args.mirror.now.distribution)))
    (c.in_ok-put_line.ensures ∙ ap (λ t. string_bytes c.args.out.now ++ piece_text (alone (archive_line t))) (c.as_str.ensures.text ∙ ap (λ (m : MirrorView). m.archive) c.mirror.view_is))
    (on_ok c.put_line-2.result _ _ (λ h. h ∙ ap (λ t. string_bytes c.put_line.new.out ++ piece_text (alone (place_line t))) (c.as_str-2.ensures.text ∙ ap (λ (m : MirrorView). m.distribution) c.mirror.view_is)) c.put_line-2.ensures)
