use Rattle.std.proofs.Common.{◌++◌, ◌∙◌, sym, ap, string_bytes}
use Rattle.machine_state.specs.Values.{MirrorView}
use Rattle.catalogue_lines.specs.Pieces.{alone, piece_text, joined}
use Rattle.catalogue_text.specs.MirrorLines.{mirror_line}
use Rattle.catalogue_text.specs.Root.{updated_pieces, mirror_pieces}
use Rattle.catalogue_text.specs.MirrorReading.{place_pieces, lists_pieces, choice_pieces}
use Rattle.catalogue_lines.proofs.WriteLemmas.{on_ok, then_four, join_four}
use Rattle.catalogue_text.proofs.write_mirrors.put_mirror.Goals as goal

pub returns : goal.returns
unfolding mirror_pieces
returns c =
    let m : MirrorView = c.args.mirror.now in
    let name = c.in_ok-put_line.ensures ∙ ap (λ t. string_bytes c.args.out.now ++ piece_text (alone (mirror_line t))) (c.as_str.ensures.text ∙ ap (λ (m : MirrorView). m.name) c.mirror.view_is) in
    let whole = join_four (place_pieces (m.archive, m.distribution)) (lists_pieces (m.components, m.architectures)) (choice_pieces (m.filter, m.with_deps)) (updated_pieces m.updated) in
    on_ok c.put_updated.result _ _
    (λ h. then_four (string_bytes c.args.out.now) (string_bytes c.put_line.new.out) (string_bytes c.put_place.new.out) (string_bytes c.put_lists.new.out) (string_bytes c.put_choice.new.out) (string_bytes c.put_updated.new.out) (piece_text (alone (mirror_line m.name)))
    (joined (place_pieces (m.archive, m.distribution))) (joined (lists_pieces (m.components, m.architectures))) (joined (choice_pieces (m.filter, m.with_deps))) (joined (updated_pieces m.updated))
    name c.in_ok-put_place.ensures c.in_ok-put_lists.ensures c.in_ok-put_choice.ensures (h ∙ ap (λ (m : MirrorView). string_bytes c.put_choice.new.out ++ joined (updated_pieces m.updated)) c.mirror.view_is)
    ∙ ap (λ t. string_bytes c.args.out.now ++ (piece_text (alone (mirror_line m.name)) ++ t)) (sym whole)) c.put_updated.ensures
