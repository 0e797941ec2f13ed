use Rattle.std.proofs.Common.{◌++◌, ◌∙◌, ap, map, string_bytes}
use Rattle.catalogue_lines.specs.Pieces.{alone, piece_text, joined}
use Rattle.catalogue_lines.specs.SetLines.{id_of, set_line, set_pieces}
use Rattle.catalogue_lines.proofs.WriteLemmas.{on_ok, then_one}
use Rattle.catalogue_lines.proofs.write_packages.put_set.Goals as goal

pub returns : goal.returns
unfolding set_pieces
returns c =
    on_ok c.put_ids.result _ _
    (λ h. then_one (string_bytes c.args.out.now) (string_bytes c.put_count.new.out) _ _ (joined (map (λ p. alone (id_of p)) c.args.list.now))
    (c.in_ok-put_count.ensures ∙ ap (λ n. string_bytes c.args.out.now ++ piece_text (alone (set_line n))) c.len.ensures) h) c.put_ids.ensures
