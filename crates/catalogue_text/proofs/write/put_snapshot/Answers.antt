use Rattle.std.proofs.Common.{◌++◌, ◌∙◌, ap, string_bytes}
use Rattle.catalogue_lines.specs.Pieces.{alone, piece_text, joined}
use Rattle.catalogue_text.specs.Root.{snapshot_line, snapshot_pieces}
use Rattle.catalogue_lines.specs.SetLines.{set_pieces}
use Rattle.catalogue_lines.proofs.WriteLemmas.{on_ok, then_one}
use Rattle.catalogue_text.proofs.write.put_snapshot.Goals as goal

pub returns : goal.returns
unfolding snapshot_pieces
returns c =
    on_ok c.put_set.result _ _
    (λ h. then_one (string_bytes c.args.out.now) (string_bytes c.put_line.new.out) _ _ (joined (set_pieces c.args.snapshot.now.list))
    (c.in_ok-put_line.ensures ∙ ap (λ t. string_bytes c.args.out.now ++ piece_text (alone (snapshot_line t))) c.as_str.ensures.text) h) c.put_set.ensures
