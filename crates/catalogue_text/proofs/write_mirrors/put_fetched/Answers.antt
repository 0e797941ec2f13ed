use Rattle.std.proofs.Common.{true, ◌++◌, ◌∙◌, ap, string_bytes}
use Rattle.catalogue_lines.specs.Pieces.{alone, piece_text, joined}
use Rattle.catalogue_text.specs.MirrorLines.{updated_line, date_line}
use Rattle.catalogue_lines.specs.SetLines.{set_pieces}
use Rattle.catalogue_lines.proofs.WriteLemmas.{on_ok, then_two}
use Rattle.catalogue_text.proofs.write_mirrors.put_fetched.Goals as goal

pub returns : goal.returns
returns c =
    on_ok c.put_set.result _ _
    (λ h. then_two (string_bytes c.args.out.now) (string_bytes c.put_fixed.new.out) (string_bytes c.put_setting.new.out) (string_bytes c.put_set.new.out) (piece_text (alone (updated_line true))) (piece_text (alone (date_line c.args.fetched.now.date))) (joined (set_pieces c.args.fetched.now.list))
    c.in_ok-put_fixed.ensures (c.in_ok-put_setting.ensures ∙ ap (λ t. string_bytes c.put_fixed.new.out ++ piece_text (alone (date_line t))) c.as_str.ensures) h) c.put_set.ensures
