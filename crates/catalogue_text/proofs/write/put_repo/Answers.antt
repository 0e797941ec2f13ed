use Rattle.std.proofs.Common.{◌++◌, ◌∙◌, ap, codes, string_bytes}
use Rattle.catalogue_lines.specs.Pieces.{alone, piece_text, joined}
use Rattle.machine_state.specs.Words.{blank_and}
use Rattle.catalogue_text.specs.Root.{name_line, comment_line, component_line, repo_pieces}
use Rattle.catalogue_lines.specs.SetLines.{set_pieces}
use Rattle.catalogue_lines.proofs.WriteLemmas.{on_ok, then_four}
use Rattle.catalogue_text.proofs.write.put_repo.Goals as goal

pub returns : goal.returns
unfolding repo_pieces
returns c =
    on_ok c.put_set.result _ _
    (λ h. then_four (string_bytes c.args.out.now) (string_bytes c.put_line.new.out) (string_bytes c.put_setting.new.out) (string_bytes c.put_setting-2.new.out) (string_bytes c.put_line-2.new.out) _ _ _ _ _ (joined (set_pieces c.args.repo.now.list))
    (c.in_ok-put_line.ensures ∙ ap (λ t. string_bytes c.args.out.now ++ piece_text (alone (name_line t))) c.as_str.ensures.text)
    (c.in_ok-put_setting.ensures ∙ ap (λ t. string_bytes c.put_line.new.out ++ piece_text (alone (comment_line t))) c.as_str-2.ensures)
    (c.in_ok-put_setting-2.ensures ∙ ap (λ t. string_bytes c.put_setting.new.out ++ piece_text (alone (codes "distribution" ++ blank_and t))) c.optional_text.ensures)
    (c.in_ok-put_line-2.ensures ∙ ap (λ t. string_bytes c.put_setting-2.new.out ++ piece_text (alone (component_line t))) c.as_str-3.ensures.text) h) c.put_set.ensures
