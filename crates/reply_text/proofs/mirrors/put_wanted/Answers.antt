use Rattle.std.proofs.Common.{◌++◌, ◌∙◌, ap, codes, string_bytes}
use Rattle.reply_text.specs.Words.{line}
use Rattle.reply_text.specs.Mirrors.{filter_lines}
use Rattle.reply_text.proofs.WriteLemmas.{on_ok, then_more}
use Rattle.reply_text.proofs.mirrors.put_wanted.Goals as goal

pub returns : goal.returns
unfolding filter_lines
returns c =
    on_ok c.put_line.result _ _
    (λ h. then_more (string_bytes c.args.out.now) (string_bytes c.put_filter.new.out) _ _ _ c.in_ok-put_filter.ensures
    (h ∙ ap (λ t. string_bytes c.put_filter.new.out ++ line (codes "Filter-With-Deps: " ++ t)) c.yes_or_no.ensures))
    c.put_line.ensures
