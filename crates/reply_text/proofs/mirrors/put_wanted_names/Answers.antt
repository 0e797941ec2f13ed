use Rattle.std.proofs.Common.{string_bytes}
use Rattle.reply_text.specs.Mirrors.{names_lines}
use Rattle.reply_text.proofs.WriteLemmas.{on_ok, then_more}
use Rattle.reply_text.proofs.mirrors.put_wanted_names.Goals as goal

pub returns : goal.returns
unfolding names_lines
returns c =
    on_ok c.put_names-2.result _ _
    (λ h. then_more (string_bytes c.args.out.now) (string_bytes c.put_names.new.out) _ _ _ c.in_ok-put_names.ensures h) c.put_names-2.ensures
