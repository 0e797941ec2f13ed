use Rattle.std.proofs.Common.{◌++◌, ◌∙◌, ap, codes, string_bytes}
use Rattle.reply_text.specs.Words.{line}
use Rattle.reply_text.specs.Publications.{origin_lines}
use Rattle.reply_text.proofs.WriteLemmas.{on_ok, then_more}
use Rattle.reply_text.proofs.publications.put_origin.Goals as goal

pub returns : goal.returns
unfolding origin_lines
returns c =
    let out = string_bytes c.args.out.now in
    let first = c.in_ok-put_line.ensures ∙ ap (λ t. out ++ line (codes "Prefix: " ++ t)) c.prefix_word.ensures in
    let second = c.in_ok-put_line-2.ensures ∙ ap (λ t. string_bytes c.put_line.new.out ++ line (codes "Distribution: " ++ t)) c.as_str.ensures.text in
    on_ok c.put_line-3.result _ _
    (λ h. then_more out (string_bytes c.put_line.new.out) _ _ _ first
    (then_more (string_bytes c.put_line.new.out) (string_bytes c.put_line-2.new.out) _ _ _ second
    (h ∙ ap (λ t. string_bytes c.put_line-2.new.out ++ line (codes "Kind: " ++ t)) c.kind_word.ensures)))
    c.put_line-3.ensures
