use Rattle.std.proofs.Common.{sym, ◌∙◌, ap, subst, ◌≡◌, ℕ, List, ◌++◌}
use Rattle.std.specs.Str.{IsUtf8}
use Rattle.control_stanza.specs.Fields.{is_stanza}
use Rattle.control_stanza.specs.Written.{stanza_text}
use Rattle.package_core.specs.Card.{file_text, package_text}
use Rattle.package_core.proofs.TextLemmas.{whole_is_utf8, if_ok_then}
use Rattle.package_core.proofs.text.text_of.Goals as goal

pub returns : goal.returns
unfolding package_text
returns c =
    let of = c.args.of.now in
    let stanza = stanza_text of.stanza in
    let lines = file_text of.file of.said in
    let whole = package_text of in
    let utf8 = whole_is_utf8 of (ap is_stanza (sym c.fields.ensures.fields) ∙ c.fields.ensures.stanza) c.are_text.ensures in
    let front = c.in_ok-write_stanza.ensures.ok ∙ ap (λ (l : List ℕ). l ++ stanza) c.new-bytes.ensures.items in
    let bytes : c.deref.result.now ≡ whole = c.deref.ensures.value ∙ c.in_ok-put_file_lines.ensures.ok ∙ ap (λ (l : List ℕ). l ++ lines) front in
    let text : c.as_str.result.now ≡ whole = c.as_str.ensures.value ∙ c.in_ok-text.ensures.ok (subst IsUtf8 (sym bytes) utf8) ∙ bytes in
    if_ok_then c.new.result (λ t. t ≡ c.as_str.result.now) (λ t. t ≡ whole) (λ t h. h ∙ text) c.new.ensures.same
