use Rattle.std.proofs.Common.{◌∙◌}
use Rattle.std.specs.Ordering.{nat_cmp}
use Rattle.std.specs.Cmp.Lexicographic.{slice_cmp}
use Rattle.std.proofs.lemmas.List.{take_rest}
use Rattle.control_stanza.specs.Written.{stanza_text}
use Rattle.package_core.proofs.PieceLemmas.{fields_pass}
use Rattle.package_core.proofs.bytes.compare_stanzas.Goals as goal

pub returns : goal.returns
returns c =
    let a = c.fields-a.result.now in
    let b = c.fields-b.result.now in
    let n = c.fields_in_common-count.result in
    c.compare_fields.ensures
    ∙ (λ i. slice_cmp nat_cmp (stanza_text (take_rest a n i)) (stanza_text (take_rest b n i)))
    ∙ fields_pass n a b c.fields_in_common-count.ensures.same
    ∙ (λ i. slice_cmp nat_cmp (stanza_text (c.fields-a.ensures.fields i)) (stanza_text (c.fields-b.ensures.fields i)))
