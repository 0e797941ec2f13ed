use Rattle.std.proofs.Common.{◌≡◌, Ok, sym, ap, ◌∙◌}
use Rattle.std.specs.Str.{is_utf8}
use Rattle.std.proofs.lemmas.Str.{is_utf8-from_IsUtf8}
use Rattle.std.proofs.lemmas.Bool.{and_from}
use Rattle.control_stanza.specs.Lines.{has_line_end, line_of, More, Start, is_field_name}
use Rattle.control_stanza.specs.Fields.{is_value}
use Rattle.control_stanza.specs.Answers.{view}
use Rattle.control_stanza.proofs.LineLemmas.{bare_one_line}
use Rattle.control_stanza.proofs.Trims.{more_is, field_is}
use Rattle.control_stanza.proofs.read.step.Goals as goal

pub continued-requires-clause-further : goal.continued-requires-clause-further
continued-requires-clause-further c =
    let is : line_of c.args.cut.bare.now ≡ Ok (More c.in-Ok-More.more.now) = c.in-Ok-More.ensures ∙ ap (λ l. Ok (view l)) c.in-Ok-More.field-0-is in
    (more_is _ _ is (ap has_line_end (sym c.requires.bare) ∙ bare_one_line c.args.cut.whole.now)).0

pub continued-requires-clause-no_return : goal.continued-requires-clause-no_return
continued-requires-clause-no_return c =
    let is : line_of c.args.cut.bare.now ≡ Ok (More c.in-Ok-More.more.now) = c.in-Ok-More.ensures ∙ ap (λ l. Ok (view l)) c.in-Ok-More.field-0-is in
    (more_is _ _ is (ap has_line_end (sym c.requires.bare) ∙ bare_one_line c.args.cut.whole.now)).1

pub continued-requires-clause-one_line : goal.continued-requires-clause-one_line
continued-requires-clause-one_line c =
    let is : line_of c.args.cut.bare.now ≡ Ok (More c.in-Ok-More.more.now) = c.in-Ok-More.ensures ∙ ap (λ l. Ok (view l)) c.in-Ok-More.field-0-is in
    (more_is _ _ is (ap has_line_end (sym c.requires.bare) ∙ bare_one_line c.args.cut.whole.now)).2

pub added-requires-clause-field : goal.added-requires-clause-field
added-requires-clause-field c =
    let name = c.in_ok-new-in-Ok-Start.ensures.same in
    let value = c.in_ok-new-in-Ok-Start-2.ensures.same in
    let utf8 = is_utf8-from_IsUtf8 _ c.in_ok-new-in-Ok-Start-2.ensures.utf8 in
    let is : line_of c.args.cut.bare.now ≡ Ok (Start c.in-Ok-Start.name.now c.in-Ok-Start.value.now) = c.in-Ok-Start.ensures ∙ ap (λ l. Ok (view l)) c.in-Ok-Start.field-0-is in
    let f = field_is _ _ _ is (ap has_line_end (sym c.requires.bare) ∙ bare_one_line c.args.cut.whole.now) (ap is_utf8 (sym value) ∙ utf8) in
    and_from _ _ (ap is_field_name name ∙ f.0) (ap is_value value ∙ f.1)
