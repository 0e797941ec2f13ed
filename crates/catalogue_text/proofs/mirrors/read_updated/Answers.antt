use Rattle.std.proofs.Common.{Bool, subst}
use Rattle.catalogue_lines.specs.Lines.{IsLine}
use Rattle.catalogue_text.specs.MirrorLines.{updated_line}
use Rattle.catalogue_lines.proofs.ReadLemmas.{if_before}
use Rattle.catalogue_text.proofs.MirrorParts.{updated_first, updated_rest}
use Rattle.catalogue_text.proofs.mirrors.read_updated.Goals as goal

pub returns-in_default-clause-stops : goal.returns-in_default-clause-stops
returns-in_default-clause-stops c = λ apart. updated_first c.args.known.now.list c.args.text.now c.in_default.ensures

pub returns-in-Err-clause-stops : goal.returns-in-Err-clause-stops
returns-in-Err-clause-stops c =
    let line = subst (λ (is : Bool). IsLine c.args.text.now (updated_line is) c.in-Some.rest.now) c.if-not-is_updated.false c.in-Some.ensures.1 in
    if_before _ _ (λ left s apart. updated_rest c.args.known.now.list c.args.text.now c.in-Some.rest.now left line (s apart)) c.in-Err.stop c.in-Err.ensures.stops
