use Rattle.std.proofs.Common.{◌≡◌, Ok, Err, sym, ap, ◌∙◌, subst, Result}
use Rattle.std.specs.Result.{MatchResult}
use Rattle.control_stanza.specs.declared.fault.StanzaKind.{StanzaKind}
use Rattle.control_stanza.specs.Lines.{LineView, shape_of}
use Rattle.control_stanza.specs.Answers.{view}
use Rattle.control_stanza.proofs.LineLemmas.{not_utf8, plain_shape}
use Rattle.control_stanza.proofs.line.classify.Goals as goal

pub returns-in-Err : goal.returns-in-Err
returns-in-Err c = not_utf8 c.args.line.now (sym c.contains.ensures.value ∙ c.if-contains.false) c.in-Err.ensures.cases.0

pub returns-in-Ok : goal.returns-in-Ok
returns-in-Ok c =
    let e = c.in-Ok.ensures.cases in
    let same = ap shape_of e.0 ∙ sym (plain_shape c.args.line.now (sym c.contains.ensures.value ∙ c.if-contains.false) e.1) in
    subst (λ (s : Result LineView StanzaKind). MatchResult c.shape.result (λ l. s ≡ Ok (view l)) (λ k. s ≡ Err k)) same c.shape.ensures
