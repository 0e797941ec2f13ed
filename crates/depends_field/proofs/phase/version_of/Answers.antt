use Rattle.std.proofs.Common.{sym, ap, inl, inr, Some, ◌∙◌}
use Rattle.std.proofs.lemmas.Bool.{cond-false, cond-true}
use Rattle.deb_version.specs.VersionText.{fault_of}
use Rattle.depends_field.proofs.Words.{utf8_from_version_bytes, version_word_from, no_version_word_from_bytes, no_version_word_from_fault}
use Rattle.depends_field.proofs.phase.version_of.Goals as goal

pub returns-then-not-has_version_bytes : goal.returns-then-not-has_version_bytes
returns-then-not-has_version_bytes c =
    sym (cond-false _ _ _ (no_version_word_from_bytes c.args.piece.now (sym c.has_version_bytes.ensures ∙ c.if-not-has_version_bytes.true)))

pub returns-in_default : goal.returns-in_default
returns-in_default c =
    absurd (c.in_default.ensures.cases.0 (utf8_from_version_bytes c.args.piece.now (sym c.has_version_bytes.ensures ∙ c.if-not-has_version_bytes.false)))

pub returns-in-Ok-parse : goal.returns-in-Ok-parse
returns-in-Ok-parse c =
    let text = c.in-Ok.ensures.cases.0 in
    let good = c.in-Ok-parse.ensures.reads in
    ap Some (good.0 ∙ text) ∙ sym (cond-true _ _ _ (version_word_from c.args.piece.now (sym c.has_version_bytes.ensures ∙ c.if-not-has_version_bytes.false) (ap fault_of (sym text) ∙ good.1)))

pub returns-in_ok-spared-in-Err : goal.returns-in_ok-spared-in-Err
returns-in_ok-spared-in-Err c =
    let text = c.in-Ok.ensures.cases.0 in
    elim c.in-Err.ensures.refuses [
      | inl fault ↦ sym (cond-false _ _ _ (no_version_word_from_fault c.args.piece.now c.in-Err.fault (ap fault_of (sym text) ∙ fault)))
      | inr both ↦ absurd (c.in_ok-spared-in-Err.ensures both.1)
    ]
