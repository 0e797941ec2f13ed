use Rattle.std.proofs.Common.{sym, ap, ◌∙◌}
use Rattle.std.specs.Rc.{rc_value}
use Rattle.package_core.specs.Card.{Card}
use Rattle.package_intake.specs.Inside.{file_in}
use Rattle.package_intake.specs.Inside.{file_of}
use Rattle.package_intake.proofs.MapLemmas.{file_before, file_now}
use Rattle.package_intake.proofs.known.note_file.Goals as goal

pub returns-then-contains_key : goal.returns-then-contains_key
returns-then-contains_key c q = file_before rc_value c.args.files.now c.package.result.now.said.sha256 c.args.one.now q (ap (λ (p : Card). p.said.sha256) (c.package.ensures ∙ c.as_ref.ensures)) (sym c.if-contains_key.ensures)

pub returns : goal.returns
returns c q =
    let v = c.in_ok-clone.field-0 in
    let same = c.in_ok-clone.ensures.cases in
    file_now rc_value c.args.files.now c.insert.new.self c.package.result.now.said.sha256 v q (ap (λ (p : Card). p.said.sha256) (c.package.ensures ∙ c.as_ref.ensures ∙ sym same)) (sym c.if-contains_key.ensures) (c.in_ok-insert.ensures.updates.0 q)
    ∙ ap (λ (p : Card). file_in (file_of c.args.files.now q) p q) same
