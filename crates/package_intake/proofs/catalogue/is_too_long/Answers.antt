use Rattle.std.proofs.Common.{◌+◌, ◌≤◌, ◌<◌, List, map, length, sym, ap, ◌∙◌, arith, lt-ltb, le-ltb, take_all}
use Rattle.std.proofs.lemmas.List.{length-map}
use Rattle.std.specs.Rc.{rc_value}
use Rattle.package_core.specs.Card.{Card, package_text}
use Rattle.machine_state.specs.declared.limit.Limit.TheVariants.{Catalogue}
use Rattle.machine_state.specs.Limits.{limit_number}
use Rattle.machine_state.specs.State.{text_length}
use Rattle.package_intake.proofs.TextLemmas.{text_next, text_front}
use Rattle.package_intake.proofs.catalogue.is_too_long.Goals as goal

pub loop-package-preserved : goal.loop-package-preserved
loop-package-preserved c =
    let i = c.loop-package.package-index in
    let packages = c.args.packages.now in
    let size = c.text_len-length.ensures ∙ ap (λ (p : Card). length (package_text p)) c.as_ref.ensures in
    let next = text_next rc_value packages i c.package-item.result c.loop-package-test.true c.package-item.is in
    omega (arith, size, next, c.loop-package.invariant, c.if-length-left.false)

pub returns-then-length-left : goal.returns-then-length-left
returns-then-length-left c =
    let i = c.loop-package.package-index in
    let packages = c.args.packages.now in
    let size = c.text_len-length.ensures ∙ ap (λ (p : Card). length (package_text p)) c.as_ref.ensures in
    let next = text_next rc_value packages i c.package-item.result c.loop-package-test.true c.package-item.is in
    let front = text_front (map rc_value packages) (i + 1) in
    let more : limit_number Catalogue < text_length (map rc_value packages) = omega (arith, size, next, front, c.loop-package.invariant, c.if-length-left.true) in
    sym (lt-ltb (limit_number Catalogue) (text_length (map rc_value packages)) more)

pub returns : goal.returns
returns c =
    let i = c.loop-package.package-index in
    let all : List Card = map rc_value c.args.packages.now in
    let long : length all ≤ i = omega (arith, length-map c.args.packages.now rc_value, c.loop-package-test.false) in
    let whole = ap text_length (take_all i all long) in
    let fits : text_length all ≤ limit_number Catalogue = omega (arith, whole, c.loop-package.invariant) in
    sym (le-ltb (limit_number Catalogue) (text_length all) fits)
