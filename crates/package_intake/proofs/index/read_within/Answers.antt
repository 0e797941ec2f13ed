use Rattle.std.proofs.Common.{◌≡◌, ◌<◌, ◌≤◌, Some, length, sym, ◌∙◌, arith}
use Rattle.std.specs.Option.{option_map}
use Rattle.machine_state.specs.Limits.{limit_number}
use Rattle.package_intake.proofs.IndexLemmas.{whole_within, read_full}
use Rattle.package_intake.proofs.FaultLemmas.{unread_early}
use Rattle.package_intake.proofs.index.read_within.Goals as goal

pub returns-then-len-size-clause-told : goal.returns-then-len-size-clause-told
returns-then-len-size-clause-told g c f e =
    let there : Some c.in-Some.size ≡ option_map length (f c.args.path.now) = sym c.in-Some.is ∙ c.in_ok-size.ensures.told f e in
    let full = read_full (f c.args.path.now) c.in-Some.size c.in_ok-bytes.bytes there (c.in_ok-bytes.ensures.told f (c.in_ok-size.ensures.map ∙ e)) in
    absurd (c.if-len-size.true (c.len.ensures ∙ full))

pub returns-clause-told : goal.returns-clause-told
returns-clause-told g c f e =
    let there : Some c.in-Some.size ≡ option_map length (f c.args.path.now) = sym c.in-Some.is ∙ c.in_ok-size.ensures.told f e in
    let le : c.in-Some.size ≤ limit_number c.args.limit = omega (arith, c.if-size-number.false, c.number.ensures) in
    whole_within c.args.limit c.args.path.now (f c.args.path.now) c.in-Some.size c.in_ok-bytes.bytes there le (c.in_ok-bytes.ensures.told f (c.in_ok-size.ensures.map ∙ e))

pub returns-then-len-size-clause-fault : goal.returns-then-len-size-clause-fault
returns-then-len-size-clause-fault g c =
    let less : c.len-then-len-size.result < c.in-Some.size = omega (arith, c.if-len-size.true, c.len.ensures, c.len-then-len-size.ensures, c.in_ok-bytes.ensures.bound) in
    unread_early c.args.limit c.args.path.now c.in-Some.size c.len-then-len-size.result _ less c.other_size.ensures
