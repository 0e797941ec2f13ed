use Rattle.std.proofs.Common.{◌≡◌, ◌∙◌, ◌<◌, ◌+◌, ◌&&◌, ap, sym, length, map, drop, arith, Ordering}
use Rattle.std.specs.Ordering.{is_eq}
use Rattle.std.specs.Rc.{rc_value}
use Rattle.std.proofs.lemmas.List.{length-map}
use Rattle.package_core.specs.Order.{package_cmp}
use Rattle.mirror_ops.specs.Updates.{same_members as same_members_of}
use Rattle.mirror_ops.proofs.UpdateLemmas.{differ_here, equal_here, lengths_differ, members_on}
use Rattle.mirror_ops.proofs.updating.same_members.Goals as goal

pub returns-then-members-others : goal.returns-then-members-others
returns-then-members-others c =
    let m = c.as_slice-members.ensures in
    let o = c.as_slice-others.ensures in
    sym (lengths_differ c.args.list.now c.args.other.now (λ e. c.if-members-others.true (sym (length-map c.as_slice-members.result.now rc_value) ∙ ap length m ∙ e ∙ sym (ap length o) ∙ length-map c.as_slice-others.result.now rc_value)))

pub returns-then-is_ne : goal.returns-then-is_ne
returns-then-is_ne c =
    let x = c.index-members-i.result in
    let y = c.index-others-i.result in
    let members = c.as_slice-members.result.now in
    let others = c.as_slice-others.result.now in
    let l : c.loop-i.i < length others = omega (arith, c.loop-i-test.true, c.if-members-others.false) in
    let on = members_on rc_value members others c.loop-i.i x y c.loop-i-test.true l c.index-members-i.is c.index-others-i.is in
    let rest = same_members_of (drop (c.loop-i.i + 1) (map rc_value members)) (drop (c.loop-i.i + 1) (map rc_value others)) in
    let order : package_cmp (rc_value x) (rc_value y) ≡ c.compare_packages.result = cc in
    let here = on ∙ ap (λ (o : Ordering). is_eq o && rest) order ∙ differ_here c.compare_packages.result rest (sym c.is_ne.ensures ∙ c.if-is_ne.true) in
    sym ((λ i. same_members_of (sym c.as_slice-members.ensures i) (sym c.as_slice-others.ensures i)) ∙ c.loop-i.invariant ∙ here)

pub loop-i-preserved : goal.loop-i-preserved
loop-i-preserved c =
    let x = c.index-members-i.result in
    let y = c.index-others-i.result in
    let members = c.as_slice-members.result.now in
    let others = c.as_slice-others.result.now in
    let l : c.loop-i.i < length others = omega (arith, c.loop-i-test.true, c.if-members-others.false) in
    let on = members_on rc_value members others c.loop-i.i x y c.loop-i-test.true l c.index-members-i.is c.index-others-i.is in
    let rest = same_members_of (drop (c.loop-i.i + 1) (map rc_value members)) (drop (c.loop-i.i + 1) (map rc_value others)) in
    let order : package_cmp (rc_value x) (rc_value y) ≡ c.compare_packages.result = cc in
    c.loop-i.invariant ∙ on ∙ ap (λ (o : Ordering). is_eq o && rest) order ∙ equal_here c.compare_packages.result rest (sym c.is_ne.ensures ∙ c.if-is_ne.false)
