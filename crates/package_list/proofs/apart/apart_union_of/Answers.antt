use Rattle.std.proofs.Common.{ap, map, rules}
use Rattle.std.specs.Rc.{rc_value}
use Rattle.package_list.proofs.Passed.{between_equal, between_greater, told_here, told_equal, apart_less, apart_equal, apart_greater, apart_ends}
use Rattle.package_list.proofs.apart.apart_union_of.Goals as goal

pub returns-in_err-check_apart-in-None : goal.returns-in_err-check_apart-in-None
returns-in_err-check_apart-in-None c =
    let checked = rw (c.deref.ensures.value, c.package_of.ensures) at c.in_err-check_apart-in-None.ensures in
    let tells = told_here _ _ _ _ _ _ _ (ap (map rc_value) c.in-Some.ensures) c.loop-y.invariant _ checked in
    search (tells, rules)

pub loop-y-preserved-in-None : goal.loop-y-preserved-in-None
loop-y-preserved-in-None c =
    let checked = rw (c.deref.ensures.value, c.package_of.ensures) at c.in_ok-check_apart-in-None.ensures in
    apart_ends _ _ _ _ _ _ _ (ap (map rc_value) c.in-Some.ensures) c.loop-y.invariant _ _ (ap (map rc_value) c.in-None.ensures) c.in_ok-push_copy-in-None.ensures checked

pub loop-y-preserved-in-Less : goal.loop-y-preserved-in-Less
loop-y-preserved-in-Less c =
    apart_less _ _ _ _ _ _ _ (ap (map rc_value) c.in-Some.ensures) c.loop-y.invariant _ _ _ (ap (map rc_value) c.in-Some-first_and_rest.ensures) c.in_ok-push_copy-in-Less.ensures (cc)

pub check_apart-requires-in-Equal : goal.check_apart-requires-in-Equal
check_apart-requires-in-Equal c =
    rw (c.deref-in-Equal.ensures.value, c.package_of-in-Equal.ensures)
    (between_equal _ _ _ _ _ _ _ (ap (map rc_value) c.in-Some.ensures) c.loop-y.invariant _ _ (ap (map rc_value) c.in-Some-first_and_rest.ensures) (cc))

pub returns-in_err-check_apart-in-Equal : goal.returns-in_err-check_apart-in-Equal
returns-in_err-check_apart-in-Equal c =
    let checked = rw (c.deref-in-Equal.ensures.value, c.package_of-in-Equal.ensures) at c.in_err-check_apart-in-Equal.ensures in
    let tells = told_equal _ _ _ _ _ _ _ (ap (map rc_value) c.in-Some.ensures) c.loop-y.invariant _ _ _ (ap (map rc_value) c.in-Some-first_and_rest.ensures) (cc) checked in
    search (tells, rules)

pub loop-y-preserved-in-Equal : goal.loop-y-preserved-in-Equal
loop-y-preserved-in-Equal c =
    let checked = rw (c.deref-in-Equal.ensures.value, c.package_of-in-Equal.ensures) at c.in_ok-check_apart-in-Equal.ensures in
    apart_equal _ _ _ _ _ _ _ (ap (map rc_value) c.in-Some.ensures) c.loop-y.invariant _ _ _ (ap (map rc_value) c.in-Some-first_and_rest.ensures) (cc) checked

pub check_apart-requires-in-Greater : goal.check_apart-requires-in-Greater
check_apart-requires-in-Greater c =
    rw (c.deref-in-Greater.ensures.value, c.package_of-in-Greater.ensures)
    (between_greater _ _ _ _ _ _ _ (ap (map rc_value) c.in-Some.ensures) c.loop-y.invariant _ _ (ap (map rc_value) c.in-Some-first_and_rest.ensures) (cc))

pub returns-in_err-check_apart-in-Greater : goal.returns-in_err-check_apart-in-Greater
returns-in_err-check_apart-in-Greater c =
    let checked = rw (c.deref-in-Greater.ensures.value, c.package_of-in-Greater.ensures) at c.in_err-check_apart-in-Greater.ensures in
    let tells = told_here _ _ _ _ _ _ _ (ap (map rc_value) c.in-Some.ensures) c.loop-y.invariant _ checked in
    search (tells, rules)

pub loop-y-preserved : goal.loop-y-preserved
loop-y-preserved c =
    let checked = rw (c.deref-in-Greater.ensures.value, c.package_of-in-Greater.ensures) at c.in_ok-check_apart-in-Greater.ensures in
    apart_greater _ _ _ _ _ _ _ (ap (map rc_value) c.in-Some.ensures) c.loop-y.invariant _ _ _ _ (ap (map rc_value) c.in-Some-first_and_rest.ensures) c.in_ok-push_copy-in-Greater.ensures (cc) checked
