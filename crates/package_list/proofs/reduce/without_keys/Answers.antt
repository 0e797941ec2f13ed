use Rattle.std.proofs.Common.{ap, ◌∙◌, map}
use Rattle.std.specs.Rc.{rc_value}
use Rattle.package_list.proofs.Keys.{kept_none, kept_less, kept_equal, kept_greater, kept_rest}
use Rattle.package_list.proofs.reduce.without_keys.Goals as goal

pub loop-y-init : goal.loop-y-init
loop-y-init c = rw c.new-kept.ensures.items (kept_none (map rc_value c.args.xs.now) (map rc_value c.args.ys.now) c.requires.first c.requires.second)

pub loop-y-preserved-in-Less : goal.loop-y-preserved-in-Less
loop-y-preserved-in-Less c = kept_less _ _ _ _ _ _ _ _ _ _ (ap (map rc_value) c.in-Some-first_and_rest.ensures) (ap (map rc_value) c.in-Some.ensures) c.in_ok-push_copy-in-Less.ensures (cc) c.loop-y.invariant

pub loop-y-preserved-in-Equal : goal.loop-y-preserved-in-Equal
loop-y-preserved-in-Equal c = kept_equal _ _ _ _ _ _ _ _ _ (ap (map rc_value) c.in-Some-first_and_rest.ensures) (ap (map rc_value) c.in-Some.ensures) (cc) c.loop-y.invariant

pub loop-y-preserved : goal.loop-y-preserved
loop-y-preserved c = kept_greater _ _ _ _ _ _ _ _ _ (ap (map rc_value) c.in-Some-first_and_rest.ensures) (ap (map rc_value) c.in-Some.ensures) (cc) c.loop-y.invariant

pub returns : goal.returns
returns c = c.in_ok-append_items.ensures ∙ kept_rest _ _ _ _ _ (ap (map rc_value) c.in_default.ensures) c.loop-y.invariant
