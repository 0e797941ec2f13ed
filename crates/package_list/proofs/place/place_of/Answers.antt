use Rattle.std.proofs.Common.{sym, ap, ◌∙◌, ◌+◌, ◌-◌, ◌/◌, map, arith}
use Rattle.std.specs.Rc.{rc_value}
use Rattle.std.proofs.lemmas.List.{get_or-map, length-map}
use Rattle.package_core.proofs.OrderLaws.{package_total}
use Rattle.package_list.proofs.SortedLemmas.{low_step, high_step, all_less_before, starts_behind, less_from, not_less_from}
use Rattle.package_list.proofs.place.place_of.Goals as goal

pub loop-low-preserved-then-is_lt : goal.loop-low-preserved-then-is_lt
loop-low-preserved-then-is_lt c =
    let middle = c.loop-low.low + (c.loop-low.high - c.loop-low.low) / 2 in
    let items = c.args.items.now in
    let at = c.package_of.ensures ∙ ap rc_value c.index-items-middle.is ∙ sym (get_or-map rc_value items middle c.index-items-middle.result c.package_of.result.now (omega arith)) in
    record {
      inside = omega arith;
      before = low_step package_total (map rc_value items) middle c.package_of.result.now c.args.wanted.now c.requires (omega (arith, length-map items rc_value)) at (sym c.compare_packages.ensures ∙ less_from _ (sym c.is_lt.ensures ∙ c.if-is_lt.true));
      behind = c.loop-low.invariant.behind;
    }

pub loop-low-preserved : goal.loop-low-preserved
loop-low-preserved c =
    let middle = c.loop-low.low + (c.loop-low.high - c.loop-low.low) / 2 in
    let items = c.args.items.now in
    let at = c.package_of.ensures ∙ ap rc_value c.index-items-middle.is ∙ sym (get_or-map rc_value items middle c.index-items-middle.result c.package_of.result.now (omega arith)) in
    let same = length-map items rc_value in
    record {
      inside = omega arith;
      before = c.loop-low.invariant.before;
      behind = λ k d le lt. high_step package_total (map rc_value items) middle c.package_of.result.now c.args.wanted.now c.requires (omega arith) at (λ e. not_less_from _ (sym c.is_lt.ensures ∙ c.if-is_lt.false) (c.compare_packages.ensures ∙ e)) k d le (omega arith);
    }

pub returns-clause-before : goal.returns-clause-before
returns-clause-before c = all_less_before package_total _ _ _ (omega (arith, length-map c.args.items.now rc_value)) c.loop-low.invariant.before

pub returns-clause-behind : goal.returns-clause-behind
returns-clause-behind c =
    let same = length-map c.args.items.now rc_value in
    starts_behind package_total (map rc_value c.args.items.now) c.loop-low.low c.args.wanted.now (λ k d le lt. c.loop-low.invariant.behind k d (omega arith) (omega arith))
