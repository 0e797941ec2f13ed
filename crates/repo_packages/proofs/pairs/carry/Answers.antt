use Rattle.std.proofs.Common.{◌∙◌, arith, ap, subst, sym}
use Rattle.machine_state.specs.Ascending.{IsAscending}
use Rattle.machine_state.specs.State.{repo_cmp}
use Rattle.machine_state.specs.Values.{StateView}
use Rattle.repo_packages.specs.PackageCases.{changed_in, with_list}
use Rattle.repo_packages.proofs.ListingLemmas.{listed_sorted}
use Rattle.repo_packages.proofs.PairLemmas.{moving_new, moving_none, moving_some}
use Rattle.repo_packages.proofs.pairs.carry.Goals as goal

pub returns-then-count-eq0-clause-comes : goal.returns-then-count-eq0-clause-comes
returns-then-count-eq0-clause-comes c = λ from to v there here all.
    moving_none c.args.state.now from to c.args.source.now c.args.destination.now there here c.in_ok-reply.reply c.args.all c.in_ok-left.left c.args.more.now v (omega (arith, c.if-count-eq0.true, c.len-count.ensures)) all c.in_ok-left.ensures c.in_ok-reply.ensures

pub returns-clause-comes : goal.returns-clause-comes
returns-clause-comes c = λ from to v there here all.
    let between = c.in_ok-new.ensures v.repos.sorted in
    let up = subst (λ (s : StateView). IsAscending repo_cmp s.repos) (sym (c.new.view_is ∙ between)) (listed_sorted c.args.state.now c.args.destination.now.name c.args.all v.repos.sorted) in
    let set = c.set_list.ensures up ∙ ap (λ (s : StateView). changed_in c.args.source.now.name (with_list c.in_ok-left.left) s.repos) c.new.view_is in
    moving_some c.args.state.now from to c.args.source.now c.args.destination.now there here c.in_ok-reply.reply c.args.all c.in_ok-left.left c.args.more.now c.in_ok-new.new _ all c.in_ok-left.ensures c.in_ok-reply.ensures between
    (λ i. record (c.new.view_is i) { repos = set i })

pub returns-clause-new : goal.returns-clause-new
returns-clause-new c = λ from to test v there here chose.
    let between = c.in_ok-new.ensures v.repos.sorted in
    let up = subst (λ (s : StateView). IsAscending repo_cmp s.repos) (sym (c.new.view_is ∙ between)) (listed_sorted c.args.state.now c.args.destination.now.name c.args.all v.repos.sorted) in
    let set = c.set_list.ensures up ∙ ap (λ (s : StateView). changed_in c.args.source.now.name (with_list c.in_ok-left.left) s.repos) c.new.view_is in
    moving_new c.args.state.now from to c.args.source.now c.args.destination.now there here c.args.all c.in_ok-left.left c.args.more.now c.in_ok-new.new _ test c.in_ok-left.ensures chose
    (λ none. c.if-count-eq0.false (omega (arith, none, c.len-count.ensures))) between (λ i. record (c.new.view_is i) { repos = set i })
