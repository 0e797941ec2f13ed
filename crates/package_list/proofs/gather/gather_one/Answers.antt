use Rattle.std.proofs.Common.{◌≡◌, Some, None, sym, ◌∙◌, subst, cond, Ok, Err, false, rules}
use Rattle.std.specs.Ordering.{is_eq}
use Rattle.std.specs.List.{find}
use Rattle.package_core.specs.Card.{triple}
use Rattle.package_core.specs.Order.{package_cmp}
use Rattle.package_list.specs.declared.fault.ListFault.TheVariants.{Conflict}
use Rattle.package_list.specs.Answers.{Answers}
use Rattle.package_list.proofs.Gathers.{found_decides, found_stays, none_decides, key_is_put, of_triple, if_equal}
use Rattle.package_list.proofs.gather.gather_one.Goals as goal

pub returns-in-Some-clause-answer : goal.returns-in-Some-clause-answer
returns-in-Some-clause-answer c =
    let found : find (of_triple c.args.new) c.args.members.now.keys ≡ Some c.in-Some.member.now = sym c.in-Some.ensures.key in
    let new = c.package-in-Some.ensures in
    subst (Answers c.check_equal.result)
    ((λ i. cond (is_eq (package_cmp (c.package.ensures i) (new i))) (Ok false) (Err (Conflict (triple (new i))))) ∙ sym (found_decides c.args.members.now.keys c.args.new c.in-Some.member.now c.len-is_full.ensures.ordered found))
    c.check_equal.ensures

pub returns-in-Some-clause-ok : goal.returns-in-Some-clause-ok
returns-in-Some-clause-ok c =
    let found : find (of_triple c.args.new) c.args.members.now.keys ≡ Some c.in-Some.member.now = sym c.in-Some.ensures.key in
    let new = c.package-in-Some.ensures in
    if_equal c.check_equal.result _ _ c.check_equal.ensures
    (λ e. sym (found_stays c.args.members.now.keys c.args.new c.in-Some.member.now c.len-is_full.ensures.ordered found ((λ i. is_eq (package_cmp (sym c.package.ensures i) (sym new i))) ∙ e)))

pub returns-then-is_full-clause-answer : goal.returns-then-is_full-clause-answer
returns-then-is_full-clause-answer c =
    let none : find (of_triple c.args.new) c.args.members.now.keys ≡ None = sym c.in_default.ensures.key in
    none_decides c.args.members.now.keys c.args.new none ∙ (search rules)

pub returns-clause-answer : goal.returns-clause-answer
returns-clause-answer c =
    let none : find (of_triple c.args.new) c.args.members.now.keys ≡ None = sym c.in_default.ensures.key in
    none_decides c.args.members.now.keys c.args.new none ∙ (search rules)

pub returns-clause-ok : goal.returns-clause-ok
returns-clause-ok c =
    let none : find (of_triple c.args.new) c.args.members.now.keys ≡ None = sym c.in_default.ensures.key in
    c.in_ok-insert.ensures.keys ∙ key_is_put c.args.members.now.keys c.args.new none
