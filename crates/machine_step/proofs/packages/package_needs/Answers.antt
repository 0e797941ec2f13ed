use Rattle.std.proofs.Common.{None, Some, ap, sym, subst, ◌∙◌}
use Rattle.std.specs.Result.{IfOk, IfErr}
use Rattle.command_words.specs.Plain.{plain}
use Rattle.machine_state.specs.declared.refusal.Refusal.TheVariants.{NotBuilt}
use Rattle.reply_text.specs.Replies.{package_search, package_show}
use Rattle.step_model.specs.Answers.{FaultIs, IsWanted, Told}
use Rattle.step_model.specs.Case.{Case}
use Rattle.step_model.specs.Refuses.{Refuses}
use Rattle.step_model.proofs.RefusalLemmas.{refuses_first}
use Rattle.machine_step.proofs.FamilyLemmas.{case_of_search, case_of_show, other_rest}
use Rattle.machine_step.proofs.packages.package_needs.Goals as goal

pub returns-in-PackageSearch-clause-ok : goal.returns-in-PackageSearch-clause-ok
returns-in-PackageSearch-clause-ok g c = λ state k e.
    subst (λ (q : Case). IfOk c.asking_needs.result (IsWanted None q)) (case_of_search state k _ (sym e ∙ ap plain c.in-PackageSearch.is)) (c.asking_needs.ensures.ok state package_search)

pub returns-in-PackageSearch-clause-fault : goal.returns-in-PackageSearch-clause-fault
returns-in-PackageSearch-clause-fault g c = λ state k e.
    subst (λ (q : Case). IfErr c.asking_needs.result (FaultIs (λ refusal. Told (g.M.Patterns.refusals c.args.patterns.now) (g.M.Patterns.refusals c.asking_needs.new.patterns) (g.M.Patterns.refused c.asking_needs.new.patterns) (λ large. Refuses large q (Some refusal)))))
    (case_of_search state k _ (sym e ∙ ap plain c.in-PackageSearch.is)) (c.asking_needs.ensures.fault state package_search)

pub returns-in-PackageShow-clause-ok : goal.returns-in-PackageShow-clause-ok
returns-in-PackageShow-clause-ok g c = λ state k e.
    subst (λ (q : Case). IfOk c.asking_needs-in-PackageShow.result (IsWanted None q)) (case_of_show state k _ (sym e ∙ ap plain c.in-PackageShow.is)) (c.asking_needs-in-PackageShow.ensures.ok state package_show)

pub returns-in-PackageShow-clause-fault : goal.returns-in-PackageShow-clause-fault
returns-in-PackageShow-clause-fault g c = λ state k e.
    subst (λ (q : Case). IfErr c.asking_needs-in-PackageShow.result (FaultIs (λ refusal. Told (g.M.Patterns.refusals c.args.patterns.now) (g.M.Patterns.refusals c.asking_needs-in-PackageShow.new.patterns) (g.M.Patterns.refused c.asking_needs-in-PackageShow.new.patterns) (λ large. Refuses large q (Some refusal)))))
    (case_of_show state k _ (sym e ∙ ap plain c.in-PackageShow.is)) (c.asking_needs-in-PackageShow.ensures.fault state package_show)

pub returns-in_default-clause-fault : goal.returns-in_default-clause-fault
returns-in_default-clause-fault g c = λ state k e.
    (None, tt, refuses_first None _ NotBuilt (ap (λ (q : Case). q.early) (other_rest state c.args.command.now k e c.in_default.not-PackageSearch c.in_default.not-PackageShow)))
