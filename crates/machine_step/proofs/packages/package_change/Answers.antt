use Rattle.std.proofs.Common.{None, Some, ap, sym, subst, inl, ◌∙◌}
use Rattle.std.specs.Result.{IfOk, IfErr}
use Rattle.command_words.specs.Plain.{plain}
use Rattle.machine_state.specs.declared.refusal.Refusal.TheVariants.{NotBuilt}
use Rattle.step_model.specs.Answers.{came, ComesTo, FaultIs, IsRefusedFor, Told}
use Rattle.step_model.specs.Case.{Case}
use Rattle.step_model.proofs.RefusalLemmas.{refuses_first}
use Rattle.machine_step.proofs.FamilyLemmas.{case_of_search, case_of_show, other_rest}
use Rattle.machine_step.proofs.packages.package_change.Goals as goal

pub returns-in-PackageSearch-clause-ok : goal.returns-in-PackageSearch-clause-ok
returns-in-PackageSearch-clause-ok g c = λ k arrived e.
    subst (λ (q : Case). IfOk c.search.result (λ change. ComesTo None q arrived (came c.args.state.now change))) (case_of_search c.args.state.now k _ (sym e ∙ ap plain c.in-PackageSearch.is)) (c.search.ensures.ok arrived)

pub returns-in-PackageSearch-clause-fault : goal.returns-in-PackageSearch-clause-fault
returns-in-PackageSearch-clause-fault g c = λ k arrived e.
    subst (λ (q : Case). IfErr c.search.result (FaultIs (λ refusal. Told (g.M.Patterns.refusals c.args.patterns.now) (g.M.Patterns.refusals c.search.new.patterns) (g.M.Patterns.refused c.search.new.patterns) (λ large. IsRefusedFor large q arrived refusal))))
    (case_of_search c.args.state.now k _ (sym e ∙ ap plain c.in-PackageSearch.is)) (c.search.ensures.fault arrived)

pub returns-in-PackageShow-clause-ok : goal.returns-in-PackageShow-clause-ok
returns-in-PackageShow-clause-ok g c = λ k arrived e.
    subst (λ (q : Case). IfOk c.show.result (λ change. ComesTo None q arrived (came c.args.state.now change))) (case_of_show c.args.state.now k _ (sym e ∙ ap plain c.in-PackageShow.is)) (c.show.ensures.ok arrived)

pub returns-in-PackageShow-clause-fault : goal.returns-in-PackageShow-clause-fault
returns-in-PackageShow-clause-fault g c = λ k arrived e.
    subst (λ (q : Case). IfErr c.show.result (FaultIs (λ refusal. Told (g.M.Patterns.refusals c.args.patterns.now) (g.M.Patterns.refusals c.show.new.patterns) (g.M.Patterns.refused c.show.new.patterns) (λ large. IsRefusedFor large q arrived refusal))))
    (case_of_show c.args.state.now k _ (sym e ∙ ap plain c.in-PackageShow.is)) (c.show.ensures.fault arrived)

pub returns-in_default-clause-fault : goal.returns-in_default-clause-fault
returns-in_default-clause-fault g c = λ k arrived e.
    (None, tt, inl (refuses_first None _ NotBuilt (ap (λ (q : Case). q.early) (other_rest c.args.state.now c.args.command.now k e c.in_default.not-PackageSearch c.in_default.not-PackageShow))))
