use Rattle.std.proofs.Common.{None, Some, sym, ap, ◌∙◌, subst}
use Rattle.std.specs.Result.{IfOk, IfErr}
use Rattle.command_words.specs.Plain.{plain}
use Rattle.machine_state.specs.declared.refusal.Refusal.TheVariants.{NotBuilt}
use Rattle.step_model.specs.Answers.{FaultIs, IsWanted, Told}
use Rattle.step_model.specs.Case.{Case}
use Rattle.step_model.specs.Refuses.{Refuses}
use Rattle.step_model.proofs.RefusalLemmas.{refuses_first}
use Rattle.machine_step.specs.Step.{case_of}
use Rattle.machine_step.proofs.FamilyLemmas.{is_repo, is_snapshot, is_mirror, is_other, case_of_repo, case_of_snapshot, case_of_mirror, case_of_other, case_of_rest}
use Rattle.machine_step.proofs.needs.need.Goals as goal

pub returns-in-Repo-clause-ok : goal.returns-in-Repo-clause-ok
returns-in-Repo-clause-ok g c = λ now v.
    let r = is_repo (plain c.args.command.now) (sym c.family_of.ensures ∙ c.in-Repo.is) in
    subst (λ (k : Case). IfOk c.needs.result (IsWanted None k)) (case_of_repo now c.args.state.now (plain c.args.command.now) r.0 r.1) (c.needs.ensures.ok r.0 r.1 v)

pub returns-in-Repo-clause-fault : goal.returns-in-Repo-clause-fault
returns-in-Repo-clause-fault g c = λ now v.
    let r = is_repo (plain c.args.command.now) (sym c.family_of.ensures ∙ c.in-Repo.is) in
    subst (λ (k : Case). IfErr c.needs.result (FaultIs (λ refusal. Told (g.M.Patterns.refusals c.args.patterns.now) (g.M.Patterns.refusals c.needs.new.patterns) (g.M.Patterns.refused c.needs.new.patterns) (λ large. Refuses large k (Some refusal)))))
    (case_of_repo now c.args.state.now (plain c.args.command.now) r.0 r.1) (c.needs.ensures.fault r.0 r.1 v)

pub returns-in-Snapshot-clause-ok : goal.returns-in-Snapshot-clause-ok
returns-in-Snapshot-clause-ok g c = λ now v.
    let r = is_snapshot (plain c.args.command.now) (sym c.family_of.ensures ∙ c.in-Snapshot.is) in
    subst (λ (k : Case). IfOk c.needs-in-Snapshot.result (IsWanted None k)) (case_of_snapshot now c.args.state.now (plain c.args.command.now) r.0 r.1) (c.needs-in-Snapshot.ensures.ok r.0 r.1 v)

pub returns-in-Snapshot-clause-fault : goal.returns-in-Snapshot-clause-fault
returns-in-Snapshot-clause-fault g c = λ now v.
    let r = is_snapshot (plain c.args.command.now) (sym c.family_of.ensures ∙ c.in-Snapshot.is) in
    subst (λ (k : Case). IfErr c.needs-in-Snapshot.result (FaultIs (λ refusal. Told (g.M.Patterns.refusals c.args.patterns.now) (g.M.Patterns.refusals c.needs-in-Snapshot.new.patterns) (g.M.Patterns.refused c.needs-in-Snapshot.new.patterns) (λ large. Refuses large k (Some refusal)))))
    (case_of_snapshot now c.args.state.now (plain c.args.command.now) r.0 r.1) (c.needs-in-Snapshot.ensures.fault r.0 r.1 v)

pub returns-in-Mirror-clause-ok : goal.returns-in-Mirror-clause-ok
returns-in-Mirror-clause-ok g c = λ now v.
    let r = is_mirror (plain c.args.command.now) (sym c.family_of.ensures ∙ c.in-Mirror.is) in
    subst (λ (k : Case). IfOk c.needs-in-Mirror.result (IsWanted None k)) (case_of_mirror now c.args.state.now (plain c.args.command.now) r.0 r.1) (c.needs-in-Mirror.ensures.ok r.0 r.1 v)

pub returns-in-Mirror-clause-fault : goal.returns-in-Mirror-clause-fault
returns-in-Mirror-clause-fault g c = λ now v.
    let r = is_mirror (plain c.args.command.now) (sym c.family_of.ensures ∙ c.in-Mirror.is) in
    subst (λ (k : Case). IfErr c.needs-in-Mirror.result (FaultIs (λ refusal. Told (g.M.Patterns.refusals c.args.patterns.now) (g.M.Patterns.refusals c.needs-in-Mirror.new.patterns) (g.M.Patterns.refused c.needs-in-Mirror.new.patterns) (λ large. Refuses large k (Some refusal)))))
    (case_of_mirror now c.args.state.now (plain c.args.command.now) r.0 r.1) (c.needs-in-Mirror.ensures.fault r.0 r.1 v)

pub returns-in-Other-clause-ok : goal.returns-in-Other-clause-ok
returns-in-Other-clause-ok g c = λ now v.
    let r = is_other (plain c.args.command.now) (sym c.family_of.ensures ∙ c.in-Other.is) in
    subst (λ (k : Case). IfOk c.package_needs.result (IsWanted None k)) (case_of_other now c.args.state.now (plain c.args.command.now) r.0 r.1) (c.package_needs.ensures.ok c.args.state.now r.0 r.1)

pub returns-in-Other-clause-fault : goal.returns-in-Other-clause-fault
returns-in-Other-clause-fault g c = λ now v.
    let r = is_other (plain c.args.command.now) (sym c.family_of.ensures ∙ c.in-Other.is) in
    subst (λ (k : Case). IfErr c.package_needs.result (FaultIs (λ refusal. Told (g.M.Patterns.refusals c.args.patterns.now) (g.M.Patterns.refusals c.package_needs.new.patterns) (g.M.Patterns.refused c.package_needs.new.patterns) (λ large. Refuses large k (Some refusal)))))
    (case_of_other now c.args.state.now (plain c.args.command.now) r.0 r.1) (c.package_needs.ensures.fault c.args.state.now r.0 r.1)

pub returns-in_default-clause-fault : goal.returns-in_default-clause-fault
returns-in_default-clause-fault g c = λ now v.
    let none = case_of_rest now c.args.state.now (plain c.args.command.now) (λ e. c.in_default.not-Repo (c.family_of.ensures ∙ e)) (λ e. c.in_default.not-Snapshot (c.family_of.ensures ∙ e)) (λ e. c.in_default.not-Mirror (c.family_of.ensures ∙ e)) (λ e. c.in_default.not-Other (c.family_of.ensures ∙ e)) in
    (None, tt, refuses_first None _ NotBuilt (ap (λ (k : Case). k.early) none))
