use Rattle.std.proofs.Common.{List, ℕ, ℤ, Option, None, Some, inl, sym, ap, ◌∙◌, subst}
use Rattle.std.specs.Result.{IfOk, IfErr}
use Rattle.ap_host.specs.Disk.{Files}
use Rattle.command_words.specs.Plain.{plain}
use Rattle.machine_state.specs.declared.refusal.Refusal.TheVariants.{NotBuilt}
use Rattle.step_model.specs.Answers.{came, ComesTo, FaultIs, IsRefusedFor, Told}
use Rattle.step_model.specs.Case.{Case}
use Rattle.step_model.specs.Refuses.{reading}
use Rattle.step_model.proofs.RefusalLemmas.{refuses_first}
use Rattle.repo_packages.specs.PackageCases as repos
use Rattle.mirror_ops.specs.Cases as mirrors
use Rattle.machine_step.specs.Step.{NoArchive, case_of, giving, read_for}
use Rattle.machine_step.proofs.FamilyLemmas.{is_repo, is_snapshot, is_mirror, is_other, case_of_repo, case_of_snapshot, case_of_mirror, case_of_other, case_of_rest, arrives_mirror, arrives_repo, repo_reads_no_archive}
use Rattle.step_model.proofs.FaultLemmas.{ok_told}
use Rattle.machine_step.proofs.steps.change_of.Goals as goal

pub returns-in-Repo-clause-ok : goal.returns-in-Repo-clause-ok
returns-in-Repo-clause-ok g c = λ now inbox large v may.
    let s = c.args.state.now in
    let r = is_repo (plain c.args.command.now) (sym c.family_of.ensures ∙ c.in-Repo.is) in
    let is = case_of_repo now s (plain c.args.command.now) r.0 r.1 in
    let own = subst (λ (k : Case). repos.MayArrive inbox s (reading k) c.args.arrived.now) (sym is) (arrives_repo (giving inbox now) large s (read_for now s (plain c.args.command.now)) c.args.arrived.now (subst (λ (k : Case). NoArchive (reading k)) is (repo_reads_no_archive s r.0)) may) in
    subst (λ (k : Case). IfOk c.change.result (λ change. Told (g.M.Patterns.refusals c.args.patterns.now) (g.M.Patterns.refusals c.change.new.patterns) (g.M.Patterns.refused c.change.new.patterns) (λ large. ComesTo large k c.args.arrived.now (came s change)))) is (c.change.ensures.ok r.0 inbox r.1 v own)

pub returns-in-Repo-clause-fault : goal.returns-in-Repo-clause-fault
returns-in-Repo-clause-fault g c = λ now inbox large v may.
    let s = c.args.state.now in
    let r = is_repo (plain c.args.command.now) (sym c.family_of.ensures ∙ c.in-Repo.is) in
    let is = case_of_repo now s (plain c.args.command.now) r.0 r.1 in
    let own = subst (λ (k : Case). repos.MayArrive inbox s (reading k) c.args.arrived.now) (sym is) (arrives_repo (giving inbox now) large s (read_for now s (plain c.args.command.now)) c.args.arrived.now (subst (λ (k : Case). NoArchive (reading k)) is (repo_reads_no_archive s r.0)) may) in
    subst (λ (k : Case). IfErr c.change.result (FaultIs (λ refusal. Told (g.M.Patterns.refusals c.args.patterns.now) (g.M.Patterns.refusals c.change.new.patterns) (g.M.Patterns.refused c.change.new.patterns) (λ large. IsRefusedFor large k c.args.arrived.now refusal)))) is (c.change.ensures.fault r.0 inbox r.1 v own)

pub returns-in-Repo-clause-new : goal.returns-in-Repo-clause-new
returns-in-Repo-clause-new g c = λ now inbox large v may.
    let s = c.args.state.now in
    let r = is_repo (plain c.args.command.now) (sym c.family_of.ensures ∙ c.in-Repo.is) in
    let is = case_of_repo now s (plain c.args.command.now) r.0 r.1 in
    c.change.ensures.new r.0 inbox r.1 v (subst (λ (k : Case). repos.MayArrive inbox s (reading k) c.args.arrived.now) (sym is) (arrives_repo (giving inbox now) large s (read_for now s (plain c.args.command.now)) c.args.arrived.now (subst (λ (k : Case). NoArchive (reading k)) is (repo_reads_no_archive s r.0)) may))

pub returns-in-Snapshot-clause-ok : goal.returns-in-Snapshot-clause-ok
returns-in-Snapshot-clause-ok g c = λ now inbox large v may.
    let s = c.args.state.now in
    let r = is_snapshot (plain c.args.command.now) (sym c.family_of.ensures ∙ c.in-Snapshot.is) in
    ok_told _ _ _ s _ c.args.arrived.now c.change-in-Snapshot.result
    (subst (λ (k : Case). IfOk c.change-in-Snapshot.result (λ change. ComesTo None k c.args.arrived.now (came s change))) (case_of_snapshot now s (plain c.args.command.now) r.0 r.1) (c.change-in-Snapshot.ensures.ok r.0 r.1 c.args.arrived.now v))

pub returns-in-Snapshot-clause-fault : goal.returns-in-Snapshot-clause-fault
returns-in-Snapshot-clause-fault g c = λ now inbox large v may.
    let s = c.args.state.now in
    let r = is_snapshot (plain c.args.command.now) (sym c.family_of.ensures ∙ c.in-Snapshot.is) in
    subst (λ (k : Case). IfErr c.change-in-Snapshot.result (FaultIs (λ refusal. Told (g.M.Patterns.refusals c.args.patterns.now) (g.M.Patterns.refusals c.change-in-Snapshot.new.patterns) (g.M.Patterns.refused c.change-in-Snapshot.new.patterns) (λ large. IsRefusedFor large k c.args.arrived.now refusal))))
    (case_of_snapshot now s (plain c.args.command.now) r.0 r.1) (c.change-in-Snapshot.ensures.fault r.0 r.1 c.args.arrived.now v)

pub returns-in-Mirror-clause-ok : goal.returns-in-Mirror-clause-ok
returns-in-Mirror-clause-ok g c = λ now inbox large v may.
    let s = c.args.state.now in
    let r = is_mirror (plain c.args.command.now) (sym c.family_of.ensures ∙ c.in-Mirror.is) in
    let is = case_of_mirror now s (plain c.args.command.now) r.0 r.1 in
    let own = subst (λ (k : Case). mirrors.MayArrive inbox s (reading k) c.args.arrived.now) (sym is) (arrives_mirror (giving inbox now) large s (read_for now s (plain c.args.command.now)) c.args.arrived.now may) in
    ok_told _ _ _ s _ c.args.arrived.now c.change-in-Mirror.result
    (subst (λ (k : Case). IfOk c.change-in-Mirror.result (λ change. ComesTo None k c.args.arrived.now (came s change))) is (c.change-in-Mirror.ensures.ok r.0 inbox r.1 v own))

pub returns-in-Mirror-clause-fault : goal.returns-in-Mirror-clause-fault
returns-in-Mirror-clause-fault g c = λ now inbox large v may.
    let s = c.args.state.now in
    let r = is_mirror (plain c.args.command.now) (sym c.family_of.ensures ∙ c.in-Mirror.is) in
    let is = case_of_mirror now s (plain c.args.command.now) r.0 r.1 in
    let own = subst (λ (k : Case). mirrors.MayArrive inbox s (reading k) c.args.arrived.now) (sym is) (arrives_mirror (giving inbox now) large s (read_for now s (plain c.args.command.now)) c.args.arrived.now may) in
    subst (λ (k : Case). IfErr c.change-in-Mirror.result (FaultIs (λ refusal. Told (g.M.Patterns.refusals c.args.patterns.now) (g.M.Patterns.refusals c.change-in-Mirror.new.patterns) (g.M.Patterns.refused c.change-in-Mirror.new.patterns) (λ large. IsRefusedFor large k c.args.arrived.now refusal)))) is (c.change-in-Mirror.ensures.fault r.0 inbox r.1 v own)

pub returns-in-Other-clause-ok : goal.returns-in-Other-clause-ok
returns-in-Other-clause-ok g c = λ now inbox large v may.
    let s = c.args.state.now in
    let r = is_other (plain c.args.command.now) (sym c.family_of.ensures ∙ c.in-Other.is) in
    ok_told _ _ _ s _ c.args.arrived.now c.package_change.result
    (subst (λ (k : Case). IfOk c.package_change.result (λ change. ComesTo None k c.args.arrived.now (came s change))) (case_of_other now s (plain c.args.command.now) r.0 r.1) (c.package_change.ensures.ok r.0 c.args.arrived.now r.1))

pub returns-in-Other-clause-fault : goal.returns-in-Other-clause-fault
returns-in-Other-clause-fault g c = λ now inbox large v may.
    let s = c.args.state.now in
    let r = is_other (plain c.args.command.now) (sym c.family_of.ensures ∙ c.in-Other.is) in
    subst (λ (k : Case). IfErr c.package_change.result (FaultIs (λ refusal. Told (g.M.Patterns.refusals c.args.patterns.now) (g.M.Patterns.refusals c.package_change.new.patterns) (g.M.Patterns.refused c.package_change.new.patterns) (λ large. IsRefusedFor large k c.args.arrived.now refusal))))
    (case_of_other now s (plain c.args.command.now) r.0 r.1) (c.package_change.ensures.fault r.0 c.args.arrived.now r.1)

pub returns-in_default-clause-fault : goal.returns-in_default-clause-fault
returns-in_default-clause-fault g c = λ now inbox large v may.
    let none = case_of_rest now c.args.state.now (plain c.args.command.now) (λ e. c.in_default.not-Repo (c.family_of.ensures ∙ e)) (λ e. c.in_default.not-Snapshot (c.family_of.ensures ∙ e)) (λ e. c.in_default.not-Mirror (c.family_of.ensures ∙ e)) (λ e. c.in_default.not-Other (c.family_of.ensures ∙ e)) in
    (None, tt, inl (refuses_first None _ NotBuilt (ap (λ (k : Case). k.early) none)))
