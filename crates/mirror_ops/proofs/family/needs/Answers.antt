use Rattle.std.proofs.Common.{◌∙◌, ℕ, List, ap, subst, sym, None, Some}
use Rattle.std.specs.Option.{option_map}
use Rattle.command_value.specs.Plain.{plain, of_mirror, mirror_create, mirror_list}
use Rattle.machine_state.specs.declared.refusal.Refusal.TheVariants.{NotBuilt}
use Rattle.step_model.specs.declared.reading.Reading.TheVariants as readings
use Rattle.step_model.proofs.RefusalLemmas.{refuses_first}
use Rattle.step_model.proofs.FaultLemmas.{keeps_same, none_told, wanted_along, refuses_along, told_along}
use Rattle.step_model.specs.Answers.{IsWanted}
use Rattle.step_model.specs.Case.{Case}
use Rattle.step_model.specs.Refuses.{Refuses}
use Rattle.mirror_ops.specs.Cases.{mirror_case}
use Rattle.mirror_ops.proofs.CaseLemmas.{case_along, list_wanted, other_early}
use Rattle.mirror_ops.proofs.family.needs.Goals as goal

pub returns-in-MirrorCreate-clause-ok : goal.returns-in-MirrorCreate-clause-ok
unfolding mirror_case
returns-in-MirrorCreate-clause-ok g c = λ k e v. wanted_along None _ _ c.create_needs.result (case_along c.args.state.now c.args.command.now k _ e (ap plain c.in-MirrorCreate.is ∙ ap (λ (q : List (List ℕ)). of_mirror (mirror_create (option_map (λ v. v.items) c.in-MirrorCreate.architectures) c.in-MirrorCreate.filter c.in-MirrorCreate.filter_with_deps c.in-MirrorCreate.name c.in-MirrorCreate.archive c.in-MirrorCreate.distribution q)) (sym c.deref.ensures.value))) (c.create_needs.ensures.ok c.in-MirrorCreate.filter_with_deps v)

pub returns-in-MirrorCreate-clause-fault : goal.returns-in-MirrorCreate-clause-fault
unfolding mirror_case
returns-in-MirrorCreate-clause-fault g c = λ k e v. told_along _ _ _ _ _ c.create_needs.result (case_along c.args.state.now c.args.command.now k _ e (ap plain c.in-MirrorCreate.is ∙ ap (λ (q : List (List ℕ)). of_mirror (mirror_create (option_map (λ v. v.items) c.in-MirrorCreate.architectures) c.in-MirrorCreate.filter c.in-MirrorCreate.filter_with_deps c.in-MirrorCreate.name c.in-MirrorCreate.archive c.in-MirrorCreate.distribution q)) (sym c.deref.ensures.value))) (c.create_needs.ensures.fault c.in-MirrorCreate.filter_with_deps v)

pub returns-in-MirrorUpdate-clause-ok : goal.returns-in-MirrorUpdate-clause-ok
unfolding mirror_case
returns-in-MirrorUpdate-clause-ok g c = λ k e v. wanted_along None _ _ c.update_needs.result (case_along c.args.state.now c.args.command.now k _ e (ap plain c.in-MirrorUpdate.is)) (c.update_needs.ensures.ok v)

pub returns-in-MirrorUpdate-clause-fault : goal.returns-in-MirrorUpdate-clause-fault
unfolding mirror_case
returns-in-MirrorUpdate-clause-fault g c = λ k e v.
    none_told _ _ _ (λ large refusal. Refuses large (mirror_case c.args.state.now k) (Some refusal)) c.update_needs.result
    (refuses_along None _ _ c.update_needs.result (case_along c.args.state.now c.args.command.now k _ e (ap plain c.in-MirrorUpdate.is)) (c.update_needs.ensures.fault v))

pub returns-in-MirrorUpdate-clause-kept : goal.returns-in-MirrorUpdate-clause-kept
returns-in-MirrorUpdate-clause-kept g c = keeps_same _ c.update_needs.result

pub returns-in-MirrorShow-clause-ok : goal.returns-in-MirrorShow-clause-ok
unfolding mirror_case
returns-in-MirrorShow-clause-ok g c = λ k e v. wanted_along None _ _ c.show_needs.result (case_along c.args.state.now c.args.command.now k _ e (ap plain c.in-MirrorShow.is)) (c.show_needs.ensures.ok _ v)

pub returns-in-MirrorShow-clause-fault : goal.returns-in-MirrorShow-clause-fault
unfolding mirror_case
returns-in-MirrorShow-clause-fault g c = λ k e v.
    none_told _ _ _ (λ large refusal. Refuses large (mirror_case c.args.state.now k) (Some refusal)) c.show_needs.result
    (refuses_along None _ _ c.show_needs.result (case_along c.args.state.now c.args.command.now k _ e (ap plain c.in-MirrorShow.is)) (c.show_needs.ensures.fault _ v))

pub returns-in-MirrorShow-clause-kept : goal.returns-in-MirrorShow-clause-kept
returns-in-MirrorShow-clause-kept g c = keeps_same _ c.show_needs.result

pub returns-in-MirrorRename-clause-ok : goal.returns-in-MirrorRename-clause-ok
unfolding mirror_case
returns-in-MirrorRename-clause-ok g c = λ k e v. wanted_along None _ _ c.rename_needs.result (case_along c.args.state.now c.args.command.now k _ e (ap plain c.in-MirrorRename.is)) (c.rename_needs.ensures.ok v)

pub returns-in-MirrorRename-clause-fault : goal.returns-in-MirrorRename-clause-fault
unfolding mirror_case
returns-in-MirrorRename-clause-fault g c = λ k e v.
    none_told _ _ _ (λ large refusal. Refuses large (mirror_case c.args.state.now k) (Some refusal)) c.rename_needs.result
    (refuses_along None _ _ c.rename_needs.result (case_along c.args.state.now c.args.command.now k _ e (ap plain c.in-MirrorRename.is)) (c.rename_needs.ensures.fault v))

pub returns-in-MirrorRename-clause-kept : goal.returns-in-MirrorRename-clause-kept
returns-in-MirrorRename-clause-kept g c = keeps_same _ c.rename_needs.result

pub returns-in-MirrorDrop-clause-ok : goal.returns-in-MirrorDrop-clause-ok
unfolding mirror_case
returns-in-MirrorDrop-clause-ok g c = λ k e v. wanted_along None _ _ c.drop_needs.result (case_along c.args.state.now c.args.command.now k _ e (ap plain c.in-MirrorDrop.is)) (c.drop_needs.ensures.ok v)

pub returns-in-MirrorDrop-clause-fault : goal.returns-in-MirrorDrop-clause-fault
unfolding mirror_case
returns-in-MirrorDrop-clause-fault g c = λ k e v.
    none_told _ _ _ (λ large refusal. Refuses large (mirror_case c.args.state.now k) (Some refusal)) c.drop_needs.result
    (refuses_along None _ _ c.drop_needs.result (case_along c.args.state.now c.args.command.now k _ e (ap plain c.in-MirrorDrop.is)) (c.drop_needs.ensures.fault v))

pub returns-in-MirrorDrop-clause-kept : goal.returns-in-MirrorDrop-clause-kept
returns-in-MirrorDrop-clause-kept g c = keeps_same _ c.drop_needs.result

pub returns-in-MirrorList-clause-ok : goal.returns-in-MirrorList-clause-ok
returns-in-MirrorList-clause-ok g c = λ k e v. subst (λ (q : Case). IsWanted None q readings.Nothing) (sym (case_along c.args.state.now c.args.command.now k mirror_list e (ap plain c.in-MirrorList.is))) (list_wanted c.args.state.now)

pub returns-in_default-clause-fault : goal.returns-in_default-clause-fault
returns-in_default-clause-fault g c = λ k e v.
    let d = c.in_default in
    (None, tt, refuses_first None _ NotBuilt (other_early c.args.command.now d.not-MirrorCreate d.not-MirrorUpdate d.not-MirrorList d.not-MirrorShow d.not-MirrorRename d.not-MirrorDrop c.args.state.now k e))
