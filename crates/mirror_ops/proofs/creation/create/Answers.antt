use Rattle.std.proofs.Common.{◌∙◌, ℕ, List, ap, sym, None}
use Rattle.std.specs.Option.{option_map}
use Rattle.command_value.specs.Plain.{plain, of_mirror, mirror_create}
use Rattle.step_model.proofs.FaultLemmas.{ok_along, refused_along}
use Rattle.mirror_ops.specs.Cases.{mirror_case}
use Rattle.mirror_ops.proofs.CaseLemmas.{case_along, is_create}
use Rattle.mirror_ops.proofs.creation.create.Goals as goal

pub returns-in-MirrorCreate-clause-ok : goal.returns-in-MirrorCreate-clause-ok
unfolding mirror_case
returns-in-MirrorCreate-clause-ok g c = λ k arrived e is v.
    ok_along None c.args.state.now _ _ arrived c.create_with.result (case_along c.args.state.now c.args.command.now k _ e (ap plain c.in-MirrorCreate.is ∙ ap (λ (q : List (List ℕ)). of_mirror (mirror_create (option_map (λ v. v.items) c.in-MirrorCreate.architectures) c.in-MirrorCreate.filter c.in-MirrorCreate.filter_with_deps c.in-MirrorCreate.name c.in-MirrorCreate.archive c.in-MirrorCreate.distribution q)) (sym c.deref.ensures.value))) (c.create_with.ensures.ok arrived v)

pub returns-in-MirrorCreate-clause-fault : goal.returns-in-MirrorCreate-clause-fault
unfolding mirror_case
returns-in-MirrorCreate-clause-fault g c = λ k arrived e is v.
    refused_along _ _ _ _ _ arrived c.create_with.result (case_along c.args.state.now c.args.command.now k _ e (ap plain c.in-MirrorCreate.is ∙ ap (λ (q : List (List ℕ)). of_mirror (mirror_create (option_map (λ v. v.items) c.in-MirrorCreate.architectures) c.in-MirrorCreate.filter c.in-MirrorCreate.filter_with_deps c.in-MirrorCreate.name c.in-MirrorCreate.archive c.in-MirrorCreate.distribution q)) (sym c.deref.ensures.value))) (c.create_with.ensures.fault arrived v)

pub returns-in_default-clause-fault : goal.returns-in_default-clause-fault
returns-in_default-clause-fault g c = λ k arrived e is v. absurd (is_create c.args.command.now k e is c.in_default.not-MirrorCreate)
