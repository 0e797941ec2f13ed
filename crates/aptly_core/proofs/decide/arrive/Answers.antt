use Rattle.std.proofs.Common.{refl, sym, subst, ◌∙◌}
use Rattle.ap_host.proofs.ChangeLemmas.{GoesOn-map, GoesOn-none}
use Rattle.machine_state.specs.declared.arrived.Arrived.TheVariants as arrivals
use Rattle.step_model.specs.declared.reading.Reading.{Reading}
use Rattle.step_model.specs.Refuses.{IsReadable}
use Rattle.machine_step.specs.Step.{MayArrive, giving}
use Rattle.aptly_core.proofs.DecideLemmas.{arrives_nothing, arrives_added, arrived_may, folder_may}
use Rattle.aptly_core.proofs.decide.arrive.Goals as goal

pub returns-in-Nothing-clause-arrived : goal.returns-in-Nothing-clause-arrived
returns-in-Nothing-clause-arrived g c = λ now large valid is.
    subst (λ (x : Reading). MayArrive (giving (g.I.Inbox.map c.args.inbox.now) now) large c.args.state.now x arrivals.Nothing) (sym c.in-Nothing.is) refl

pub returns-in-Mirror-clause-arrived : goal.returns-in-Mirror-clause-arrived
returns-in-Mirror-clause-arrived g c = λ now large valid is. absurd (subst IsReadable c.in-Mirror.is is)

pub returns-clause-arrived : goal.returns-clause-arrived
returns-clause-arrived g c = λ now large valid is.
    folder_may (giving (g.I.Inbox.map c.args.inbox.now) now) large c.args.state.now c.args.reading _ _ c.arrived_of.result c.in-Folder.is is (arrived_may _ _ _ _ _ _ c.arrived_of.ensures (c.add.ensures.told valid))

pub returns-in-Nothing-clause-log : goal.returns-in-Nothing-clause-log
returns-in-Nothing-clause-log g c = GoesOn-none _ _ _ refl (λ l. arrives_nothing _ _ _ _ l)

pub returns-in-Mirror-clause-log : goal.returns-in-Mirror-clause-log
returns-in-Mirror-clause-log g c = GoesOn-none _ _ _ refl (λ l. arrives_nothing _ _ _ _ l)

pub returns-clause-log : goal.returns-clause-log
returns-clause-log g c = GoesOn-map _ _ _ _ c.add.ensures.log (λ l a w. arrives_added _ _ _ c.args.reading (λ e. let no = sym c.in-Folder.is ∙ e in absurd (cc)) _ _ _ _ c.arrived_of.ensures l a w)
