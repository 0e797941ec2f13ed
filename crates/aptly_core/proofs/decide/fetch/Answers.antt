use Rattle.std.proofs.Common.{List, ℕ, refl, sym, ap, ◌∙◌}
use Rattle.ap_host.proofs.ChangeLemmas.{GoesOn-map, GoesOn-none}
use Rattle.machine_state.specs.State.{mirror_name, mirror_of}
use Rattle.machine_state.proofs.NamedLemmas.{named_has}
use Rattle.step_model.specs.declared.reading.Reading.TheVariants as readings
use Rattle.machine_step.specs.Step.{giving}
use Rattle.aptly_core.proofs.DecideLemmas.{archive_reads, arrives_added, arrives_refused, fetched_may}
use Rattle.aptly_core.proofs.decide.fetch.Goals as goal

pub returns-in-Some-clause-arrived : goal.returns-in-Some-clause-arrived
returns-in-Some-clause-arrived g c = λ now valid.
    let s = c.args.state.now in
    let mirror = c.in-Some.mirror.now in
    let found = sym (c.in-Some.ensures valid.mirrors.sorted) in
    fetched_may (g.M.Patterns.refusals c.args.patterns.now) (g.M.Patterns.refusals c.update.new.patterns) (g.M.Patterns.refused c.update.new.patterns) (giving (g.I.Inbox.map c.args.inbox.now) now) s c.args.name mirror c.update.result c.arrived_of.result c.arrived_of.ensures found
    (c.update.ensures.told valid (ap (λ (n : List ℕ). mirror_of n s.mirrors) (named_has mirror_name c.args.name s.mirrors mirror found) ∙ found))

pub returns-in-Some-clause-log : goal.returns-in-Some-clause-log
returns-in-Some-clause-log g c = GoesOn-map _ _ _ _ c.update.ensures.log (λ l a w. arrives_added _ _ _ (readings.Mirror c.args.name) (archive_reads c.args.name) _ _ _ _ c.arrived_of.ensures l a w)

pub returns-in-None-clause-log : goal.returns-in-None-clause-log
returns-in-None-clause-log g c = GoesOn-none _ _ _ refl (λ l. arrives_refused _ _ _ _ _ l)
