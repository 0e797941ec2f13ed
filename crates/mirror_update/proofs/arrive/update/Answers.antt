use Rattle.std.proofs.Common.{◌≡◌, List, None, refl, sym, ap, subst}
use Rattle.std.proofs.lemmas.Result.{err_from_is_err_and}
use Rattle.ap_host.proofs.ChangeLemmas.{GoesOn-none}
use Rattle.package_core.specs.Card.{Card}
use Rattle.machine_state.specs.State.{IsCatalogue}
use Rattle.machine_state.specs.Values.{MirrorView, StateView}
use Rattle.package_intake.proofs.AddLemmas.{named_nothing}
use Rattle.mirror_update.specs.Answers.{AreOfArchive, Brings, IfFetched}
use Rattle.mirror_update.specs.Arrival.{Arrives}
use Rattle.mirror_update.specs.Fits.{FitsWith}
use Rattle.mirror_update.proofs.UpdateLemmas.{built_brings, fetched_fits, files_arrive, mirror_short, picked_brings}
use Rattle.mirror_update.proofs.arrive.update.Goals as goal

pub returns-in_err-queries-clause-told : goal.returns-in_err-queries-clause-told
returns-in_err-queries-clause-told g c valid is =
    let e = err_from_is_err_and c.from_residual.result c.from_residual.ensures.1 in
    let old = g.M.Patterns.refusals c.args.patterns.now in
    let new = g.M.Patterns.refusals c.prepared.new.patterns in
    let refused = g.M.Patterns.refused c.prepared.new.patterns in
    picked_brings (g.I.Inbox.map c.args.inbox.now) c.args.state.now c.args.mirror.now old new refused c.from_residual.result e.0 c.in_err-queries.field-0.0 e.1 e.2 c.in_err-queries.ensures.fault

pub returns-in_err-queries-clause-log : goal.returns-in_err-queries-clause-log
returns-in_err-queries-clause-log g c =
    let map = g.I.Inbox.map c.args.inbox.now in
    GoesOn-none _ _ _ refl (λ l. named_nothing (AreOfArchive map c.args.mirror.now) map c.args.state.now.known c.from_residual.result c.args.stage.now l c.from_residual.ensures.0)

pub returns-clause-fits : goal.returns-clause-fits
returns-clause-fits g c valid =
    let state : StateView = c.args.state.now in
    let mirror : MirrorView = c.args.mirror.now in
    let known : c.state.inside.known ≡ state.known = ap (λ (s : StateView). s.known) c.state.view_is in
    let catalogue : IsCatalogue c.state.inside.known = subst IsCatalogue (sym known) valid.known in
    fetched_fits state mirror.name c.take_archive.result valid (subst (λ (k : List Card). IfFetched c.take_archive.result (FitsWith k)) known (c.take_archive.ensures.fits catalogue))

pub returns-clause-told : goal.returns-clause-told
returns-clause-told g c valid is =
    let state : StateView = c.args.state.now in
    let mirror : MirrorView = c.args.mirror.now in
    let map = g.I.Inbox.map c.args.inbox.now in
    let known : c.state.inside.known ≡ state.known = ap (λ (s : StateView). s.known) c.state.view_is in
    let catalogue : IsCatalogue c.state.inside.known = subst IsCatalogue (sym known) valid.known in
    let short = mirror_short state mirror valid is in
    let fits = fetched_fits state mirror.name c.take_archive.result valid (subst (λ (k : List Card). IfFetched c.take_archive.result (FitsWith k)) known (c.take_archive.ensures.fits catalogue)) in
    let brings = files_arrive map state mirror c.take_archive.result (λ f told. subst (λ (k : List Card). Brings (Arrives f k mirror) c.take_archive.result) known (c.take_archive.ensures.told catalogue short f told)) fits c.take_archive.ensures.fault in
    (None, tt, built_brings map state mirror c.take_archive.result c.in_ok-queries.ensures.read brings)
