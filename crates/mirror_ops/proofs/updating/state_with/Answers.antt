use Rattle.std.proofs.Common.{◌∙◌, ap, sym, Some}
use Rattle.std.specs.Option.{option_map}
use Rattle.package_list.specs.Lists.{union}
use Rattle.machine_state.specs.State.{mirror_of}
use Rattle.machine_state.specs.Values.{MirrorView, StateView}
use Rattle.mirror_update.specs.Fits.{with_fetched}
use Rattle.mirror_ops.specs.Updates.{fetched_of}
use Rattle.mirror_ops.proofs.UpdateLemmas.{updated_is}
use Rattle.mirror_ops.proofs.updating.state_with.Goals as goal

pub returns-clause-same : goal.returns-clause-same
returns-clause-same c = λ v found.
    let state = c.args.state.now in
    let mirror = c.args.mirror.now in
    let fetched = fetched_of c.args.list.now c.args.date.now in
    let made = c.in_ok-fetched.ensures in
    let known = c.in_ok-known.ensures.same ∙ ap (λ (s : StateView). union s.known c.args.list.now) c.state.view_is in
    let changes = ap (λ (m : MirrorView). option_map (with_fetched fetched) (mirror_of m.name state.mirrors)) made ∙ ap (option_map (with_fetched fetched)) found ∙ ap Some (sym made) in
    let new = c.in_ok-made.ensures fetched v changes in
    ap (λ (s : StateView). record s { known = c.in_ok-known.known }) c.made.view_is
    ∙ updated_is state c.in_ok-made.made mirror c.in_ok-fetched.fetched fetched c.in_ok-known.known made new known
