use Rattle.std.proofs.Common.{◌≡◌, ◌∙◌, List, ap, subst}
use Rattle.std.specs.Option.{option_copied}
use Rattle.machine_state.specs.declared.snapshot.Snapshot.{Snapshot}
use Rattle.machine_state.specs.Ascending.{IsAscending}
use Rattle.machine_state.specs.State.{snapshot_cmp, snapshot_of}
use Rattle.machine_state.specs.Values.{StateView}
use Rattle.machine_state.proofs.state.State.snapshot.Goals as goal

pub returns : goal.returns
returns c = subst (λ (xs : List Snapshot). IsAscending snapshot_cmp xs → option_copied c.find_named.result ≡ snapshot_of c.args.name.now xs) (c.deref.ensures.value ∙ ap (λ (s : StateView). s.snapshots) c.self.view_is) c.find_named.ensures
