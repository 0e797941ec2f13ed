use Rattle.std.proofs.Common.{◌≡◌, ◌∙◌, List, ap, subst}
use Rattle.std.specs.Option.{option_copied}
use Rattle.machine_state.specs.Ascending.{IsAscending}
use Rattle.machine_state.specs.State.{mirror_cmp, mirror_of}
use Rattle.machine_state.specs.Values.{MirrorView, StateView}
use Rattle.machine_state.proofs.state.State.mirror.Goals as goal

pub returns : goal.returns
returns c = subst (λ (xs : List MirrorView). IsAscending mirror_cmp xs → option_copied c.find_named.result ≡ mirror_of c.args.name.now xs) (c.deref.ensures.value ∙ ap (λ (s : StateView). s.mirrors) c.self.view_is) c.find_named.ensures
