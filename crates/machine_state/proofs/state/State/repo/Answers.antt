use Rattle.std.proofs.Common.{◌≡◌, ◌∙◌, List, ap, subst}
use Rattle.std.specs.Option.{option_copied}
use Rattle.machine_state.specs.declared.repo.Repo.{Repo}
use Rattle.machine_state.specs.Ascending.{IsAscending}
use Rattle.machine_state.specs.State.{repo_cmp, repo_of}
use Rattle.machine_state.specs.Values.{StateView}
use Rattle.machine_state.proofs.state.State.repo.Goals as goal

pub returns : goal.returns
returns c = subst (λ (xs : List Repo). IsAscending repo_cmp xs → option_copied c.find_named.result ≡ repo_of c.args.name.now xs) (c.deref.ensures.value ∙ ap (λ (s : StateView). s.repos) c.self.view_is) c.find_named.ensures
