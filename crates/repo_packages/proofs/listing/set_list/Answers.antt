use Rattle.std.proofs.Common.{◌∙◌, List, arith, ap, get_or, set, subst, sym}
use Rattle.machine_state.specs.Ascending.{IsAscending}
use Rattle.machine_state.specs.State.{repo_cmp}
use Rattle.machine_state.specs.declared.repo.Repo.{Repo}
use Rattle.machine_state.proofs.RepoLemmas.{nowhere, rises_by_name}
use Rattle.repo_packages.specs.PackageCases.{changed_in, with_list}
use Rattle.repo_packages.proofs.ListingLemmas.{changed_at, changed_none}
use Rattle.repo_packages.proofs.listing.set_list.Goals as goal

pub returns-in-Ok : goal.returns-in-Ok
returns-in-Ok c = λ a.
    let same = c.deref.ensures.value in
    let repos = c.deref.result.now in
    let name = c.args.name.now in
    let place = c.in-Ok.place in
    let d = c.index_mut-repo.result.now in
    let at = changed_at name (with_list c.args.list) repos place d (subst (IsAscending repo_cmp) (sym same) a) c.in-Ok.ensures.bound (c.in-Ok.ensures.found d) in
    ap (λ (l : List Repo). set l place (with_list c.args.list d)) (sym same) ∙ ap (λ (r : Repo). set repos place (with_list c.args.list r)) (c.index_mut-repo.ensures.value ∙ ap (λ (l : List Repo). get_or l place d) (sym same))
    ∙ sym at ∙ ap (λ (l : List Repo). changed_in name (with_list c.args.list) l) same

pub returns-in_default : goal.returns-in_default
returns-in_default c = λ a.
    let same = c.deref.ensures.value in
    let repos = c.deref.result.now in
    let name = c.args.name.now in
    let parts = c.in_default.ensures.found (rises_by_name repos name (subst (IsAscending repo_cmp) (sym same) a)) in
    let none = nowhere repos c.in_default.field-0 name (λ k d lt. parts.0 k d (omega (arith, lt, c.in_default.ensures.bound)) lt) parts.1 in
    sym same ∙ sym (changed_none name (with_list c.args.list) repos none) ∙ ap (λ (l : List Repo). changed_in name (with_list c.args.list) l) same
