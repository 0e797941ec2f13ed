use Rattle.std.proofs.Common.{◌≡◌, ◌≤◌, ℕ, List, [], map, length, unwrap_or, refl, sym, ap, ◌∙◌, subst, subst₂}
use Rattle.std.specs.Rc.{rc_value}
use Rattle.std.proofs.lemmas.Result.{err_from_is_err_and}
use Rattle.ap_host.specs.Disk.{Path}
use Rattle.ap_host.proofs.ChangeLemmas.{GoesOn-none}
use Rattle.package_core.specs.Card.{Card}
use Rattle.package_list.specs.Lists.{joined}
use Rattle.machine_state.specs.Values.{MirrorView}
use Rattle.package_intake.specs.Inside.{path_at}
use Rattle.package_intake.specs.Index.{cards_of, path_of}
use Rattle.package_intake.specs.Steps.{Gives}
use Rattle.package_intake.proofs.ArrivalLemmas.{told_err}
use Rattle.package_intake.proofs.LogLemmas.{all_nothing}
use Rattle.mirror_update.specs.Answers.{chosen_in}
use Rattle.mirror_update.specs.Arrival.{entries_arrive, files_arrive}
use Rattle.mirror_update.specs.Filter.{chosen_by}
use Rattle.mirror_update.proofs.TakeLemmas.{both_ok, chosen_good, chosen_knowable, chosen_paths, chosen_short, chosen_up, join_fault, list_gives}
use Rattle.mirror_update.proofs.arrive.take_chosen.Goals as goal

pub returns-in_err-chosen-clause-told : goal.returns-in_err-chosen-clause-told
returns-in_err-chosen-clause-told g c catalogue small short f told =
    let e = err_from_is_err_and c.from_residual.result c.from_residual.ensures.1 in
    let known = c.args.known.now in
    let mirror = c.args.mirror.now in
    let release = c.args.release.now in
    let entries = c.args.entries.items in
    told_err c.from_residual.result e.0 c.in_err-chosen.field-0.0 (entries_arrive f known mirror release entries) e.1 e.2
    (join_fault f known mirror release entries c.in_err-chosen.field-0.0 c.in_err-chosen.ensures.bad)

pub returns-in_err-chosen-clause-log : goal.returns-in_err-chosen-clause-log
returns-in_err-chosen-clause-log g c = GoesOn-none _ _ _ refl (λ l. all_nothing _ _ _ c.from_residual.result _ l c.from_residual.ensures.0)

pub take_list-requires-clause-ascending : goal.take_list-requires-clause-ascending
take_list-requires-clause-ascending g c =
    let mirror : MirrorView = c.args.mirror.now in
    let entries = c.args.entries.items in
    let is : map rc_value c.deref.result.now ≡ chosen_in mirror c.args.release.now entries = ap (map rc_value) c.deref.ensures.value ∙ c.in_ok-chosen.ensures.chosen ∙ ap (λ (archs : List (List ℕ)). chosen_by mirror.filter mirror.with_deps archs (joined (cards_of entries))) c.archs_of-archs.ensures in
    chosen_up mirror c.args.release.now entries (map rc_value c.deref.result.now) is

pub take_list-requires-clause-paths : goal.take_list-requires-clause-paths
take_list-requires-clause-paths g c =
    let mirror : MirrorView = c.args.mirror.now in
    let entries = c.args.entries.items in
    let is : map rc_value c.deref.result.now ≡ chosen_in mirror c.args.release.now entries = ap (map rc_value) c.deref.ensures.value ∙ c.in_ok-chosen.ensures.chosen ∙ ap (λ (archs : List (List ℕ)). chosen_by mirror.filter mirror.with_deps archs (joined (cards_of entries))) c.archs_of-archs.ensures in
    chosen_paths mirror c.args.release.now entries (map rc_value c.deref.result.now) is c.in_ok-chosen.paths c.in_ok-chosen.ensures.paths

pub returns-clause-told : goal.returns-clause-told
returns-clause-told g c catalogue small short f told =
    let mirror : MirrorView = c.args.mirror.now in
    let release = c.args.release.now in
    let known = c.args.known.now in
    let entries = c.args.entries.items in
    let paths = c.in_ok-chosen.paths in
    let ps : List Card = map rc_value c.deref.result.now in
    let folder : Path = c.mirror.inside.archive in
    let is : ps ≡ chosen_in mirror release entries = ap (map rc_value) c.deref.ensures.value ∙ c.in_ok-chosen.ensures.chosen ∙ ap (λ (archs : List (List ℕ)). chosen_by mirror.filter mirror.with_deps archs (joined (cards_of entries))) c.archs_of-archs.ensures in
    let archive : folder ≡ mirror.archive = ap (λ (m : MirrorView). m.archive) c.mirror.view_is in
    let near : length folder ≤ 200 = subst (λ (p : Path). length p ≤ 200) (sym archive) small in
    let fits = chosen_short mirror release entries ps is paths folder c.in_ok-chosen.ensures.paths near short in
    let same : path_at paths ≡ path_of entries = λ i p. unwrap_or (c.in_ok-chosen.ensures.paths p i) [] in
    let given : Gives c.take_list.result (files_arrive f known mirror.archive (path_of entries) ps) = subst₂ (λ (at : Path) (path : Card → Path). Gives c.take_list.result (files_arrive f known at path ps)) archive same (c.take_list.ensures.told catalogue fits f told) in
    list_gives f known mirror release entries c.take_list.result (joined (cards_of entries)) c.in_ok-chosen.ensures.good
    (subst (λ (qs : List Card). Gives c.take_list.result (files_arrive f known mirror.archive (path_of entries) qs)) is given)

pub returns-clause-fits : goal.returns-clause-fits
returns-clause-fits g c =
    let mirror : MirrorView = c.args.mirror.now in
    let release = c.args.release.now in
    let known = c.args.known.now in
    let entries = c.args.entries.items in
    let ps : List Card = map rc_value c.deref.result.now in
    let is : ps ≡ chosen_in mirror release entries = ap (map rc_value) c.deref.ensures.value ∙ c.in_ok-chosen.ensures.chosen ∙ ap (λ (archs : List (List ℕ)). chosen_by mirror.filter mirror.with_deps archs (joined (cards_of entries))) c.archs_of-archs.ensures in
    both_ok c.take_list.result _ _ _
    (λ list taken checked catalogue packages. chosen_knowable mirror release entries ps is known list catalogue c.in_ok-chosen.ensures.good (taken catalogue (chosen_good mirror release entries ps is packages)) checked)
    c.take_list.ensures.taken c.take_list.ensures.checked
