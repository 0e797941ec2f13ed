use Rattle.std.proofs.Common.{List, Ok, refl, ap, ◌∙◌, subst}
use Rattle.std.specs.List.{AllByRecursion}
use Rattle.std.proofs.lemmas.Result.{err_from_is_err_and}
use Rattle.ap_host.specs.Changes.{GoesOn}
use Rattle.ap_host.specs.Disk.{Path}
use Rattle.ap_host.proofs.ChangeLemmas.{GoesOn-map, GoesOn-none}
use Rattle.release_file.specs.Release.{ReleaseView}
use Rattle.package_intake.specs.Additions.{AddsAll, IsFileOf}
use Rattle.package_intake.specs.Index.{IndexEntry}
use Rattle.package_intake.proofs.AddLemmas.{named_fails, named_list, named_nothing}
use Rattle.package_intake.proofs.FaultLemmas.{handed_on}
use Rattle.mirror_update.specs.Answers.{AreOfArchive, IsArchive, IsArchiveFault, chosen_in}
use Rattle.mirror_update.specs.Arrival.{Arrives}
use Rattle.mirror_update.proofs.UpdateLemmas.{brings_err, release_archive, taken, unfetched, unread, untaken}
use Rattle.mirror_update.proofs.arrive.take_archive.Goals as goal

pub returns-in_err-release-clause-told : goal.returns-in_err-release-clause-told
returns-in_err-release-clause-told g c catalogue short f told =
    let e = err_from_is_err_and c.from_residual.result c.from_residual.ensures.1 in
    let fault = c.in_err-release.field-0.0 in
    brings_err (Arrives f c.args.known.now c.args.mirror.now) c.from_residual.result e.0 fault e.1 e.2
    (unfetched f c.args.known.now c.args.mirror.now fault (c.in_err-release.ensures.told short f told))

pub returns-in_err-release-clause-fault : goal.returns-in_err-release-clause-fault
returns-in_err-release-clause-fault g c =
    let e = err_from_is_err_and c.from_residual.result c.from_residual.ensures.1 in
    let fault = c.in_err-release.field-0.0 in
    handed_on c.from_residual.result IsArchiveFault e.0 fault e.1 e.2 (release_archive c.args.mirror.now fault c.in_err-release.ensures.fault)

pub returns-in_err-release-clause-log : goal.returns-in_err-release-clause-log
returns-in_err-release-clause-log g c =
    let map = g.I.Inbox.map c.args.inbox.now in
    GoesOn-none _ _ _ refl (λ l. named_nothing (AreOfArchive map c.args.mirror.now) map c.args.known.now c.from_residual.result c.args.stage.now l c.from_residual.ensures.0)

pub returns-in_err-date-clause-log : goal.returns-in_err-date-clause-log
returns-in_err-date-clause-log g c =
    let map = g.I.Inbox.map c.args.inbox.now in
    GoesOn-none _ _ _ refl (λ l. named_nothing (AreOfArchive map c.args.mirror.now) map c.args.known.now c.from_residual-in_err-date.result c.args.stage.now l c.from_residual-in_err-date.ensures.0)

pub returns-in_err-entries-clause-log : goal.returns-in_err-entries-clause-log
returns-in_err-entries-clause-log g c =
    let map = g.I.Inbox.map c.args.inbox.now in
    GoesOn-none _ _ _ refl (λ l. named_nothing (AreOfArchive map c.args.mirror.now) map c.args.known.now c.from_residual-in_err-entries.result c.args.stage.now l c.from_residual-in_err-entries.ensures.0)

pub returns-in_err-entries-clause-told : goal.returns-in_err-entries-clause-told
returns-in_err-entries-clause-told g c catalogue short f told =
    let e = err_from_is_err_and c.from_residual-in_err-entries.result c.from_residual-in_err-entries.ensures.1 in
    let known = c.args.known.now in
    let mirror = c.args.mirror.now in
    let fault = c.in_err-entries.field-0.0 in
    brings_err (Arrives f known mirror) c.from_residual-in_err-entries.result e.0 fault e.1 e.2
    (unread f known mirror c.in_ok-release.release fault (c.in_ok-release.ensures.told short f told) (c.in_err-entries.ensures.told short f (c.in_ok-release.ensures.map ∙ told)))

pub returns-in_err-list-clause-told : goal.returns-in_err-list-clause-told
returns-in_err-list-clause-told g c catalogue short f told =
    let e = err_from_is_err_and c.from_residual-in_err-list.result c.from_residual-in_err-list.ensures.1 in
    let known = c.args.known.now in
    let mirror = c.args.mirror.now in
    let fault = c.in_err-list.field-0.0 in
    let says = c.in_ok-entries.ensures.told short f (c.in_ok-release.ensures.map ∙ told) in
    brings_err (Arrives f known mirror) c.from_residual-in_err-list.result e.0 fault e.1 e.2
    (untaken f known mirror c.in_ok-release.release c.in_ok-entries.entries.items fault (c.in_ok-release.ensures.told short f told) says (c.in_err-list.ensures.told catalogue short.archive c.in_ok-entries.ensures.short f (c.in_ok-entries.ensures.map ∙ c.in_ok-release.ensures.map ∙ told)))

pub returns-in_err-list-clause-log : goal.returns-in_err-list-clause-log
returns-in_err-list-clause-log g c =
    let map = g.I.Inbox.map c.args.inbox.now in
    let known = c.args.known.now in
    let mirror = c.args.mirror.now in
    let release : ReleaseView = c.in_ok-release.release in
    let entries : List IndexEntry = c.in_ok-entries.entries.items in
    let archive : IsArchive map mirror release entries = record { said = c.in_ok-release.ensures.said; packages = c.in_ok-entries.ensures.packages; fetched = c.in_ok-release.ensures.told; indexes = λ short f told. c.in_ok-entries.ensures.told short f (c.in_ok-release.ensures.map ∙ told) } in
    let named : (paths : List Path) → AllByRecursion (IsFileOf (chosen_in mirror release entries)) paths → AreOfArchive map mirror paths = λ paths n. (release, entries, archive, n) in
    let log = subst (λ m. GoesOn (g.H.Host.log c.args.host.now) (g.H.Host.log c.take_chosen.new.host) (AddsAll m (chosen_in mirror release entries) known c.take_chosen.result c.args.stage.now c.take_chosen.new.stage)) (c.in_ok-entries.ensures.map ∙ c.in_ok-release.ensures.map) c.take_chosen.ensures.log in
    GoesOn-map _ _ _ _ log (λ l a h. named_fails (AreOfArchive map mirror) map (chosen_in mirror release entries) known named c.take_chosen.result c.from_residual-in_err-list.result _ _ l a c.from_residual-in_err-list.ensures.0 h)

pub returns-clause-told : goal.returns-clause-told
returns-clause-told g c catalogue short f told =
    let says = c.in_ok-entries.ensures.told short f (c.in_ok-release.ensures.map ∙ told) in
    taken f c.args.known.now c.args.mirror.now c.in_ok-release.release c.in_ok-entries.entries.items c.in_ok-list.list c.in_ok-date.date (c.in_ok-release.ensures.told short f told) says
    (c.in_ok-list.ensures.told catalogue short.archive c.in_ok-entries.ensures.short f (c.in_ok-entries.ensures.map ∙ c.in_ok-release.ensures.map ∙ told))
    (c.in_ok-date.ensures.same ∙ c.as_str.ensures ∙ ap (λ (r : ReleaseView). r.date) c.release.view_is)

pub returns-clause-log : goal.returns-clause-log
returns-clause-log g c =
    let map = g.I.Inbox.map c.args.inbox.now in
    let known = c.args.known.now in
    let mirror = c.args.mirror.now in
    let release : ReleaseView = c.in_ok-release.release in
    let entries : List IndexEntry = c.in_ok-entries.entries.items in
    let archive : IsArchive map mirror release entries = record { said = c.in_ok-release.ensures.said; packages = c.in_ok-entries.ensures.packages; fetched = c.in_ok-release.ensures.told; indexes = λ short f told. c.in_ok-entries.ensures.told short f (c.in_ok-release.ensures.map ∙ told) } in
    let named : (paths : List Path) → AllByRecursion (IsFileOf (chosen_in mirror release entries)) paths → AreOfArchive map mirror paths = λ paths n. (release, entries, archive, n) in
    let log = subst (λ m. GoesOn (g.H.Host.log c.args.host.now) (g.H.Host.log c.take_chosen.new.host) (AddsAll m (chosen_in mirror release entries) known (Ok c.in_ok-list.list) c.args.stage.now c.take_chosen.new.stage)) (c.in_ok-entries.ensures.map ∙ c.in_ok-release.ensures.map) c.in_ok-list.ensures.log in
    GoesOn-map _ _ _ _ log (λ l a h. named_list (AreOfArchive map mirror) map (chosen_in mirror release entries) known named c.in_ok-list.list c.in_ok-date.date _ _ l a h)
