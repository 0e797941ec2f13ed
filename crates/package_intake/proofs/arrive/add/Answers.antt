use Rattle.std.proofs.Common.{◌≡◌, Ok, refl, sym, ap, ◌∙◌, subst, subst₂}
use Rattle.std.specs.Option.{option_copied}
use Rattle.std.proofs.lemmas.Result.{err_from_is_err_and}
use Rattle.ap_host.specs.Changes.{GoesOn}
use Rattle.ap_host.proofs.ChangeLemmas.{GoesOn-map, GoesOn-none}
use Rattle.machine_state.specs.State.{IsCatalogue}
use Rattle.machine_state.specs.Values.{StateView}
use Rattle.package_intake.specs.Index.{cards_of}
use Rattle.package_intake.specs.Arrival.{entries_arrive, list_in, list_of}
use Rattle.package_intake.specs.Additions.{AddsAll}
use Rattle.package_intake.specs.Steps.{FaultGives}
use Rattle.package_intake.specs.Fits.{FitsIn, Fitting}
use Rattle.package_intake.proofs.AddLemmas.{listed_arrives, listed_fault, unlisted_fault, fault_comes, list_comes, fitting_fits, adds_list, adds_fails, adds_nothing, early_folder, files_folder, of_input}
use Rattle.package_intake.proofs.FaultLemmas.{handed_on}
use Rattle.package_intake.specs.Answers.{FaultOfFolder}
use Rattle.package_intake.proofs.arrive.add.Goals as goal

pub returns-in_err-date-clause-log : goal.returns-in_err-date-clause-log
returns-in_err-date-clause-log g c = GoesOn-none _ _ _ refl (λ l. adds_nothing _ _ _ c.from_residual.result _ l c.from_residual.ensures.0)

pub returns-in_err-entries-clause-log : goal.returns-in_err-entries-clause-log
returns-in_err-entries-clause-log g c = GoesOn-none _ _ _ refl (λ l. adds_nothing _ _ _ c.from_residual-in_err-entries.result _ l c.from_residual-in_err-entries.ensures.0)

pub returns-in_err-entries-clause-told : goal.returns-in_err-entries-clause-told
returns-in_err-entries-clause-told g c valid small =
    let e = err_from_is_err_and c.from_residual-in_err-entries.result c.from_residual-in_err-entries.ensures.1 in
    fault_comes (g.I.Inbox.map c.args.inbox.now) c.args.state.now c.args.repo.now c.args.folder.now c.from_residual-in_err-entries.result e.0 c.in_err-entries.field-0.0 e.1 e.2 (of_input c.in_err-entries.field-0.0 c.in_err-entries.ensures.fault)
    (λ f told. unlisted_fault f c.args.state.now.known (list_of c.args.state.now c.args.repo.now) c.args.folder.now c.in_err-entries.field-0.0 (c.in_err-entries.ensures.told small f told))

pub returns-in_err-list-clause-log : goal.returns-in_err-list-clause-log
returns-in_err-list-clause-log g c =
    let known : c.state.inside.known ≡ c.args.state.now.known = ap (λ (s : StateView). s.known) c.state.view_is in
    let log = subst₂ (λ m k. GoesOn (g.H.Host.log c.args.host.now) (g.H.Host.log c.take_entries.new.host) (AddsAll m (cards_of c.in_ok-entries.entries.items) k c.take_entries.result c.args.stage.now c.take_entries.new.stage)) c.in_ok-entries.ensures.map known c.take_entries.ensures.log in
    GoesOn-map _ _ _ _ log (λ l a h. adds_fails _ c.args.folder.now c.in_ok-entries.entries.items c.in_ok-entries.ensures.packages c.in_ok-entries.ensures.told _ c.take_entries.result c.from_residual-in_err-list.result _ _ l a c.from_residual-in_err-list.ensures.0 h)

pub returns-in_err-list-clause-told : goal.returns-in_err-list-clause-told
returns-in_err-list-clause-told g c valid small =
    let e = err_from_is_err_and c.from_residual-in_err-list.result c.from_residual-in_err-list.ensures.1 in
    let state : StateView = c.args.state.now in
    let name = c.args.repo.now in
    let folder = c.args.folder.now in
    let entries = c.in_ok-entries.entries.items in
    let fault = c.in_err-list.field-0.0 in
    let own : list_in (option_copied c.repo-own.result) ≡ list_of state name = ap list_in (c.repo-own.ensures valid.repos.sorted) in
    let known : c.state.inside.known ≡ state.known = ap (λ (s : StateView). s.known) c.state.view_is in
    let catalogue : IsCatalogue c.state.inside.known = subst IsCatalogue (sym known) valid.known in
    fault_comes (g.I.Inbox.map c.args.inbox.now) state name folder c.from_residual-in_err-list.result e.0 fault e.1 e.2 c.in_err-list.ensures.fault
    (λ f told. listed_fault f state.known (list_of state name) folder entries fault (c.in_ok-entries.ensures.told small f told)
    (subst₂ (λ k o. FaultGives fault (entries_arrive f k o folder entries)) known own (c.in_err-list.ensures.told catalogue small c.in_ok-entries.ensures.short f (c.in_ok-entries.ensures.map ∙ told))))

pub returns-clause-fits : goal.returns-clause-fits
returns-clause-fits g c valid =
    let state : StateView = c.args.state.now in
    let own : list_in (option_copied c.repo-own.result) ≡ list_of state c.args.repo.now = ap list_in (c.repo-own.ensures valid.repos.sorted) in
    let known : c.state.inside.known ≡ state.known = ap (λ (s : StateView). s.known) c.state.view_is in
    let catalogue : IsCatalogue c.state.inside.known = subst IsCatalogue (sym known) valid.known in
    fitting_fits state c.args.repo.now (list_in (option_copied c.repo-own.result)) c.in_ok-list.list valid own
    (subst (λ k. Fitting k (list_in (option_copied c.repo-own.result)) c.in_ok-list.list) known (c.in_ok-list.ensures.fits catalogue c.in_ok-entries.ensures.packages))

pub returns-clause-told : goal.returns-clause-told
returns-clause-told g c valid small =
    let state : StateView = c.args.state.now in
    let name = c.args.repo.now in
    let folder = c.args.folder.now in
    let entries = c.in_ok-entries.entries.items in
    let own : list_in (option_copied c.repo-own.result) ≡ list_of state name = ap list_in (c.repo-own.ensures valid.repos.sorted) in
    let known : c.state.inside.known ≡ state.known = ap (λ (s : StateView). s.known) c.state.view_is in
    let catalogue : IsCatalogue c.state.inside.known = subst IsCatalogue (sym known) valid.known in
    let fits : FitsIn state name c.in_ok-list.list = fitting_fits state name (list_in (option_copied c.repo-own.result)) c.in_ok-list.list valid own
    (subst (λ k. Fitting k (list_in (option_copied c.repo-own.result)) c.in_ok-list.list) known (c.in_ok-list.ensures.fits catalogue c.in_ok-entries.ensures.packages)) in
    list_comes (g.I.Inbox.map c.args.inbox.now) state name folder c.in_ok-list.list c.in_ok-date.date c.in_ok-date.ensures.same fits
    (λ f told. listed_arrives f state.known (list_of state name) folder entries (Ok c.in_ok-list.list) (c.in_ok-entries.ensures.told small f told)
    (subst₂ (λ k o. entries_arrive f k o folder entries ≡ Ok c.in_ok-list.list) known own (c.in_ok-list.ensures.told catalogue small c.in_ok-entries.ensures.short f (c.in_ok-entries.ensures.map ∙ told))))

pub returns-clause-log : goal.returns-clause-log
returns-clause-log g c =
    let known : c.state.inside.known ≡ c.args.state.now.known = ap (λ (s : StateView). s.known) c.state.view_is in
    let log = subst₂ (λ m k. GoesOn (g.H.Host.log c.args.host.now) (g.H.Host.log c.take_entries.new.host) (AddsAll m (cards_of c.in_ok-entries.entries.items) k (Ok c.in_ok-list.list) c.args.stage.now c.take_entries.new.stage)) c.in_ok-entries.ensures.map known c.in_ok-list.ensures.log in
    GoesOn-map _ _ _ _ log (λ l a h. adds_list _ c.args.folder.now c.in_ok-entries.entries.items c.in_ok-entries.ensures.packages c.in_ok-entries.ensures.told _ c.in_ok-list.list c.in_ok-date.date _ _ l a h)

pub returns-in_err-entries-clause-mismatch : goal.returns-in_err-entries-clause-mismatch
returns-in_err-entries-clause-mismatch g c =
    let e = err_from_is_err_and c.from_residual-in_err-entries.result c.from_residual-in_err-entries.ensures.1 in
    handed_on c.from_residual-in_err-entries.result (FaultOfFolder (g.I.Inbox.map c.args.inbox.now) c.args.folder.now) e.0 c.in_err-entries.field-0.0 e.1 e.2
    (early_folder (g.I.Inbox.map c.args.inbox.now) c.args.folder.now c.in_err-entries.field-0.0 c.in_err-entries.ensures.early)

pub returns-in_err-list-clause-mismatch : goal.returns-in_err-list-clause-mismatch
returns-in_err-list-clause-mismatch g c =
    let e = err_from_is_err_and c.from_residual-in_err-list.result c.from_residual-in_err-list.ensures.1 in
    handed_on c.from_residual-in_err-list.result (FaultOfFolder (g.I.Inbox.map c.args.inbox.now) c.args.folder.now) e.0 c.in_err-list.field-0.0 e.1 e.2
    (files_folder (g.I.Inbox.map c.args.inbox.now) c.args.folder.now c.in_ok-entries.entries.items c.in_err-list.field-0.0 c.in_ok-entries.ensures.packages c.in_ok-entries.ensures.told c.in_err-list.ensures.mismatch)
