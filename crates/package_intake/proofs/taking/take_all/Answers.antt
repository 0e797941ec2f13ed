use Rattle.std.proofs.Common.{◌≡◌, ◌≤◌, Some, List, All, length, subst}
use Rattle.ap_text.specs.Paths.{below_folder}
use Rattle.ap_host.specs.Disk.{Files}
use Rattle.package_core.specs.Card.{Card}
use Rattle.machine_state.specs.State.{IsCatalogue}
use Rattle.package_intake.specs.Taking.{each_taken, taken_file}
use Rattle.package_intake.specs.Steps.{Gives}
use Rattle.package_intake.specs.Inside.{path_at}
use Rattle.package_intake.proofs.taking.take_all.Goals as goal

pub returns-clause-told : goal.returns-clause-told
returns-clause-told g c =
    let known = c.args.known.now in
    let folder = c.args.folder.now in
    let paths = c.args.paths.now in
    subst (λ (ps : List Card). IsCatalogue known → All (λ p. length (below_folder folder (path_at paths p)) ≤ 1000) ps → (f : Files) → g.I.Inbox.map c.args.inbox.now ≡ Some f → Gives c.take_each.result (each_taken (λ p. taken_file f known (below_folder folder (path_at paths p)) p) ps)) c.as_slice.ensures c.take_each.ensures.told
