use Rattle.std.proofs.Common.{◌≡◌, ◌≤◌, Some, Ok, map, take, All, length}
use Rattle.std.specs.Rc.{rc_value}
use Rattle.ap_text.specs.Paths.{below_folder}
use Rattle.ap_host.specs.Disk.{Files}
use Rattle.ap_host.specs.Changes.{GoesOn}
use Rattle.package_core.specs.Card.{Card, IsPackage}
use Rattle.package_core.specs.Whole.{IsSaid}
use Rattle.package_core.proofs.OrderLaws.{package_total}
use Rattle.machine_state.specs.State.{IsCatalogue}
use Rattle.package_intake.specs.Taking.{each_taken, taken_file}
use Rattle.package_intake.specs.Additions.{AddsAll}
use Rattle.package_intake.specs.Inside.{path_at}
use Rattle.package_intake.specs.Taking.{AreTakenIn}
use Rattle.package_intake.proofs.ListLemmas.{AreEqual}
use Rattle.package_intake.proofs.taking.take_each.Given as goal

abbrev pub invariant-loop-one : goal.invariant-loop-one
invariant-loop-one g l = record {
  log : GoesOn (g.H.Host.log l.fn.host) (g.H.Host.log l.host) (AddsAll (g.I.Inbox.map l.fn.inbox) (map rc_value l.list) l.known (Ok (map rc_value l.taken.items)) l.fn.stage l.stage);
  inbox_same : g.I.Inbox.map l.inbox ≡ g.I.Inbox.map l.fn.inbox;
  later : g.H.Host.faults l.fn.host ≤ g.H.Host.faults l.host;
  inbox_later : g.I.Inbox.faults l.fn.inbox ≤ g.I.Inbox.faults l.inbox;
  are_equal : AreEqual package_total (take l.one-index (map rc_value l.list)) (map rc_value l.taken.items);
  were_taken : IsCatalogue l.known → All (λ (p : Card). IsPackage p × IsSaid p.said) (map rc_value l.list) → AreTakenIn l.known (take l.one-index (map rc_value l.list)) (map rc_value l.taken.items);
  as_told : IsCatalogue l.known → All (λ (p : Card). length (below_folder l.folder (path_at l.paths p)) ≤ 1000) (map rc_value l.list) → (f : Files) → g.I.Inbox.map l.fn.inbox ≡ Some f → each_taken (λ p. taken_file f l.known (below_folder l.folder (path_at l.paths p)) p) (take l.one-index (map rc_value l.list)) ≡ Ok (map rc_value l.taken.items);
}
