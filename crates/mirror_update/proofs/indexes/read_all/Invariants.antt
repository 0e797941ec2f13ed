use Rattle.std.proofs.Common.{◌≡◌, ◌≤◌, Some, All, take, length}
use Rattle.ap_text.specs.Paths.{below_folder}
use Rattle.ap_host.specs.Disk.{Files, Path}
use Rattle.index_text.specs.Index.{ArePackages}
use Rattle.package_intake.specs.Index.{AreShort}
use Rattle.mirror_update.specs.Indexes.{AreRead, IsIndexRead}
use Rattle.mirror_update.proofs.indexes.read_all.Given as goal

abbrev pub invariant-loop-name : goal.invariant-loop-name
invariant-loop-name g l = record {
  inbox_same : g.I.Inbox.map l.inbox ≡ g.I.Inbox.map l.fn.inbox;
  inbox_later : g.I.Inbox.faults l.fn.inbox ≤ g.I.Inbox.faults l.inbox;
  packages : ArePackages l.all.items;
  short : AreShort l.all.items;
  as_told : All (λ (name : Path). length (below_folder l.folder name) ≤ 1000) l.names → (f : Files) → g.I.Inbox.map l.fn.inbox ≡ Some f → AreRead (IsIndexRead f l.folder l.files) (take l.name-index l.names) l.all.items;
}
