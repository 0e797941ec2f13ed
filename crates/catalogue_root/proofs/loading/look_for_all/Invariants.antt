use Rattle.std.proofs.Common.{◌≡◌, ◌≤◌, map}
use Rattle.std.specs.Option.{ForSome}
use Rattle.std.specs.Rc.{rc_value}
use Rattle.ap_host.specs.Disk.{live_of}
use Rattle.catalogue_root.proofs.LoadLemmas.{FilesTo}
use Rattle.catalogue_root.proofs.loading.look_for_all.Given as goal

abbrev pub invariant-loop-member : goal.invariant-loop-member
invariant-loop-member g l = record {
  later : g.H.Host.faults l.fn.host ≤ g.H.Host.faults l.host;
  log : g.H.Host.log l.host ≡ g.H.Host.log l.fn.host;
  told : ForSome (g.H.Host.log l.fn.host) (λ x. FilesTo (live_of x) (map rc_value l.packages) l.member-index);
}
