use Rattle.std.proofs.Common.{sym}
use Rattle.ap_host.specs.Disk.{live_of}
use Rattle.catalogue_root.proofs.LoadLemmas.{other_size}
use Rattle.catalogue_root.proofs.loading.look_for.Goals as goal

pub returns-in-Some-2-clause-told : goal.returns-in-Some-2-clause-told
returns-in-Some-2-clause-told g c x is =
    other_size (live_of x) c.args.wanted.now c.in_ok-length.field-0 (c.in_ok-length.ensures.told x is) c.in_ok-path.path c.in-Some.found c.in_ok-path.ensures c.in-Some.is (λ e. c.if-found-said.false (sym e))
