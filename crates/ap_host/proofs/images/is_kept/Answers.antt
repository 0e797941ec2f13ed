use Rattle.std.proofs.Common.{◌≡◌, None, refl, subst}
use Rattle.ap_host.specs.Disk.{Content, settled, after}
use Rattle.ap_host.specs.Table.{files_of}
use Rattle.ap_host.proofs.KeptLemmas.{stays, stays_none}
use Rattle.ap_host.proofs.images.is_kept.Goals as goal

pub returns-in-None : goal.returns-in-None
returns-in-None c =
    let files = files_of c.args.kept.now in
    let none : None ≡ files c.args.path.now = c.in-None.ensures in
    let may = stays_none (settled files) c.args.ops.now c.args.path.now c.requires.since none in
    ((λ t. subst (λ (x : Content). (after (settled files) c.args.ops.now).may c.args.path.now x) none may), (λ m. refl))

pub returns-else-is_synced : goal.returns-else-is_synced
returns-else-is_synced c =
    let files = files_of c.args.kept.now in
    ((λ t. stays (settled files) c.args.ops.now c.args.path.now (files c.args.path.now) c.requires.since (c.if-is_synced.ensures refl) refl), (λ m. refl))
