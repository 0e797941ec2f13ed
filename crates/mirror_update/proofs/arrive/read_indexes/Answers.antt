use Rattle.std.proofs.Common.{◌≡◌, List, IfErr, ap, ◌∙◌, subst, subst₂}
use Rattle.ap_host.specs.Disk.{Path}
use Rattle.release_file.specs.declared.listing.Listed.{Listed}
use Rattle.release_file.specs.Release.{ReleaseView}
use Rattle.mirror_update.specs.Fetch.{distribution_folder}
use Rattle.mirror_update.specs.Wanted.{wanted_indexes}
use Rattle.mirror_update.specs.Indexes.{FaultOfListed}
use Rattle.mirror_update.proofs.arrive.read_indexes.Goals as goal

pub returns-clause-mismatch : goal.returns-clause-mismatch
returns-clause-mismatch g c =
    let mirror = c.args.mirror.now in
    let files : c.deref.result.now ≡ c.args.release.now.files = c.deref.ensures.value ∙ ap (λ (r : ReleaseView). r.files) c.release.view_is in
    let names : c.deref-2.result.now ≡ wanted_indexes mirror c.args.release.now = c.deref-2.ensures.value ∙ c.in_ok-names.ensures.names in
    subst₂ (λ (fs : List Listed) (ns : List Path). IfErr c.read_all.result (FaultOfListed (distribution_folder mirror) fs ns)) files names
    (subst (λ (folder : Path). IfErr c.read_all.result (FaultOfListed folder c.deref.result.now c.deref-2.result.now)) c.in_ok-folder.ensures.path c.read_all.ensures.mismatch)
