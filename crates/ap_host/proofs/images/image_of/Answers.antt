use Rattle.std.proofs.Common.{◌-◌, List, length, take, drop, subst}
use Rattle.ap_host.specs.declared.host.Op.{Op}
use Rattle.ap_host.specs.Table.{Entries, files_of}
use Rattle.ap_host.specs.Disk.{Path}
use Rattle.ap_host.specs.Images.{IsDrawn}
use Rattle.ap_host.proofs.ListLemmas.{if_ok, rest}
use Rattle.ap_host.proofs.DrawLemmas.{chosen}
use Rattle.ap_host.proofs.images.image_of.Goals as goal

pub returns : goal.returns
returns c =
    let base = files_of c.args.base.now in
    let ops = c.args.ops.now in
    let n = c.barrier_end-before.result in
    let kept = files_of c.in_ok-kept.kept.items in
    let paths = c.in_ok-paths.paths.items in
    let Drawn : Entries → List Op → List Path → Entries → Type 0 = λ es since ps image. IsDrawn (record { base = files_of es; ops = since }) (files_of es) c.args.choice ps image in
    if_ok (λ image. Drawn c.deref-2.result.now (take (length ops - n) (drop n ops)) c.deref-4.result.now image.items) _ c.draw.result
    (λ image d. chosen base ops n kept c.args.choice paths image.items c.barrier_end-before.ensures c.in_ok-kept.ensures.live c.in_ok-paths.ensures
    (subst (λ (l : List Path). Drawn c.in_ok-kept.kept.items (drop n ops) l image.items) c.deref-4.ensures.value
    (subst (λ (es : Entries). Drawn es (drop n ops) c.deref-4.result.now image.items) c.deref-2.ensures.value
    (subst (λ (l : List Op). Drawn c.deref-2.result.now l c.deref-4.result.now image.items) (rest ops n) d)))) c.draw.ensures
