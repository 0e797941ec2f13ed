use Rattle.std.proofs.Common.{◌≡◌, ◌+◌, Bool, length, sym, refl, subst, arith, ℕ}
use Rattle.std.proofs.lemmas.Option.{slice_get_read}
use Rattle.ap_host.specs.Disk.{Log}
use Rattle.ap_host.specs.Table.{Entries, files_of}
use Rattle.ap_host.specs.Images.{IsTaken}
use Rattle.ap_host.proofs.DrawLemmas.{Drawn, drawn_more, drawn_all}
use Rattle.ap_host.proofs.images.draw.Goals as goal

pub loop-i-preserved : goal.loop-i-preserved
loop-i-preserved c =
    let files = files_of c.args.kept.now in
    let log : Log = record { base = files; ops = c.args.ops.now } in
    let paths = c.args.paths.now in
    let i = c.loop-i.i in
    let p = c.index-paths-i.result in
    let at = slice_get_read paths _ i p refl c.loop-i-test.true c.index-paths-i.is in
    let w = c.in_ok-draw_one.ensures in
    let taken = subst (λ (b : Bool). IsTaken log files p w.0 b) c.takes_live.ensures w.1 in
    subst (λ (es : Entries). Drawn log files c.args.choice paths (i + 1) es) (sym w.2)
    (drawn_more log files c.args.choice paths i c.loop-i.image.items p w.0 c.requires.ascending at c.loop-i.invariant taken)

pub returns : goal.returns
returns c =
    let files = files_of c.args.kept.now in
    let log : Log = record { base = files; ops = c.args.ops.now } in
    let all : c.loop-i.i ≡ length c.args.paths.now = omega arith in
    drawn_all log files c.args.choice c.args.paths.now c.loop-i.image.items
    (subst (λ (n : ℕ). Drawn log files c.args.choice c.args.paths.now n c.loop-i.image.items) all c.loop-i.invariant)
