use Rattle.std.proofs.Common.{List, ℕ, Some, sym, ◌∙◌, ap}
use Rattle.ap_host.proofs.TableLemmas.{files_of-at, read_is}
use Rattle.aptly_scenes.proofs.files.found.Goals as goal

pub returns-in-Some : goal.returns-in-Some
returns-in-Some c =
    let found = c.in-Some.ensures.found in
    let is = c.as_slice.ensures ∙ ap (λ (x : List ℕ × List ℕ). x.1) (read_is c.args.entries.now c.in-Some.i _ _ _ found.1 c.index-entries-i.is) in
    let there = files_of-at c.args.entries.now c.in-Some.i (c.args.path.now, found.0) c.requires found.1 in
    ap (λ (b : List ℕ). Some b) is ∙ sym there
