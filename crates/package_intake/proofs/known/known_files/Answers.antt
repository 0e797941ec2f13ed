use Rattle.std.proofs.Common.{◌≡◌, ◌+◌, ◌++◌, ◌∷◌, [], map, take, sym, ap, ◌∙◌, arith}
use Rattle.std.specs.Rc.{rc_value}
use Rattle.package_core.specs.Card.{Card}
use Rattle.package_intake.specs.Taking.{known_of}
use Rattle.package_intake.specs.Inside.{file_in}
use Rattle.package_intake.proofs.ListLemmas.{next_taken}
use Rattle.package_intake.proofs.MapLemmas.{known_more}
use Rattle.package_intake.proofs.known.known_files.Goals as goal

pub loop-package-preserved : goal.loop-package-preserved
loop-package-preserved c q =
    let i = c.loop-package.package-index in
    let items = c.as_slice-package-items.result.now in
    let x : Card = c.package-item.result.value in
    let took : take (i + 1) (map rc_value items) ≡ take i (map rc_value items) ++ x ∷ [] = next_taken rc_value items i c.package-item.result (omega arith) c.package-item.is in
    c.in_ok-note_file.ensures q ∙ ap (λ o. file_in o x q) (c.loop-package.invariant q) ∙ sym (known_more (take i (map rc_value items)) x q) ∙ ap (λ l. known_of l q) (sym took)
