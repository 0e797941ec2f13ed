use Rattle.std.proofs.Common.{rules, ◌≡◌, false, map, ap, sym, ◌∙◌}
use Rattle.release_file.specs.Release.{are_different, path_of}
use Rattle.release_file.proofs.ListingLemmas.{not_once}
use Rattle.release_file.proofs.read.read_value.Goals as goal

pub returns-then-not-branch : goal.returns-then-not-branch
returns-then-not-branch c =
    let no : c.in_ok-have_different_paths.field-0 ≡ false = search (rules) in
    not_once c.args.value.now c.in-Some.files.items (rw c.in-Some.is at c.in_ok-files.ensures) (ap (λ fs. are_different (map path_of fs)) (sym c.deref.ensures.value) ∙ sym c.in_ok-have_different_paths.ensures ∙ no)
