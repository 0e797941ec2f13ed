use Rattle.std.proofs.Common.{◌≡◌, ◌++◌, ◌∷◌, [], sym, ap, ◌∙◌, append_assoc}
use Rattle.std.specs.Rc.{rc_value}
use Rattle.package_intake.specs.Index.{IndexEntry}
use Rattle.package_intake.specs.Inside.{path_in}
use Rattle.package_intake.proofs.MapLemmas.{entry_more, cards_more}
use Rattle.package_intake.proofs.join.split.Goals as goal

pub loop-package-preserved : goal.loop-package-preserved
loop-package-preserved c =
    let e : IndexEntry = (c.in-Some.package, c.in-Some.path) in
    let is : c.in_ok-package.package.value ≡ c.in-Some.package = c.in_ok-package.ensures.ok in
    let one : c.new-in-loop-package.result ≡ c.in-Some.package = c.new-in-loop-package.ensures ∙ c.in_ok-clone.ensures.cases ∙ is in (
      cards_more rc_value c.loop-package.packages.items c.push.new.self.items c.in_ok-package.package c.loop-package.yielded e c.loop-package.invariant.0 c.in_ok-push.ensures.items is,
      append_assoc c.loop-package.yielded (e ∷ []) c.next.new.self.rest.items ∙ ap (λ l. c.loop-package.yielded ++ l) (sym c.in-Some.ensures.steps.0) ∙ c.loop-package.invariant.1,
      λ q. c.in_ok-note_path.ensures q ∙ (λ i. path_in (c.loop-package.invariant.2 q i) (one i) c.in-Some.path q) ∙ sym (entry_more c.loop-package.yielded e q),
    )
