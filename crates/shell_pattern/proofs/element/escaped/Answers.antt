use Rattle.std.proofs.Common.{ℕ, List, ◌∷◌, subst}
use Rattle.std.specs.Prelude.{IsTrue, IsFalse}
use Rattle.shell_pattern.specs.GlobReading.{has_class_end}
use Rattle.shell_pattern.proofs.element.escaped.Goals as goal

pub behind_escaped-requires : goal.behind_escaped-requires
behind_escaped-requires c = subst (λ (cs : List ℕ). IsTrue c.args.is_open → IsFalse (has_class_end (92 ∷ cs))) c.in-Some.ensures.0 c.requires
