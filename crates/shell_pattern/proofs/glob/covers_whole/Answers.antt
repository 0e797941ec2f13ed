use Rattle.std.proofs.Common.{◌≡◌, Bool, List, ℕ, sym, ap, ◌∙◌}
use Rattle.std.specs.Str.{chars}
use Rattle.shell_pattern.specs.Glob.{elements_of}
use Rattle.shell_pattern.specs.GlobReading.{covers}
use Rattle.shell_pattern.proofs.GlobFacts.{covers_whole, covers_star, covers_fails}
use Rattle.shell_pattern.proofs.glob.covers_whole.Goals as goal

-- of the same pattern
of_pattern : (b : Bool) (p q text : List ℕ) → p ≡ q → b ≡ covers (elements_of (chars p)) (chars text) → b ≡ covers (elements_of (chars q)) (chars text)
of_pattern b p q text e h = h ∙ ap (λ t. covers (elements_of (chars t)) (chars text)) e

pub returns-in-Whole : goal.returns-in-Whole
returns-in-Whole c =
    of_pattern _ c.new-whole.result.text.now c.args.pattern.now c.args.text.now c.new-whole.ensures
    (sym (covers_whole (elements_of (chars c.new-whole.result.text.now)) (chars c.args.text.now) c.in-Whole.ensures.value))

pub returns-in-Star : goal.returns-in-Star
returns-in-Star c =
    of_pattern _ c.new-whole.result.text.now c.args.pattern.now c.args.text.now c.new-whole.ensures
    (c.covers_some_end.ensures
    ∙ sym (covers_star (elements_of (chars c.new-whole.result.text.now)) (elements_of (chars c.in-Star.behind.text.now)) (chars c.args.text.now) (chars c.in-Star.rest.now) c.in-Star.ensures.value))

pub returns-in-Fails : goal.returns-in-Fails
returns-in-Fails c =
    of_pattern _ c.new-whole.result.text.now c.args.pattern.now c.args.text.now c.new-whole.ensures
    (sym (covers_fails (elements_of (chars c.new-whole.result.text.now)) (chars c.args.text.now) c.in-Fails.ensures.value))
