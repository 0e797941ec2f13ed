use Rattle.std.proofs.Common.{◌≡◌, ◌++◌, ◌∙◌, List, ℕ, Bool, true, [], ap, sym, subst, take, drop, append-nil, ◌-◌, arith}
use Rattle.std.proofs.lemmas.List.{take-append-drop}
use Rattle.std.specs.Bool.{IsFalse}
use Rattle.std.specs.Str.{chars, IsUtf8}
use Rattle.shell_pattern.specs.Glob.{elements_of}
use Rattle.shell_pattern.specs.GlobReading.{has_class_end, covers}
use Rattle.shell_pattern.specs.GlobSearch.{AreLiteral, BeginsWith}
use Rattle.shell_pattern.proofs.SearchFacts.{literal_begins}
use Rattle.shell_pattern.proofs.literal.literal_front.Goals as goal

minus-zero : (n : ℕ) → n - 0 ≡ n
minus-zero n = omega arith

-- the front of a pattern
cut : (unended : Bool) (text literal rest : List ℕ) → literal ++ rest ≡ text → IsUtf8 literal → AreLiteral unended literal → (unended ≡ true → IsFalse (has_class_end (chars text))) → BeginsWith (chars literal) (covers (elements_of (chars text)))
cut unended text literal rest e u a o =
    subst (λ t. BeginsWith (chars literal) (covers (elements_of (chars t)))) e
    (literal_begins unended literal rest u a (λ is. subst (λ t. IsFalse (has_class_end (chars t))) (sym e) (o is)))

pub returns-in-None : goal.returns-in-None
returns-in-None c = cut c.args.is_open c.args.pattern.now c.args.pattern.now [] (append-nil c.args.pattern.now) c.utf8.pattern c.in-None.ensures c.requires

pub returns-in-Some : goal.returns-in-Some
returns-in-Some c =
    let text = c.args.pattern.now in
    let front : c.range.result.now ≡ take c.in-Some.at text = simp minus-zero at c.range.ensures.value in
    cut c.args.is_open text c.range.result.now (drop c.in-Some.at text) (ap (λ xs. xs ++ drop c.in-Some.at text) front ∙ take-append-drop c.in-Some.at text) c.range.utf8
    (subst (AreLiteral c.args.is_open) (sym front) c.in-Some.ensures.1) c.requires
