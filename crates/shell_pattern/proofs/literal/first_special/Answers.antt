use Rattle.std.proofs.Common.{◌≡◌, ◌≤◌, ℕ, List, Bool, true, false, Option, Some, None, take, refl, subst, sym}
use Rattle.std.specs.Option.{MatchOption}
use Rattle.std.specs.Str.{IsCharBoundary, NoCharPasses}
use Rattle.std.specs.Str.Pattern.{FindsBy}
use Rattle.std.specs.Char.{char_set_contains}
use Rattle.shell_pattern.specs.GlobSearch.{specials, AreLiteral}
use Rattle.shell_pattern.proofs.literal.first_special.Goals as goal

-- what is found of a list of characters
found : (list : List ℕ) (bs : List ℕ) (r : Option ℕ) → MatchOption r ((k : ℕ → Bool) → ((c : ℕ) → char_set_contains list c ≡ k c) → FindsBy k bs None) (λ i. (j : ℕ) × ((k : ℕ → Bool) → ((c : ℕ) → char_set_contains list c ≡ k c) → FindsBy k bs (Some (i, j))) × (i ≤ j) × IsCharBoundary bs i × IsCharBoundary bs j) → MatchOption r (NoCharPasses (char_set_contains list) bs) (λ at. IsCharBoundary bs at × NoCharPasses (char_set_contains list) (take at bs))
found list bs None h = h (char_set_contains list) (λ c. refl)
found list bs (Some i) h = (h.3, (h.1 (char_set_contains list) (λ c. refl)).0)

said : (b d : Bool) (bs : List ℕ) (r : Option ℕ) → b ≡ d → MatchOption r (AreLiteral d bs) (λ at. IsCharBoundary bs at × AreLiteral d (take at bs)) → MatchOption r (AreLiteral b bs) (λ at. IsCharBoundary bs at × AreLiteral b (take at bs))
said b d bs r e h = subst (λ x. MatchOption r (AreLiteral x bs) (λ at. IsCharBoundary bs at × AreLiteral x (take at bs))) (sym e) h

pub returns-then-is_open : goal.returns-then-is_open
returns-then-is_open c = said c.args.is_open true c.args.pattern.now c.find.result c.if-is_open.true (found (specials true) c.args.pattern.now c.find.result c.find.ensures.cases)

pub returns : goal.returns
returns c = said c.args.is_open false c.args.pattern.now c.find-2.result c.if-is_open.false (found (specials false) c.args.pattern.now c.find-2.result c.find-2.ensures.cases)
