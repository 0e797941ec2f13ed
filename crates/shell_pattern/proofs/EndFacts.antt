-- Where no class ends in a pattern, none ends in what its first elements leave.
use Rattle.std.proofs.Common.{◌≡◌, ◌≢◌, ℕ, Bool, true, false, not, ◌&&◌, ◌==◌, List, [], ◌∷◌, Option, Some, None, is_some, if◌then◌else◌, refl, ap}
use Rattle.std.specs.Bool.{IsFalse}
use Rattle.std.proofs.lemmas.Bool.{ne_eqb}
use Rattle.shell_pattern.specs.Glob.{exactly, class_end, is_negation, behind_negation, class_or_itself, opened}
use Rattle.shell_pattern.specs.GlobReading.{has_class_end}

none_of : (o : Option (List ℕ)) → is_some o ≡ false → o ≡ None
none_of None h = refl
none_of (Some x) h = cc

next_by : (a b : Bool) (d : ℕ) (ds : List ℕ) → a ≡ false → is_some (if a then class_end false ds else if b then Some (d ∷ ds) else class_end false (d ∷ ds)) ≡ false → is_some (class_end false (d ∷ ds)) ≡ false
next_by true b d ds e h = cc
next_by false true d ds e h = cc
next_by false false d ds e h = h

-- what follows a character that isn't `\`
pub open_next : (c : ℕ) (cs : List ℕ) → c ≢ 92 → IsFalse (has_class_end (c ∷ cs)) → IsFalse (has_class_end cs)
open_next c [] n h = refl
open_next c (d ∷ ds) n h = next_by (c == 92) (c == 93 && not false) d ds (ne_eqb _ _ n) h

abbrev nothing : Option (List ℕ)
nothing = None

first_one : (a b : Bool) → (if a then nothing else if b && false then Some [] else nothing) ≡ nothing
first_one true b = refl
first_one false true = refl
first_one false false = refl

first_more : (a b : Bool) (d : ℕ) (ds : List ℕ) → is_some (if a then class_end false ds else if b && true then Some (d ∷ ds) else class_end false (d ∷ ds)) ≡ false → (if a then class_end false ds else if b && false then Some (d ∷ ds) else class_end false (d ∷ ds)) ≡ None
first_more true b d ds h = none_of _ h
first_more false true d ds h = cc
first_more false false d ds h = none_of _ h

-- a class that begins there has no end either
first_open : (cs : List ℕ) → IsFalse (has_class_end cs) → class_end true cs ≡ None
first_open [] h = refl
first_open (c ∷ []) h = first_one (c == 92) (c == 93)
first_open (c ∷ d ∷ ds) h = first_more (c == 92) (c == 93) d ds h

negation_open : (c : ℕ) (cs : List ℕ) (b : Bool) → is_negation c ≡ b → IsFalse (has_class_end (c ∷ cs)) → IsFalse (has_class_end (if b then cs else c ∷ cs))
negation_open c cs true e h = open_next c cs (no_escape c e) h
  where
    no_escape : (c : ℕ) → is_negation c ≡ true → c ≢ 92
    no_escape c e is = cc
negation_open c cs false e h = h

behind_open : (cs : List ℕ) → IsFalse (has_class_end cs) → IsFalse (has_class_end (behind_negation cs))
behind_open [] h = h
behind_open (c ∷ cs) h = negation_open c cs (is_negation c) refl h

-- a `[` stands for itself
pub no_class : (cs : List ℕ) → IsFalse (has_class_end cs) → opened cs ≡ (exactly 91, cs)
no_class cs h = ap (class_or_itself cs) (first_open (behind_negation cs) (behind_open cs h))
