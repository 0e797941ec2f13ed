-- A part of a version, cut into runs, and the order of two parts (Debian Policy 5.6.12).
use Rattle.std.specs.Prelude.{ℕ, ◌+◌, Bool, not, ◌&&◌, ◌||◌, ◌==◌, nat_lt, nat_le, List, [], ◌∷◌, if◌then◌else◌}
use Rattle.std.specs.declared.cmp.Ordering.{Ordering}
use Rattle.std.specs.Ordering.{ordering_then, nat_cmp}
use Rattle.std.specs.declared.cmp.Ordering.TheVariants.{Equal}
use Rattle.std.specs.Cmp.Lexicographic.{slice_cmp}
use Rattle.std.specs.Str.Parse.{digits_value}

unfoldable pub is_digit : ℕ → Bool
is_digit c = nat_le 48 c && nat_lt c 58

abbrev pub is_non_digit : ℕ → Bool
is_non_digit c = not (is_digit c)

abbrev pub is_letter : ℕ → Bool
is_letter c = (nat_le 65 c && nat_lt c 91) || (nat_le 97 c && nat_lt c 123)

-- The tilde sorts before all, also before the end of a run, whose rank is 1; then come the letters, then all others, each by byte.
unfoldable pub rank : ℕ → ℕ
rank c = if c == 126 then 0 else if is_letter c then c + 2 else c + 258

-- the rank of each character, and then of the end
abbrev pub ranks : List ℕ → List ℕ
ranks [] = 1 ∷ []
ranks (c ∷ cs) = rank c ∷ ranks cs

-- a run of non-digits, and the run of digits behind it; either may be empty
pub record Cut : Type 0 where
  pub run : List ℕ
  pub digits : List ℕ

-- the front of a list that passes, and what follows it
abbrev pub front : (ℕ → Bool) → List ℕ → List ℕ
front p [] = []
front p (x ∷ xs) = if p x then x ∷ front p xs else []

abbrev pub after : (ℕ → Bool) → List ℕ → List ℕ
after p [] = []
after p (x ∷ xs) = if p x then after p xs else x ∷ xs

-- the first cut, and what follows it
unfoldable pub first_cut : List ℕ → Cut
first_cut xs = record { run = front is_non_digit xs; digits = front is_digit (after is_non_digit xs) }

unfoldable pub later : List ℕ → List ℕ
later xs = after is_digit (after is_non_digit xs)

-- the cuts with one more character in front
abbrev pub with_front : ℕ → List Cut → List Cut
with_front c [] = if is_digit c then record { run = []; digits = c ∷ [] } ∷ [] else record { run = c ∷ []; digits = [] } ∷ []
with_front c (p ∷ ps) = if is_digit c then digit_front p.run else record { run = c ∷ p.run; digits = p.digits } ∷ ps
  where
    digit_front : List ℕ → List Cut
    digit_front [] = record { run = []; digits = c ∷ p.digits } ∷ ps
    digit_front (r ∷ rs) = record { run = []; digits = c ∷ [] } ∷ p ∷ ps

-- The cuts of a part, from the left. Joined they are the part, and only the first has an empty run, only the last no digits.
abbrev pub cuts : List ℕ → List Cut
cuts [] = []
cuts (c ∷ cs) = with_front c (cuts cs)

-- what a shorter list of cuts goes on with
abbrev pub no_cut : Cut
no_cut = record { run = []; digits = [] }

-- Runs of non-digits compare by the ranks of their characters, runs of digits by their value, an empty one being 0.
abbrev pub cut_cmp : Cut → Cut → Ordering
cut_cmp p q = ordering_then (slice_cmp nat_cmp (ranks p.run) (ranks q.run)) (nat_cmp (digits_value 10 p.digits) (digits_value 10 q.digits))

-- The first pair that isn't equal decides; the shorter list goes on with e.
abbrev pub padded_cmp : {X : Type 0} → (X → X → Ordering) → X → List X → List X → Ordering
padded_cmp R e [] [] = Equal
padded_cmp R e [] (y ∷ ys) = ordering_then (R e y) (padded_cmp R e [] ys)
padded_cmp R e (x ∷ xs) [] = ordering_then (R x e) (padded_cmp R e xs [])
padded_cmp R e (x ∷ xs) (y ∷ ys) = ordering_then (R x y) (padded_cmp R e xs ys)

-- the order of two upstream versions, or of two revisions
unfoldable pub part_cmp : List ℕ → List ℕ → Ordering
part_cmp a b = padded_cmp cut_cmp no_cut (cuts a) (cuts b)
