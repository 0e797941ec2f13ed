-- Lists in strictly ascending order, and where one more goes.
use Rattle.std.specs.Prelude.{◌≡◌, List, [], ◌∷◌}
use Rattle.std.specs.declared.cmp.Ordering.{Ordering}
use Rattle.std.specs.declared.cmp.Ordering.TheVariants.{Less, Equal, Greater}

module _ {X : Type 0} (R : X → X → Ordering) where
  -- x is less than each of the list
  abbrev pub IsBelow : X → List X → Type 0
  IsBelow x [] = Unit {0}
  IsBelow x (y ∷ ys) = (R x y ≡ Less) × IsBelow x ys

  -- each is less than all behind it
  abbrev pub IsAscending : List X → Type 0
  IsAscending [] = Unit {0}
  IsAscending (x ∷ xs) = IsBelow x xs × IsAscending xs

  abbrev pub placed : Ordering → X → X → List X → List X → List X
  placed Less x y ys more = x ∷ y ∷ ys
  placed Equal x y ys more = y ∷ ys
  placed Greater x y ys more = y ∷ more

  -- the ascending list with x at its place, unless an equal of x is there
  abbrev pub put : X → List X → List X
  put x [] = x ∷ []
  put x (y ∷ ys) = placed (R x y) x y ys (put x ys)
