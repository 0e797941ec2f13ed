-- Shell patterns, by character.
use Rattle.std.specs.Prelude.{◌≡◌, ℕ, zero, suc, Bool, true, false, not, ◌&&◌, ◌||◌, ◌==◌, nat_le, List, [], ◌∷◌, ◌++◌, length, Option, Some, None, if◌then◌else◌}
use Rattle.std.specs.Str.{chars}
use Rattle.shell_pattern.specs.declared.letter.Letter.{Letter}

abbrev pub plain : ℕ → Letter
plain c = record { character = c; escaped = false }

abbrev pub escaped : ℕ → Letter
escaped c = record { character = c; escaped = true }

-- What follows a class, behind its `]`, which isn't one that stands first nor the c of a `\c`.
abbrev pub class_end : Bool → List ℕ → Option (List ℕ)
class_end first [] = None
class_end first (c ∷ []) = if c == 92 then None else if c == 93 && not first then Some [] else None
class_end first (c ∷ d ∷ ds) =
    if c == 92 then class_end false ds
    else if c == 93 && not first then Some (d ∷ ds)
    else class_end false (d ∷ ds)

-- the characters of a class up to its end; `\c` stands for the character c
abbrev pub class_letters : Bool → List ℕ → List Letter
class_letters first [] = []
class_letters first (c ∷ []) = if c == 92 then [] else if c == 93 && not first then [] else plain c ∷ []
class_letters first (c ∷ d ∷ ds) =
    if c == 92 then escaped d ∷ class_letters false ds
    else if c == 93 && not first then []
    else plain c ∷ class_letters false (d ∷ ds)

-- a `-` without a backslash
abbrev pub is_dash : Letter → Bool
is_dash l = l.character == 45 && not l.escaped

abbrev pub is_between : ℕ → ℕ → ℕ → Bool
is_between a b c = nat_le a c && nat_le c b

-- The character is a member: read from the left, the letters are ranges `a-b`, and otherwise single characters.
abbrev pub is_in : List Letter → ℕ → Bool
is_in [] c = false
is_in (a ∷ []) c = c == a.character
is_in (a ∷ b ∷ []) c = c == a.character || c == b.character
is_in (a ∷ b ∷ d ∷ ls) c =
    if is_dash b then is_between a.character d.character c || is_in ls c
    else c == a.character || is_in (b ∷ d ∷ ls) c

-- what an element of a pattern stands for: any run of characters, any one, this one, or one of a class
pub data Element : Type 0 where
  run : Element
  any_one : Element
  exactly : ℕ → Element
  class : Bool → List Letter → Element

-- `^` or `!`
abbrev pub is_negation : ℕ → Bool
is_negation c = c == 94 || c == 33

abbrev pub is_negated : List ℕ → Bool
is_negated [] = false
is_negated (c ∷ cs) = is_negation c

abbrev pub behind_negation : List ℕ → List ℕ
behind_negation [] = []
behind_negation (c ∷ cs) = if is_negation c then cs else c ∷ cs

-- a `[` without its end stands for itself
abbrev pub class_or_itself : List ℕ → Option (List ℕ) → Element × List ℕ
class_or_itself cs None = (exactly 91, cs)
class_or_itself cs (Some rest) = (class (is_negated cs) (class_letters true (behind_negation cs)), rest)

-- behind a `[`
abbrev pub opened : List ℕ → Element × List ℕ
opened cs = class_or_itself cs (class_end true (behind_negation cs))

-- behind a `\`, which stands for itself at the end
abbrev pub escaped_one : List ℕ → Element × List ℕ
escaped_one [] = (exactly 92, [])
escaped_one (c ∷ cs) = (exactly c, cs)

-- the first element of a pattern, and the characters behind it
unfoldable pub first_element : ℕ → List ℕ → Element × List ℕ
first_element c cs =
    if c == 42 then (run, cs)
    else if c == 63 then (any_one, cs)
    else if c == 92 then escaped_one cs
    else if c == 91 then opened cs
    else (exactly c, cs)

-- the elements of a pattern that has at most as many characters as the first argument
abbrev pub elements : ℕ → List ℕ → List Element
elements zero cs = []
elements (suc n) [] = []
elements (suc n) (c ∷ cs) = (first_element c cs).0 ∷ elements n (first_element c cs).1

unfoldable pub elements_of : List ℕ → List Element
elements_of cs = elements (length cs) cs

abbrev pub not_if : Bool → Bool → Bool
not_if true b = not b
not_if false b = b

-- the element stands for this one character
abbrev pub takes : Element → ℕ → Bool
takes run c = false
takes any_one c = true
takes (exactly d) c = c == d
takes (class negated letters) c = not_if negated (is_in letters c)

-- one character that passes a test
pub record IsOne (test : ℕ → Bool) (piece : List ℕ) : Type 0 where
  pub character : ℕ
  pub is : piece ≡ character ∷ []
  pub passes : test character ≡ true

-- the element stands for these characters
abbrev pub Stands : Element → List ℕ → Type 0
Stands run piece = Unit {0}
Stands any_one piece = IsOne (takes any_one) piece
Stands (exactly d) piece = IsOne (takes (exactly d)) piece
Stands (class negated letters) piece = IsOne (takes (class negated letters)) piece

-- a first piece for the element, and the rest as it is asked
pub record Begins (e : Element) (Rest : List ℕ → Type 0) (cs : List ℕ) : Type 0 where
  pub piece : List ℕ
  pub rest : List ℕ
  pub split : cs ≡ piece ++ rest
  pub stands : Stands e piece
  pub left : Rest rest

-- the characters can be cut into pieces, one for each element
abbrev pub Pieces : List Element → List ℕ → Type 0
Pieces [] cs = cs ≡ []
Pieces (e ∷ es) cs = Begins e (Pieces es) cs

-- the pattern stands for the whole text
unfoldable pub Glob : List ℕ → List ℕ → Type 0
Glob pattern text = Pieces (elements_of (chars pattern)) (chars text)
