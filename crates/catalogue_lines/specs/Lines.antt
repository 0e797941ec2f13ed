-- The lines at the front of a text.
use Rattle.std.specs.Prelude.{◌≡◌, ◌⊎◌, ◌==◌, ℕ, Bool, true, false, List, [], ◌∷◌, ◌++◌}
use Rattle.std.specs.List.{list_any, count_by}

-- no line end in it
abbrev pub IsPlain : List ℕ → Type 0
IsPlain text = list_any (λ b. b == 10) text ≡ false

-- The text begins with this line, in which there is no line end, and this stands behind it. The line has its line end, unless
-- it is the last, which may lack it.
pub record IsLine (text line rest : List ℕ) : Type 0 where
  pub plain : IsPlain line
  pub ended : (text ≡ line ++ 10 ∷ rest) ⊎ ((text ≡ line) × (rest ≡ []) × (line ≡ [] → ⊥))

-- the last line has its line end
abbrev pub is_ended : List ℕ → Bool
is_ended [] = true
is_ended (b ∷ []) = b == 10
is_ended (b ∷ c ∷ cs) = is_ended (c ∷ cs)

-- how many line ends the text has
abbrev pub line_ends : List ℕ → ℕ
line_ends text = count_by (λ b. b == 10) text
