-- How the code looks for a place of the text from where a pattern's elements stand for it.
use Rattle.std.specs.Prelude.{◌≡◌, ℕ, Bool, true, false, List, [], ◌∷◌, ◌++◌, ◌+◌, length, Option, Some, None}
use Rattle.std.specs.Option.{option_map}
use Rattle.std.specs.Str.{chars, NoCharPasses}
use Rattle.std.specs.Char.{char_set_contains}
use denote.Ref.{Bor}
use Rattle.shell_pattern.specs.Glob.{Element, run, any_one, exactly, class}
use Rattle.shell_pattern.specs.GlobReading.{Front, whole, star, fails, any_tail, covers}

-- the characters that may stand for something else than themselves, where no class ends and where one may
abbrev pub specials : Bool → List ℕ
specials true = 42 ∷ 63 ∷ 92 ∷ []
specials false = 42 ∷ 63 ∷ 92 ∷ 91 ∷ []

-- none of the characters of the text is special
abbrev pub AreLiteral : Bool → List ℕ → Type 0
AreLiteral unended text = NoCharPasses (char_set_contains (specials unended)) text

-- what the test holds of begins with the characters
abbrev pub BeginsWith : List ℕ → (List ℕ → Bool) → Type 0
BeginsWith ls holds = (cs : List ℕ) → holds cs ≡ true → (rest : List ℕ) × (cs ≡ ls ++ rest)

-- a test holds of some tail of a text, if there is a text
abbrev pub holds_from : (List ℕ → Bool) → Option (Bor (List ℕ)) → Bool
holds_from holds None = false
holds_from holds (Some rest) = any_tail holds (chars rest.now)

-- how many characters the elements stand for, if no run is among them
abbrev pub characters : List Element → Option ℕ
characters [] = Some 0
characters (run ∷ es) = None
characters (any_one ∷ es) = option_map (λ n. n + 1) (characters es)
characters (exactly d ∷ es) = option_map (λ n. n + 1) (characters es)
characters (class negated letters ∷ es) = option_map (λ n. n + 1) (characters es)

-- so many characters, at the end of others
pub record IsEnd (count : ℕ) (end cs : List ℕ) : Type 0 where
  pub front : List ℕ
  pub split : cs ≡ front ++ end
  pub counted : length end ≡ count

-- what a front says of the whole
abbrev pub said : Front → Bool
said whole = true
said (star es cs) = any_tail (covers es) cs
said fails = false
