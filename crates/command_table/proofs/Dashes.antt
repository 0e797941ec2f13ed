-- A word that doesn't begin with a dash.
use Rattle.std.proofs.Common.{◌≡◌, ◌≢◌, ℕ, eqb, cond, Bool, true, false, List, [], ◌∷◌, refl, ap, eqb-true}
use Rattle.command_table.specs.Flags.{strip_dash}

pub strip_dash_none : (word : List ℕ) → ((rest : List ℕ) → word ≢ 45 ∷ rest) → word ≡ strip_dash word
strip_dash_none [] h = refl
strip_dash_none (c ∷ word) h = chosen (eqb c 45) refl where
  chosen : (b : Bool) → eqb c 45 ≡ b → c ∷ word ≡ cond b word (c ∷ word)
  chosen true e = absurd (h word (ap (λ n. n ∷ word) (eqb-true c 45 e)))
  chosen false e = refl
