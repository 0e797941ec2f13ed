-- Lines that list names behind a key.
use Rattle.std.specs.Prelude.{◌≡◌, ◌⊎◌, ◌==◌, ℕ, Bool, false, List, [], ◌∷◌, ◌++◌, codes, IsTrue, All}
use Rattle.std.specs.List.{list_any}
use Rattle.std.specs.Ordering.{nat_cmp}
use Rattle.std.specs.Cmp.Lexicographic.{slice_cmp}
use Rattle.std.specs.declared.cmp.Ordering.TheVariants.{Less}
use Rattle.ap_text.specs.Names.{is_component}
use Rattle.machine_state.specs.Texts.{is_listed}
use Rattle.machine_state.specs.Words.{names_behind}
use Rattle.catalogue_lines.specs.declared.shared_values.Listed.{Listed}
use Rattle.catalogue_lines.specs.declared.shared_values.Listed.TheVariants.{Components, Architectures}

abbrev pub architectures_line : List (List ℕ) → List ℕ
architectures_line names = codes "architectures" ++ names_behind names

-- the names that such a line lists
abbrev pub listed_name : Listed → List ℕ → Bool
listed_name Components = is_component
listed_name Architectures = is_listed

-- a blank, bytes up to the next blank, and what stands from there on
pub record IsCut (text name behind : List ℕ) : Type 0 where
  pub whole : text ≡ 32 ∷ (name ++ behind)
  pub front : list_any (λ b. b == 32) name ≡ false
  pub next : (behind ≡ []) ⊎ ((tail : List ℕ) × (behind ≡ 32 ∷ tail))

-- a name of this kind that comes after those before it
pub record IsNextName (is : List ℕ → Bool) (done : List (List ℕ)) (name : List ℕ) : Type 0 where
  pub good : IsTrue (is name)
  pub after : All (λ one. slice_cmp nat_cmp one name ≡ Less) done
