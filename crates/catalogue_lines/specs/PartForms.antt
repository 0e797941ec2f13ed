-- The forms that the parts of a root are made of: a line, one behind another, so many of a kind; a list of known packages, a name.
use Rattle.std.specs.Prelude.{◌≡◌, ◌≤◌, ℕ, zero, suc, List, [], ◌∷◌, ◌++◌, IsTrue, IsFalse, All}
use Rattle.std.specs.declared.cmp.Ordering.TheVariants.{Less}
use Rattle.ap_text.specs.Names.{is_name}
use Rattle.package_core.specs.Card.{Card}
use Rattle.package_core.specs.Order.{package_cmp}
use Rattle.package_list.specs.Sorted.{AllLess}
use Rattle.package_list.specs.Lists.{clashes}
use Rattle.machine_state.specs.declared.limit.Limit.TheVariants.{Packages}
use Rattle.machine_state.specs.Limits.{limit_number}
use Rattle.machine_state.specs.Named.{name_cmp}
use Rattle.machine_state.specs.State.{IsKnown}
use Rattle.catalogue_lines.specs.Pieces.{Piece, alone, packed}
use Rattle.catalogue_lines.specs.SetLines.{id_of, set_line}

-- nothing more can stand there
abbrev pub Ends : {A : Type 0} → A → List Piece → Type 0
Ends a [] = Unit {0}
Ends a (x ∷ xs) = ⊥

-- a line that is spelled by a good value, and then what that value asks for
abbrev pub Line : {A : Type 0} → (A → List ℕ) → (A → Type 0) → (A → List Piece → Type 0) → List Piece → Type 0
Line spelled Good Next [] = Unit {0}
Line {A} spelled Good Next (alone line ∷ pieces) = (a : A) × Good a × (line ≡ spelled a) × Next a pieces
Line spelled Good Next (packed p ∷ pieces) = ⊥

-- this very line
abbrev pub Fixed : List ℕ → (List Piece → Type 0) → List Piece → Type 0
Fixed line Next = Line {A = Unit {0}} (λ u. line) (λ u. Unit {0}) (λ u. Next)

-- so many more of a kind, each of which may depend on those before it, and then what all of them ask for
abbrev pub Series : {X : Type 0} → ℕ → (List X → (X → List Piece → Type 0) → List Piece → Type 0) → List X → (List X → List Piece → Type 0) → List Piece → Type 0
Series zero One before Next = Next before
Series (suc n) One before Next = One before (λ x. Series n One (before ++ x ∷ []) Next)

-- one part behind another that doesn't depend on it
abbrev pub Then : {A B : Type 0} → ((A → List Piece → Type 0) → List Piece → Type 0) → ((B → List Piece → Type 0) → List Piece → Type 0) → (A × B → List Piece → Type 0) → List Piece → Type 0
Then F G Next = F (λ a. G (λ b. Next (a, b)))

-- a known package that comes after the members before it, and clashes with none of them
pub record MayJoin (known before : List Card) (p : Card) : Type 0 where
  pub known_is : IsKnown known p
  pub after : AllLess package_cmp before p
  pub apart : IsFalse (clashes before p)

abbrev pub NextMember : List Card → List Card → (Card → List Piece → Type 0) → List Piece → Type 0
NextMember known before = Line id_of (MayJoin known before)

abbrev pub Count : (ℕ → List ℕ) → ℕ → (ℕ → List Piece → Type 0) → List Piece → Type 0
Count spelled most = Line spelled (λ n. n ≤ most)

-- a list of known packages
abbrev pub SetPart : List Card → (List Card → List Piece → Type 0) → List Piece → Type 0
SetPart known Next = Count set_line (limit_number Packages) (λ n. Series n (NextMember known) [] Next)

abbrev pub IsName : List ℕ → Type 0
IsName name = IsTrue (is_name name)

-- a name after those of the ones before it
abbrev pub IsNext : {X : Type 0} → (X → List ℕ) → List X → List ℕ → Type 0
IsNext name_of before name = IsName name × All (λ x. name_cmp name_of x name ≡ Less) before
