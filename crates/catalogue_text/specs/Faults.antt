-- Which line of a text can't stand in a root.
use Rattle.std.specs.Prelude.{◌≡◌, ℕ, suc, List, [], ◌∷◌, ◌++◌}
use Rattle.sha2.specs.Sha256.{sha256}
use Rattle.package_core.specs.Card.{Card, package_text}
use Rattle.package_core.specs.Whole.{IsWhole}
use Rattle.machine_state.specs.State.{Valid}
use Rattle.machine_state.specs.Values.{StateView}
use Rattle.catalogue_text.specs.declared.fault.RootFault.{RootFault}
use Rattle.catalogue_text.specs.declared.fault.RootFault.TheVariants.{At, OutOfMemory}
use Rattle.catalogue_lines.specs.Lines.{line_ends}
use Rattle.catalogue_lines.specs.Pieces.{Piece, Takes, joined}
use Rattle.catalogue_text.specs.Root.{root_text}
use Rattle.catalogue_text.specs.Grammar.{CanStand}

-- the part stands within the whole
abbrev pub IsWithin : List ℕ → List ℕ → Type 0
IsWithin part whole = (front : List ℕ) × (back : List ℕ) × (whole ≡ front ++ (part ++ back))

-- package texts that stand within these bytes and have one SHA-256 are equal
abbrev pub TextsApart : List ℕ → Type 0
TextsApart bytes =
    (p q : Card) → IsWhole p → IsWhole q → IsWithin (package_text p) bytes → IsWithin (package_text q) bytes
    → sha256 (package_text p) ≡ sha256 (package_text q) → package_text p ≡ package_text q

-- The first line of a text that can't stand there after the lines before it, counted from 1: the pieces before it can stand,
-- and with no piece more that the text goes on with. A package's line is as bad as its text. Where all that is there can
-- stand, it is the end of the text, which counts as the next line. No valid state has this text as its root.
pub record IsFirstBadLine (text : List ℕ) (number : ℕ) : Type 0 where
  pub good : List Piece
  pub rest : List ℕ
  pub takes : Takes text good rest
  pub is : number ≡ suc (line_ends (joined good))
  pub can : CanStand good
  pub bad : (next : Piece) (behind : List ℕ) → Takes rest (next ∷ []) behind → CanStand (good ++ next ∷ []) → ⊥
  pub none : (state : StateView) → Valid state → text ≡ root_text state → ⊥

abbrev pub IsRootFault : List ℕ → RootFault → Type 0
IsRootFault text (At number) = IsFirstBadLine text number
IsRootFault text OutOfMemory = Unit {0}
