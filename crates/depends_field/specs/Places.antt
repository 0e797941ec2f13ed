-- The place of a fault in a relation field.
use Rattle.std.specs.Prelude.{◌≡◌, ◌<◌, ◌+◌, ◌++◌, ℕ, Bool, false, List, [], ◌∷◌, length}
use Rattle.depends_field.specs.declared.alternative.Alternative.{Alternative}
use Rattle.depends_field.specs.declared.fault.DependsFault.{DependsFault}
use Rattle.depends_field.specs.declared.fault.DependsFault.TheVariants.{At, OutOfMemory}
use Rattle.depends_field.specs.declared.phase.Kind.{Kind}
use Rattle.depends_field.specs.Pieces.{IsCut, ArePieces, front}
use Rattle.depends_field.specs.Groups.{Groups}

-- the pieces of some readable text begin with these
pub record BeginsReadable (kind : Kind) (pieces : List (List ℕ)) : Type 0 where
  pub readable : List ℕ
  pub groups : List (List Alternative)
  pub more : List (List ℕ)
  pub says : Groups kind readable groups
  pub are : ArePieces readable (pieces ++ more)

-- The text says nothing, and the place is the length of its longest front that is made of whole pieces and with whose
-- pieces the pieces of some readable text begin.
pub record IsPlace (kind : Kind) (text : List ℕ) (place : ℕ) : Type 0 where
  pub pieces : List (List ℕ)
  pub inside : Bool
  pub rest : List ℕ
  pub cut : IsCut false text pieces inside rest
  pub place_is : place + length rest ≡ length text
  pub begins : BeginsReadable kind pieces
  pub longest : 0 < length rest → BeginsReadable kind (pieces ++ front inside rest ∷ []) → ⊥
  pub unreadable : (groups : List (List Alternative)) → Groups kind text groups → ⊥

abbrev pub IsFaultAt : Kind → List ℕ → DependsFault → Type 0
IsFaultAt kind text (At place) = IsPlace kind text place
IsFaultAt kind text OutOfMemory = Unit {0}
