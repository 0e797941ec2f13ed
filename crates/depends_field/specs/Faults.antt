-- What reading from the left gives: groups, or the place of the first piece that can't stand where it stands.
use Rattle.std.specs.Prelude.{◌≡◌, ◌<◌, ◌+◌, ℕ, Bool, false, List, [], length, Some, None}
use Rattle.depends_field.specs.declared.alternative.Alternative.{Alternative}
use Rattle.depends_field.specs.declared.fault.DependsFault.{DependsFault}
use Rattle.depends_field.specs.declared.fault.DependsFault.TheVariants.{At, OutOfMemory}
use Rattle.depends_field.specs.declared.phase.Kind.{Kind}
use Rattle.depends_field.specs.Pieces.{IsCut, ArePieces, front}
use Rattle.depends_field.specs.Reading.{Read, start, run, stepped, finished}

-- the pieces of the text, read one behind the other, give these groups
pub record IsReading (kind : Kind) (text : List ℕ) (groups : List (List Alternative)) : Type 0 where
  pub pieces : List (List ℕ)
  pub state : Read
  pub are : ArePieces text pieces
  pub ran : run kind start pieces ≡ Some state
  pub gives : finished state ≡ Some groups

-- the text may not end there, or the next piece may not stand there
pub record IsUnfit (kind : Kind) (state : Read) (inside : Bool) (rest : List ℕ) : Type 0 where
  pub at_end : rest ≡ [] → finished state ≡ None
  pub at_piece : 0 < length rest → stepped kind state (front inside rest) ≡ None

-- the pieces before the place may stand where they stand, and what follows may not
pub record IsFirstUnfit (kind : Kind) (text : List ℕ) (place : ℕ) : Type 0 where
  pub pieces : List (List ℕ)
  pub state : Read
  pub inside : Bool
  pub rest : List ℕ
  pub cut : IsCut false text pieces inside rest
  pub ran : run kind start pieces ≡ Some state
  pub place_is : place + length rest ≡ length text
  pub unfit : IsUnfit kind state inside rest

abbrev pub IsFaultOf : Kind → List ℕ → DependsFault → Type 0
IsFaultOf kind text (At place) = IsFirstUnfit kind text place
IsFaultOf kind text OutOfMemory = Unit {0}
