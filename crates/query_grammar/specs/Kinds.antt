-- What kind of fault stands at a place: the first in the order of the kinds that fits there. What must or may stand
-- there is said by which pieces some query goes on with.
use Rattle.std.specs.Prelude.{◌≡◌, ℕ, ◌⊎◌, List, [], ◌∷◌, ◌++◌, length}
use Rattle.query_tree.specs.declared.piece.Shape.{Shape}
use Rattle.query_tree.specs.declared.piece.Shape.TheVariants.{Word, Operator, Lone, Quoted, Broken, Mark}
use Rattle.query_grammar.specs.declared.fault.QueryKind.{QueryKind}
use Rattle.query_grammar.specs.declared.fault.QueryKind.TheVariants.{TooDeep, WantTerm, BadOperator, BadVersion, WantClose, WantValue, Trailing, TooLong}
use Rattle.query_tree.specs.Pieces.{Piece, pieces, joined}
use Rattle.query_grammar.specs.Places.{CanBegin}

abbrev pub run_of : List ℕ → Piece
run_of bytes = record { shape = Word; bytes = bytes }

abbrev pub sign_of : ℕ → Piece
sign_of c = record { shape = Mark c; bytes = c ∷ [] }

-- a term must begin behind these pieces: `a {` may stand there, which may begin a term and nothing else
abbrev pub TermBegins : List Piece → Type 0
TermBegins front = CanBegin 64 (front ++ run_of (97 ∷ []) ∷ sign_of 123 ∷ [])

-- a value or a version must stand there: `1:1` may, which is no name, no field and no architecture
abbrev pub ValueBegins : List Piece → Type 0
ValueBegins front = CanBegin 64 (front ++ run_of (49 ∷ 58 ∷ 49 ∷ []) ∷ [])

-- an architecture must stand there: `a}` may
abbrev pub ArchBegins : List Piece → Type 0
ArchBegins front = CanBegin 64 (front ++ run_of (97 ∷ []) ∷ sign_of 125 ∷ [])

-- a `)` or a `}` may stand there
abbrev pub MayClose : List Piece → Type 0
MayClose front = CanBegin 64 (front ++ sign_of 41 ∷ []) ⊎ CanBegin 64 (front ++ sign_of 125 ∷ [])

-- what stands there
abbrev pub IsLevel : List Piece → Type 0
IsLevel [] = ⊥
IsLevel (p ∷ ps) = (p.shape ≡ Mark 33) ⊎ (p.shape ≡ Mark 40)

-- an operator, a test or a lone `<` or `>`, which are pieces only where the first character in a term's parentheses
-- stands that isn't blank
abbrev pub operator_shape : Shape → Type 0
operator_shape (Operator how) = Unit {0}
operator_shape Lone = Unit {0}
operator_shape shape = ⊥

abbrev pub IsOperator : List Piece → Type 0
IsOperator [] = ⊥
IsOperator (p ∷ ps) = operator_shape p.shape

abbrev pub value_shape : Shape → Type 0
value_shape Word = Unit {0}
value_shape Quoted = Unit {0}
value_shape shape = ⊥

abbrev pub IsWordOrQuoted : List Piece → Type 0
IsWordOrQuoted [] = ⊥
IsWordOrQuoted (p ∷ ps) = value_shape p.shape

abbrev pub IsBroken : List Piece → Type 0
IsBroken [] = ⊥
IsBroken (p ∷ ps) = p.shape ≡ Broken

-- the kind fits behind the pieces that were read and before the others
abbrev pub Fits : QueryKind → List Piece → List Piece → Type 0
Fits TooDeep front back = TermBegins front × IsLevel back
Fits WantTerm front back = TermBegins front
Fits BadOperator front back = IsOperator back
Fits BadVersion front back = ValueBegins front × IsWordOrQuoted back
Fits WantClose front back = IsBroken back ⊎ MayClose front
Fits WantValue front back = ValueBegins front ⊎ ArchBegins front
Fits Trailing front back = Unit {0}
Fits TooLong front back = ⊥

-- no earlier kind does
abbrev pub NoEarlier : QueryKind → List Piece → List Piece → Type 0
NoEarlier TooDeep front back = Unit {0}
NoEarlier WantTerm front back = ¬ (Fits TooDeep front back)
NoEarlier BadOperator front back = ¬ (Fits TooDeep front back) × ¬ (Fits WantTerm front back)
NoEarlier BadVersion front back = ¬ (Fits TooDeep front back) × ¬ (Fits WantTerm front back) × ¬ (Fits BadOperator front back)
NoEarlier WantClose front back = ¬ (Fits TooDeep front back) × ¬ (Fits WantTerm front back) × ¬ (Fits BadOperator front back) × ¬ (Fits BadVersion front back)
NoEarlier WantValue front back =
    ¬ (Fits TooDeep front back) × ¬ (Fits WantTerm front back) × ¬ (Fits BadOperator front back) × ¬ (Fits BadVersion front back) × ¬ (Fits WantClose front back)
NoEarlier Trailing front back =
    ¬ (Fits TooDeep front back) × ¬ (Fits WantTerm front back) × ¬ (Fits BadOperator front back) × ¬ (Fits BadVersion front back) × ¬ (Fits WantClose front back)
    × ¬ (Fits WantValue front back)
NoEarlier TooLong front back = Unit {0}

-- the first kind that fits at the place, the pieces before it being some query's
pub record IsFirstKind (text : List ℕ) (place : ℕ) (kind : QueryKind) : Type 0 where
  pub front : List Piece
  pub back : List Piece
  pub split : pieces text ≡ front ++ back
  pub size : place ≡ length (joined front)
  pub begins : CanBegin 64 front
  pub fits : Fits kind front back
  pub first : NoEarlier kind front back
