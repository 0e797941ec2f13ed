-- A root text, read part by part: what each part gives, and where its reading stops.
use Rattle.std.specs.Prelude.{◌≡◌, ◌≤◌, ◌<◌, ◌↔◌, ◌+◌, ℕ, List, [], ◌∷◌, ◌++◌, length, All, Option, Some, None, slice_get, IsTrue}
use Rattle.std.specs.BTreeMap.{get_by_text}
use Rattle.std.specs.List.{flat_map}
use Rattle.package_core.specs.Card.{Card}
use Rattle.package_core.specs.Order.{package_cmp}
use Rattle.package_list.specs.Sorted.{AllLess, IsAscending}
use Rattle.machine_state.specs.declared.limit.Limit.TheVariants.{Packages, Known as KnownCount, Catalogue, File}
use Rattle.machine_state.specs.Limits.{limit_number}
use Rattle.machine_state.specs.State.{IsKnown, text_length}
use Rattle.catalogue_lines.specs.declared.known.Known.{Known}
use Rattle.catalogue_lines.specs.declared.stop.Stop.{Stop}
use Rattle.catalogue_lines.specs.declared.stop.Stop.TheVariants.{Before, OutOfMemory}
use Rattle.catalogue_lines.specs.Lines.{IsLine}
use Rattle.catalogue_lines.specs.Pieces.{Piece, packed, Begins, Takes}
use Rattle.catalogue_lines.specs.SetLines.{id_of}
use Rattle.catalogue_lines.specs.PartForms.{MayJoin}

-- the first line of the text spells no good value
abbrev pub NoLine : {A : Type 0} → (A → List ℕ) → (A → Type 0) → List ℕ → Type 0
NoLine {A} spelled Good text = (a : A) (behind : List ℕ) → Good a → IsLine text (spelled a) behind → ⊥

-- the first line of the text spells this good value, and this is the text behind it
abbrev pub ReadsLine : {A : Type 0} → (A → List ℕ) → (A → Type 0) → List ℕ → A → List ℕ → Type 0
ReadsLine spelled Good text a rest = Good a × IsLine text (spelled a) rest

-- never and always, for what follows a part
abbrev pub Never : {A : Type 0} → A → List Piece → Type 0
Never a pieces = ⊥

abbrev pub Always : {A : Type 0} → A → List Piece → Type 0
Always a pieces = Unit {0}

-- The text, read as this part, stops where so many bytes are left: the pieces before them can stand in the part and don't
-- make it whole, and no piece that stands there can stand behind them.
pub record Stops {A : Type 0} (Part : (A → List Piece → Type 0) → List Piece → Type 0) (text : List ℕ) (left : ℕ) : Type 0 where
  pub good : List Piece
  pub rest : List ℕ
  pub takes : Takes text good rest
  pub left_is : left ≡ length rest
  pub stand : Part Never good
  pub bad : (next : Piece) (behind : List ℕ) → Takes rest (next ∷ []) behind → Part Always (good ++ next ∷ []) → ⊥

-- each meets the condition with those before it
abbrev pub Each : {X : Type 0} → (List X → X → Type 0) → List X → List X → Type 0
Each Good before [] = Unit {0}
Each Good before (x ∷ xs) = Good before x × Each Good (before ++ x ∷ []) xs

-- so many of a kind stand there, each good with those before it, and this is the text behind them
pub record ReadsSeries {X : Type 0} (pieces : X → List Piece) (Good : List X → X → Type 0) (count : ℕ) (text : List ℕ) (xs : List X) (rest : List ℕ) : Type 0 where
  pub counted : length xs ≡ count
  pub good : Each Good [] xs
  pub takes : Takes text (flat_map pieces xs) rest

abbrev pub IfBefore : Stop → (ℕ → Type 0) → Type 0
IfBefore (Before left) P = P left
IfBefore OutOfMemory P = Unit {0}

-- one package more, and the text behind it
abbrev pub AddsPackage : List Card → List ℕ → List Card → List ℕ → Type 0
AddsPackage before text after rest = (p : Card) × Begins text (packed p) rest × AllLess package_cmp before p × (after ≡ before ++ p ∷ [])

-- one member more, and the text behind its line
abbrev pub AddsMember : List Card → List Card → List ℕ → List Card → List ℕ → Type 0
AddsMember known before text after rest = (p : Card) × ReadsLine id_of (MayJoin known before) text p rest × (after ≡ before ++ p ∷ [])

-- a list of known packages as it has to be
abbrev pub GoodSet : List Card → List Card → Type 0
GoodSet known list = (length list ≤ limit_number Packages) × Each (MayJoin known) [] list

-- the packages of a root
abbrev pub GoodKnown : List Card → Type 0
GoodKnown known = (length known ≤ limit_number KnownCount) × Each (AllLess package_cmp) [] known

-- a good value stands there by these pieces, and this is the text behind it
pub record ReadsPart {A : Type 0} (pieces : A → List Piece) (Good : A → Type 0) (text : List ℕ) (a : A) (rest : List ℕ) : Type 0 where
  pub good : Good a
  pub takes : Takes text (pieces a) rest

-- Where the packages that were read stand by their ids; what is left of the limit on their texts, where that isn't passed;
-- and whether each file is within its limit.
abbrev pub PlaceIs : List Card → List ℕ → Option ℕ → Type 0
PlaceIs list id None = (i : ℕ) (p : Card) → slice_get list i ≡ Some p → id_of p ≡ id → ⊥
PlaceIs list id (Some i) = (p : Card) × (slice_get list i ≡ Some p) × (id_of p ≡ id)

abbrev pub IsSmall : Card → Type 0
IsSmall p = p.said.size ≤ limit_number File

abbrev pub RoomIs : List Card → Option ℕ → Type 0
RoomIs list None = limit_number Catalogue < text_length list
RoomIs list (Some room) = room + text_length list ≡ limit_number Catalogue

pub record IsIndexed (known : Known) : Type 0 where
  pub sorted : IsAscending package_cmp known.list
  pub places : (id : List ℕ) → PlaceIs known.list id (get_by_text known.places id)
  pub room : RoomIs known.list known.room
  pub small : IsTrue known.small ↔ All IsSmall known.list

-- no two different known packages have one id
abbrev pub IdsApart : List Card → Type 0
IdsApart known = (p q : Card) → IsKnown known p → IsKnown known q → id_of p ≡ id_of q → p ≡ q

-- the first line names the known package at this place, and this is the text behind the line
abbrev pub NamesKnown : List Card → List ℕ → ℕ → List ℕ → Type 0
NamesKnown known text place rest = (p : Card) × (slice_get known place ≡ Some p) × IsLine text (id_of p) rest
