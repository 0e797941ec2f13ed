-- Lists of packages in a root, and pieces one behind another: what a list as it has to be is, and that pieces are cut out of their text.
use Rattle.std.proofs.Common.{inl, ℕ, ◌<◌, ◌≤◌, ◌^◌, List, [], ◌∷◌, ◌++◌, length, map, All, refl, arith, append_assoc}
use Rattle.package_core.specs.Card.{Card}
use Rattle.package_core.specs.Whole.{IsWhole}
use Rattle.machine_state.specs.declared.limit.Limit.TheVariants.{Packages}
use Rattle.machine_state.specs.Limits.{limit_number}
use Rattle.machine_state.specs.State.{IsNamedList, text_length}
use Rattle.catalogue_lines.specs.Lines.{IsPlain}
use Rattle.catalogue_lines.specs.Pieces.{Piece, alone, packed, Takes, joined}
use Rattle.catalogue_lines.specs.SetLines.{id_of, set_pieces}
use Rattle.catalogue_lines.specs.PartForms.{MayJoin}
use Rattle.catalogue_lines.specs.Reading.{GoodSet}
use Rattle.catalogue_lines.proofs.PlainLemmas.{set_plain, id_plain}
use Rattle.catalogue_lines.proofs.TakesLemmas.{Shorts}
use Rattle.catalogue_lines.proofs.ValidLemmas.{all_tail, sorted_each, apart_each, each_join, all_known}

-- ---- a list
pub good_set : (known list : List Card) → IsNamedList known list → GoodSet known list
good_set known list n = (n.few, each_join known [] list n.listed n.sorted n.apart)

pub named_list : (known list : List Card) → GoodSet known list → IsNamedList known list
named_list known list g = record {
  sorted = sorted_each (MayJoin known) (λ done x m. m.after) [] list tt g.1;
  apart = apart_each known [] list refl g.1;
  listed = all_known known [] list g.1;
  few = g.0;
}

-- ---- pieces that are cut out of their text
abbrev pub ArePieces : List Piece → Type 0
ArePieces [] = Unit {0}
ArePieces (alone l ∷ xs) = IsPlain l × ArePieces xs
ArePieces (packed p ∷ xs) = IsWhole p × ArePieces xs

pub pieces_both : (xs ys : List Piece) → ArePieces xs → ArePieces ys → ArePieces (xs ++ ys)
pieces_both [] ys a b = b
pieces_both (alone l ∷ xs) ys a b = (a.0, pieces_both xs ys a.1 b)
pieces_both (packed p ∷ xs) ys a b = (a.0, pieces_both xs ys a.1 b)

pub takes_joined : (xs : List Piece) → ArePieces xs → Takes (joined xs) xs []
takes_joined [] a = refl
takes_joined (alone l ∷ xs) a = (joined xs, record { plain = a.0; ended = inl (append_assoc l (10 ∷ []) (joined xs)) }, takes_joined xs a.1)
takes_joined (packed p ∷ xs) a = (joined xs, (a.0, refl), takes_joined xs a.1)

pub known_are : (ps : List Card) → All IsWhole ps → ArePieces (map packed ps)
known_are [] w = tt
known_are (p ∷ ps) w = (w 0 p (omega arith), known_are ps (all_tail IsWhole p ps w))

pub ids_are : (ps : List Card) → ArePieces (map (λ p. alone (id_of p)) ps)
ids_are [] = tt
ids_are (p ∷ ps) = (id_plain p, ids_are ps)

pub set_are : (list : List Card) → length list ≤ limit_number Packages → ArePieces (set_pieces list)
unfolding set_pieces
set_are list few = (set_plain (length list) (omega arith), ids_are list)

-- ---- their texts are short
pub shorts_alone : (f : Card → List ℕ) (ps : List Card) → Shorts (map (λ p. alone (f p)) ps)
shorts_alone f [] = tt
shorts_alone f (p ∷ ps) = shorts_alone f ps

pub shorts_both : (xs ys : List Piece) → Shorts xs → Shorts ys → Shorts (xs ++ ys)
shorts_both [] ys a b = b
shorts_both (alone l ∷ xs) ys a b = shorts_both xs ys a b
shorts_both (packed p ∷ xs) ys a b = (a.0, shorts_both xs ys a.1 b)

pub shorts_known : (ps : List Card) → text_length ps < 2 ^ 64 → Shorts (map packed ps)
shorts_known [] h = tt
shorts_known (p ∷ ps) h = (omega arith, shorts_known ps (omega arith))

pub set_short : (list : List Card) → Shorts (set_pieces list)
unfolding set_pieces
set_short list = shorts_alone id_of list
