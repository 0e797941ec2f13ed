-- The packages of a root and lists of them, as parts: what is written of them can stand, and tells what is read.
use Rattle.std.proofs.Common.{◌≡◌, ℕ, ◌<◌, ◌≤◌, ◌^◌, List, [], ◌∷◌, ◌++◌, length, codes, refl, sym, ap, subst, arith}
use Rattle.std.specs.List.{flat_map}
use Rattle.std.specs.Fmt.{decimal}
use Rattle.std.proofs.lemmas.Fmt.{decimal_injective}
use Rattle.std.proofs.lemmas.List.{append_cancel_left}
use Rattle.std.proofs.lemmas.List.Concat.{flat_map_single}
use Rattle.package_core.specs.Card.{Card}
use Rattle.package_core.specs.Order.{package_cmp}
use Rattle.package_list.specs.Sorted.{AllLess}
use Rattle.machine_state.specs.declared.limit.Limit.TheVariants.{Packages, Known}
use Rattle.machine_state.specs.Limits.{limit_number}
use Rattle.catalogue_lines.specs.Pieces.{Piece, alone, packed}
use Rattle.catalogue_lines.specs.SetLines.{id_of, set_line, set_pieces}
use Rattle.catalogue_lines.specs.KnownForms.{known_line, known_pieces, NextPackage, KnownPart}
use Rattle.catalogue_lines.specs.PartForms.{Line, Series, Count, NextMember, MayJoin, SetPart}
use Rattle.catalogue_lines.specs.Reading.{Each, GoodSet, GoodKnown, IdsApart}
use Rattle.catalogue_lines.proofs.Parts.{IsPart, IsTold, Others, IsOther, line_of, line_part, line_told, both_part, both_told, series_part, series_told, part_when}
use Rattle.catalogue_lines.proofs.PlainLemmas.{id_other, known_other, set_other}

-- ---- one package
package_mono : (before : List Card) (K L : Card → List Piece → Type 0) → ((a : Card) (xs : List Piece) → K a xs → L a xs) → (xs : List Piece) → NextPackage before K xs → NextPackage before L xs
package_mono before K L h [] l = tt
package_mono before K L h (alone x ∷ xs) l = l
package_mono before K L h (packed p ∷ xs) l = (l.0, h p xs l.1)

package_front : (before : List Card) (K : Card → List Piece → Type 0) → ((a : Card) (xs ys : List Piece) → K a (xs ++ ys) → K a xs) → (xs ys : List Piece) → NextPackage before K (xs ++ ys) → NextPackage before K xs
package_front before K h [] ys l = tt
package_front before K h (alone x ∷ xs) ys l = l
package_front before K h (packed p ∷ xs) ys l = (l.0, h p xs ys l.1)

package_others : (before : List Card) (K : Card → List Piece → Type 0) → ((a : Card) (xs : List Piece) → K a xs → Others xs) → (xs : List Piece) → NextPackage before K xs → Others xs
package_others before K h [] l = tt
package_others before K h (alone x ∷ xs) l = absurd l
package_others before K h (packed p ∷ xs) l = h p xs l.1

abbrev pub package_pieces : Card → List Piece
package_pieces p = packed p ∷ []

pub package_part : (before : List Card) → IsPart (NextPackage before) package_pieces (AllLess package_cmp before)
package_part before = record {
  along = λ K p more g k. (g, k);
  mono = package_mono before;
  front = package_front before;
  others = package_others before;
}

pub package_told : (before : List Card) → IsTold (NextPackage before) package_pieces (AllLess package_cmp before)
package_told before K p more g l = l.1

-- ---- fixed lines and counts
abbrev pub Any : Unit {0} → Type 0
Any u = Unit {0}

pub fixed_part : (line : List ℕ) → IsOther line → IsPart (Line {A = Unit {0}} (λ u. line) Any) (λ u. alone line ∷ []) Any
fixed_part line o = line_part (λ u. line) Any (λ u g. o)

pub fixed_told : (line : List ℕ) → IsTold (Line {A = Unit {0}} (λ u. line) Any) (λ u. alone line ∷ []) Any
fixed_told line = line_told (λ u. line) Any (λ a b g h e. refl)

counts_apart : (key : List ℕ) (most m n : ℕ) → most < 2 ^ 64 → m ≤ most → n ≤ most → key ++ decimal m ≡ key ++ decimal n → n ≡ m
counts_apart key most m n b p q e = decimal_injective n m (omega arith) (omega arith) (sym (append_cancel_left key (decimal m) (decimal n) e))

pub count_part : (spelled : ℕ → List ℕ) (most : ℕ) → ((n : ℕ) → IsOther (spelled n)) → IsPart (Count spelled most) (line_of spelled) (λ n. n ≤ most)
count_part spelled most o = line_part spelled (λ n. n ≤ most) (λ n g. o n)

pub count_told : (key : List ℕ) (most : ℕ) → most < 2 ^ 64 → IsTold (Count (λ n. key ++ decimal n) most) (line_of (λ n. key ++ decimal n)) (λ n. n ≤ most)
count_told key most b = line_told (λ n. key ++ decimal n) (λ n. n ≤ most) (λ m n p q e. counts_apart key most m n b p q e)

-- ---- the known packages
abbrev pub KnownSeries : (List Card → List Piece → Type 0) → List Piece → Type 0
KnownSeries = λ K. Count known_line (limit_number Known) (λ n. Series n NextPackage [] K)

abbrev pub GoodOf : {X : Type 0} → (List X → X → Type 0) → ℕ → List X → Type 0
GoodOf Good n xs = (n ≡ length xs) × Each Good [] xs

known_series : (n : ℕ) → IsPart (Series n NextPackage []) (flat_map package_pieces) (GoodOf (AllLess package_cmp) n)
known_series n = series_part NextPackage package_pieces (AllLess package_cmp) package_part n

known_series_told : (n : ℕ) → IsTold (Series n NextPackage []) (flat_map package_pieces) (GoodOf (AllLess package_cmp) n)
known_series_told n = series_told NextPackage package_pieces (AllLess package_cmp) package_part package_told n

pub counted_known : IsPart KnownSeries (λ xs. line_of known_line (length xs) ++ flat_map package_pieces xs) (λ xs. (length xs ≤ limit_number Known) × GoodOf (AllLess package_cmp) (length xs) xs)
counted_known = both_part (Count known_line (limit_number Known)) (λ n. Series n NextPackage []) (line_of known_line) (flat_map package_pieces) (λ n. n ≤ limit_number Known) (GoodOf (AllLess package_cmp)) length
    (count_part known_line (limit_number Known) known_other) known_series

counted_known_told : IsTold KnownSeries (λ xs. line_of known_line (length xs) ++ flat_map package_pieces xs) (λ xs. (length xs ≤ limit_number Known) × GoodOf (AllLess package_cmp) (length xs) xs)
counted_known_told = both_told (Count known_line (limit_number Known)) (λ n. Series n NextPackage []) (line_of known_line) (flat_map package_pieces) (λ n. n ≤ limit_number Known) (GoodOf (AllLess package_cmp)) length
    (count_part known_line (limit_number Known) known_other) known_series (count_told (codes "known ") (limit_number Known) (omega arith)) known_series_told

known_is : (known : List Card) → known_pieces known ≡ alone (codes "aptly root 0") ∷ (line_of known_line (length known) ++ flat_map package_pieces known)
unfolding known_pieces
known_is known = ap (λ l. alone (codes "aptly root 0") ∷ alone (known_line (length known)) ∷ l) (sym (flat_map_single packed known))

abbrev good_known : (known : List Card) → GoodKnown known → Unit {0} × ((length known ≤ limit_number Known) × GoodOf (AllLess package_cmp) (length known) known)
good_known known g = (tt, (g.0, (refl, g.1)))

pub known_part : IsPart KnownPart known_pieces GoodKnown
unfolding KnownPart
known_part = subst (λ (f : List Card → List Piece). IsPart KnownPart f GoodKnown) (λ i known. sym (known_is known) i)
    (part_when KnownPart _ _ GoodKnown good_known
    (both_part (Line {A = Unit {0}} (λ u. codes "aptly root 0") Any) (λ u. KnownSeries) (λ u. alone (codes "aptly root 0") ∷ []) (λ xs. line_of known_line (length xs) ++ flat_map package_pieces xs)
    Any (λ u xs. (length xs ≤ limit_number Known) × GoodOf (AllLess package_cmp) (length xs) xs) (λ xs. tt)
    (fixed_part (codes "aptly root 0") refl) (λ u. counted_known)))

pub known_told : IsTold KnownPart known_pieces GoodKnown
unfolding KnownPart
known_told = subst (λ (f : List Card → List Piece). IsTold KnownPart f GoodKnown) (λ i known. sym (known_is known) i)
    (λ K a more g. both_told (Line {A = Unit {0}} (λ u. codes "aptly root 0") Any) (λ u. KnownSeries) (λ u. alone (codes "aptly root 0") ∷ []) (λ xs. line_of known_line (length xs) ++ flat_map package_pieces xs)
    Any (λ u xs. (length xs ≤ limit_number Known) × GoodOf (AllLess package_cmp) (length xs) xs) (λ xs. tt)
    (fixed_part (codes "aptly root 0") refl) (λ u. counted_known) (fixed_told (codes "aptly root 0")) (λ u. counted_known_told) K a more (good_known a g))

-- ---- a list
abbrev pub member_pieces : Card → List Piece
member_pieces = line_of id_of

module _ (known : List Card) where
  pub member_part : (before : List Card) → IsPart (NextMember known before) member_pieces (MayJoin known before)
  member_part before = line_part id_of (MayJoin known before) (λ p g. id_other p)

  pub member_told : IdsApart known → (before : List Card) → IsTold (NextMember known before) member_pieces (MayJoin known before)
  member_told apart before = line_told id_of (MayJoin known before) (λ p q g h e. apart q p h.known_is g.known_is (sym e))

  set_is : (list : List Card) → set_pieces list ≡ line_of set_line (length list) ++ flat_map member_pieces list
  unfolding set_pieces
  set_is list = ap (λ l. alone (set_line (length list)) ∷ l) (sym (flat_map_single (λ p. alone (id_of p)) list))

  good_set : (list : List Card) → GoodSet known list → (length list ≤ limit_number Packages) × GoodOf (MayJoin known) (length list) list
  good_set list g = (g.0, (refl, g.1))

  pub set_part : IsPart (SetPart known) set_pieces (GoodSet known)
  set_part = subst (λ (f : List Card → List Piece). IsPart (SetPart known) f (GoodSet known)) (λ i list. sym (set_is list) i)
      (part_when (SetPart known) _ _ (GoodSet known) good_set
      (both_part (Count set_line (limit_number Packages)) (λ n. Series n (NextMember known) []) (line_of set_line) (flat_map member_pieces) (λ n. n ≤ limit_number Packages) (GoodOf (MayJoin known)) length
      (count_part set_line (limit_number Packages) set_other) (series_part (NextMember known) member_pieces (MayJoin known) member_part)))

  pub set_told : IdsApart known → IsTold (SetPart known) set_pieces (GoodSet known)
  set_told apart = subst (λ (f : List Card → List Piece). IsTold (SetPart known) f (GoodSet known)) (λ i list. sym (set_is list) i)
      (λ K a more g. both_told (Count set_line (limit_number Packages)) (λ n. Series n (NextMember known) []) (line_of set_line) (flat_map member_pieces) (λ n. n ≤ limit_number Packages) (GoodOf (MayJoin known)) length
      (count_part set_line (limit_number Packages) set_other) (series_part (NextMember known) member_pieces (MayJoin known) member_part)
      (count_told (codes "set ") (limit_number Packages) (omega arith)) (series_told (NextMember known) member_pieces (MayJoin known) member_part (member_told apart)) K a more (good_set a g))
