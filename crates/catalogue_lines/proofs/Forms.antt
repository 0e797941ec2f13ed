-- A part of a root with the pieces that are written for it: both of what stands there, and of what is read of it.
use Rattle.std.proofs.Common.{◌≡◌, ℕ, zero, suc, ◌<◌, ◌≤◌, ◌^◌, List, [], ◌∷◌, ◌++◌, length, refl, subst, arith, append_assoc}
use Rattle.std.specs.List.{flat_map}
use Rattle.std.specs.Fmt.{decimal}
use Rattle.catalogue_lines.specs.Lines.{IsLine}
use Rattle.catalogue_lines.specs.Pieces.{Piece, alone, Takes}
use Rattle.catalogue_lines.specs.PartForms.{Line, Series, Count}
use Rattle.catalogue_lines.specs.Reading.{NoLine, ReadsLine, Stops, Never, Always, Each}
use Rattle.catalogue_lines.proofs.Parts.{IsPart, IsTold, IsOther, line_of, line_mono, line_part, line_told, both_part, both_told, as_part, as_told, part_when, series_part, series_told, stops_line, stops_series, takes_both}
use Rattle.catalogue_lines.proofs.KnownParts.{GoodOf, count_told}

-- a part that goes on behind its pieces, which tell its value where ids are apart
pub record IsForm {A : Type 0} (Apart : Type 0) (Part : (A → List Piece → Type 0) → List Piece → Type 0) (pieces : A → List Piece) (Good : A → Type 0) : Type 1 where
  pub part : IsPart Part pieces Good
  pub told : Apart → IsTold Part pieces Good

module _ {Apart : Type 0} where
  pub form_line : {A : Type 0} (spelled : A → List ℕ) (Good : A → Type 0) → ((a : A) → Good a → IsOther (spelled a)) → (Apart → (a b : A) → Good a → Good b → spelled a ≡ spelled b → b ≡ a) → IsForm Apart (Line spelled Good) (line_of spelled) Good
  form_line spelled Good other apart = record { part = line_part spelled Good other; told = λ h. line_told spelled Good (apart h) }

  pub form_count : (key : List ℕ) (most : ℕ) → most < 2 ^ 64 → ((n : ℕ) → IsOther (key ++ decimal n)) → IsForm Apart (Count (λ n. key ++ decimal n) most) (line_of (λ n. key ++ decimal n)) (λ n. n ≤ most)
  form_count key most bound other = record { part = line_part (λ n. key ++ decimal n) (λ n. n ≤ most) (λ n g. other n); told = λ h. count_told key most bound }

  module _ {A B : Type 0} {F : (A → List Piece → Type 0) → List Piece → Type 0} {first : A → List Piece} {GoodF : A → Type 0} (f : IsForm Apart F first GoodF) where
    pub form_both : {G : A → (B → List Piece → Type 0) → List Piece → Type 0} {then : B → List Piece} {GoodG : A → B → Type 0} (of : B → A) → ((a : A) → IsForm Apart (G a) then (GoodG a))
        → IsForm Apart (λ K. F (λ a. G a K)) (λ b. first (of b) ++ then b) (λ b. GoodF (of b) × GoodG (of b) b)
    form_both {G} {then} {GoodG} of g = record {
      part = both_part F G first then GoodF GoodG of f.part (λ a. (g a).part);
      told = λ h. both_told F G first then GoodF GoodG of f.part (λ a. (g a).part) (f.told h) (λ a. (g a).told h);
    }

    pub form_as : (to : A → B) (of : B → A) → IsForm Apart (λ K. F (λ a. K (to a))) (λ b. first (of b)) (λ b. GoodF (of b) × (to (of b) ≡ b))
    form_as to of = record { part = as_part F first GoodF to of f.part; told = λ h. as_told F first GoodF to of f.part (f.told h) }

    -- the first part stops
    pub stops_in : (G : A → (B → List Piece → Type 0) → List Piece → Type 0) (text : List ℕ) (left : ℕ) → Stops F text left → Stops (λ K. F (λ a. G a K)) text left
    stops_in G text left s = record {
      good = s.good;
      rest = s.rest;
      takes = s.takes;
      left_is = s.left_is;
      stand = f.part.mono Never (λ a. G a Never) (λ a xs n. absurd n) s.good s.stand;
      bad = λ next behind t p. s.bad next behind t (f.part.mono (λ a. G a Always) Always (λ a xs n. tt) (s.good ++ next ∷ []) p);
    }

    -- the part behind it stops
    pub stops_past : (G : A → (B → List Piece → Type 0) → List Piece → Type 0) → Apart → (text rest : List ℕ) (left : ℕ) (a : A) → GoodF a → Takes text (first a) rest → Stops (G a) rest left → Stops (λ K. F (λ a. G a K)) text left
    stops_past G apart text rest left a good t s = record {
      good = first a ++ s.good;
      rest = s.rest;
      takes = takes_both text rest s.rest (first a) s.good t s.takes;
      left_is = s.left_is;
      stand = f.part.along (λ a. G a Never) a s.good good s.stand;
      bad = λ next behind u p. s.bad next behind u (f.told apart (λ a. G a Always) a (s.good ++ next ∷ []) good (subst (F (λ a. G a Always)) (append_assoc (first a) s.good (next ∷ [])) p));
    }

    -- a part that is read as another stops where it does
    pub stops_to : (to : A → B) (text : List ℕ) (left : ℕ) → Stops F text left → Stops (λ K. F (λ a. K (to a))) text left
    stops_to to text left s = record { good = s.good; rest = s.rest; takes = s.takes; left_is = s.left_is; stand = s.stand; bad = s.bad }

  pub form_when : {A : Type 0} {F : (A → List Piece → Type 0) → List Piece → Type 0} {pieces : A → List Piece} {Good : A → Type 0} (Also : A → Type 0) → ((a : A) → Also a → Good a) → IsForm Apart F pieces Good → IsForm Apart F pieces Also
  form_when {A} {F} {pieces} {Good} Also w f = record { part = part_when F pieces Good Also w f.part; told = λ h K a more g p. f.told h K a more (w a g) p }

  module _ {X : Type 0} {One : List X → (X → List Piece → Type 0) → List Piece → Type 0} {pieces : X → List Piece} {Good : List X → X → Type 0} (one : (done : List X) → IsForm Apart (One done) pieces (Good done)) where
    pub form_series : (n : ℕ) → IsForm Apart (Series n One []) (flat_map pieces) (GoodOf Good n)
    form_series n = record { part = series_part One pieces Good (λ done. (one done).part) n; told = λ h. series_told One pieces Good (λ done. (one done).part) (λ done. (one done).told h) n }

    -- one of the series stops behind those before it
    pub stops_each : Apart → (count : ℕ) (text rest : List ℕ) (xs : List X) (left : ℕ) → length xs < count → Each Good [] xs → Takes text (flat_map pieces xs) rest → Stops (One xs) rest left → Stops (Series count One []) text left
    stops_each h count text rest xs left few g t s = stops_series One pieces Good (λ done. (one done).part) (λ done. (one done).told h) count text rest xs left few g t s

    fewer : (a b : ℕ) (done : List X) → a ≤ b → (xs : List Piece) → Series a One done Never xs → Series b One done Never xs
    fewer zero b done le xs p = absurd p
    fewer (suc a) zero done le xs p = absurd (omega arith)
    fewer (suc a) (suc b) done le xs p = (one done).part.mono (λ x. Series a One (done ++ x ∷ []) Never) (λ x. Series b One (done ++ x ∷ []) Never) (λ x ys q. fewer a b (done ++ x ∷ []) (omega arith) ys q) xs p

    more : (a b : ℕ) (done : List X) → a ≤ b → (xs : List Piece) → Series b One done Always xs → Series a One done Always xs
    more zero b done le xs p = tt
    more (suc a) zero done le xs p = absurd (omega arith)
    more (suc a) (suc b) done le xs p = (one done).part.mono (λ x. Series b One (done ++ x ∷ []) Always) (λ x. Series a One (done ++ x ∷ []) Always) (λ x ys q. more a b (done ++ x ∷ []) (omega arith) ys q) xs p

    -- where a series stops, a longer one stops too
    pub stops_longer : (a b : ℕ) (text : List ℕ) (left : ℕ) → a ≤ b → Stops (Series a One []) text left → Stops (Series b One []) text left
    stops_longer a b text left le s = record {
      good = s.good;
      rest = s.rest;
      takes = s.takes;
      left_is = s.left_is;
      stand = fewer a b [] le s.good s.stand;
      bad = λ next behind t p. s.bad next behind t (more a b [] le (s.good ++ next ∷ []) p);
    }

-- no line of the text is a good one
pub stops_at_line : {A : Type 0} (spelled : A → List ℕ) (Good : A → Type 0) (text : List ℕ) → NoLine spelled Good text → Stops (Line spelled Good) text (length text)
stops_at_line spelled Good text none = stops_line spelled Good text none

-- ---- a line, and what stands behind it
module _ {Apart : Type 0} {A B : Type 0} {spelled : A → List ℕ} {Good : A → Type 0} (f : IsForm Apart (Line spelled Good) (line_of spelled) Good) (G : A → (B → List Piece → Type 0) → List Piece → Type 0) where
  pub at_line : (text : List ℕ) → NoLine spelled Good text → Stops (λ K. Line spelled Good (λ a. G a K)) text (length text)
  at_line text none = stops_in f G text (length text) (stops_line spelled Good text none)

  pub past_line : Apart → (text rest : List ℕ) (left : ℕ) (a : A) → ReadsLine spelled Good text a rest → Stops (G a) rest left → Stops (λ K. Line spelled Good (λ a. G a K)) text left
  past_line apart text rest left a r s = stops_past f G apart text rest left a r.0 (rest, r.1, refl) s

-- the same of a number behind any key
module _ {B : Type 0} (key : List ℕ) (most : ℕ) (bound : most < 2 ^ 64) (G : ℕ → (B → List Piece → Type 0) → List Piece → Type 0) where
  abbrev counted : ℕ → List ℕ
  counted n = key ++ decimal n

  abbrev IsFew : ℕ → Type 0
  IsFew n = n ≤ most

  pub at_number : (text : List ℕ) → NoLine counted IsFew text → Stops (λ K. Line counted IsFew (λ n. G n K)) text (length text)
  at_number text none = of (stops_line counted IsFew text none)
    where
      of : Stops (Line counted IsFew) text (length text) → Stops (λ K. Line counted IsFew (λ n. G n K)) text (length text)
      of s = record {
        good = s.good;
        rest = s.rest;
        takes = s.takes;
        left_is = s.left_is;
        stand = line_mono counted IsFew Never (λ n. G n Never) (λ n xs z. absurd z) s.good s.stand;
        bad = λ next behind t p. s.bad next behind t (line_mono counted IsFew (λ n. G n Always) Always (λ n xs z. tt) (s.good ++ next ∷ []) p);
      }

  pub past_number : (text rest : List ℕ) (left n : ℕ) → IsFew n → IsLine text (counted n) rest → Stops (G n) rest left → Stops (λ K. Line counted IsFew (λ n. G n K)) text left
  past_number text rest left n few l s = record {
    good = alone (counted n) ∷ s.good;
    rest = s.rest;
    takes = (rest, l, s.takes);
    left_is = s.left_is;
    stand = (n, few, refl, s.stand);
    bad = λ next behind u p. s.bad next behind u (count_told key most bound (λ n. G n Always) n (s.good ++ next ∷ []) few p);
  }
