-- How a text is spelled by its parts, and a part by its cuts.
use Rattle.std.specs.Prelude.{◌≢◌, ℕ, List, [], ◌∷◌, ◌++◌, Option, Some, None, EachIndex, slice_index, IsTrue}
use Rattle.std.specs.List.{list_all, flat_map}
use Rattle.deb_version.specs.Cuts.{Cut, is_digit, is_non_digit}

-- an epoch that is written, with its colon
abbrev pub with_colon : Option (List ℕ) → List ℕ
with_colon None = []
with_colon (Some epoch) = epoch ++ 58 ∷ []

-- a revision that is written, with its hyphen
abbrev pub with_hyphen : Option (List ℕ) → List ℕ
with_hyphen None = []
with_hyphen (Some revision) = 45 ∷ revision

-- [epoch:]upstream[-revision]
abbrev pub spelled : Option (List ℕ) → List ℕ → Option (List ℕ) → List ℕ
spelled epoch upstream revision = with_colon epoch ++ (upstream ++ with_hyphen revision)

-- the byte stands nowhere in the text
abbrev pub Lacks : ℕ → List ℕ → Type 0
Lacks c text = EachIndex text (λ k. slice_index text k ≢ c)

-- no colon stands in an epoch, or else in the whole text
abbrev pub HasNoEarlierColon : List ℕ → Option (List ℕ) → Type 0
HasNoEarlierColon text None = Lacks 58 text
HasNoEarlierColon text (Some epoch) = Lacks 58 epoch

-- no hyphen stands in a revision, or else in the whole upstream version
abbrev pub HasNoLaterHyphen : List ℕ → Option (List ℕ) → Type 0
HasNoLaterHyphen upstream None = Lacks 45 upstream
HasNoLaterHyphen upstream (Some revision) = Lacks 45 revision

-- the cuts, one after another
abbrev pub joined : List Cut → List ℕ
joined cuts = flat_map (λ (p : Cut). p.run ++ p.digits) cuts

-- non-digits, and digits behind them
pub record IsCut (p : Cut) : Type 0 where
  pub run : IsTrue (list_all is_non_digit p.run)
  pub digits : IsTrue (list_all is_digit p.digits)

-- Runs of the two kinds take turns: only the first may lack non-digits, only the last may lack digits.
abbrev pub TakesTurns : List Cut → Type 0
TakesTurns [] = Unit {0}
TakesTurns (p ∷ []) = IsCut p
TakesTurns (p ∷ q ∷ ps) = IsCut p × (p.digits ≢ []) × (q.run ≢ []) × TakesTurns (q ∷ ps)
