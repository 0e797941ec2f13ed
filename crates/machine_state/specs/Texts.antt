-- What the texts of a state have to be.
use Rattle.std.specs.Prelude.{◌≡◌, ◌≢◌, ◌≤◌, ◌⊎◌, ℕ, ◌-◌, Bool, not, ◌&&◌, ◌||◌, ◌==◌, nat_le, List, [], length, slice_index, codes, IsTrue, All}
use Rattle.std.specs.List.{list_all}
use Rattle.std.specs.Str.{IsUtf8, is_utf8, bytes_eq}
use Rattle.std.specs.Ordering.{nat_cmp}
use Rattle.std.specs.Cmp.Lexicographic.{slice_cmp}
use Rattle.ap_text.specs.Names.{is_architecture}
use Rattle.ap_text.specs.Paths.{is_safe_path, segments}
use Rattle.query_tree.specs.Grammar.{QueryText}
use Rattle.query_tree.specs.Tree.{Tree}
use Rattle.machine_state.specs.Ascending.{IsAscending}

-- a byte of a line of text: neither a control character nor DEL
abbrev pub is_line_byte : ℕ → Bool
is_line_byte b = nat_le 32 b && not (b == 127)

-- at most 200 such bytes, with no blank at either end
abbrev pub is_line : List ℕ → Bool
is_line text = nat_le (length text) 200 && list_all is_line_byte text && not (slice_index text 0 == 32) && not (slice_index text (length text - 1) == 32)

-- a line of text
pub record IsLineText (text : List ℕ) : Type 0 where
  pub line : IsTrue (is_line text)
  pub utf8 : IsUtf8 text

-- the same as a test
abbrev pub is_line_text : List ℕ → Bool
is_line_text text = is_line text && is_utf8 text

-- a line of text that isn't empty, or else this default
abbrev pub IsTitle : List ℕ → List ℕ → Type 0
IsTitle default text = (text ≡ default) ⊎ (IsLineText text × (text ≢ []))

-- one line of at most 200 bytes, as an archive states its date
pub record IsDate (text : List ℕ) : Type 0 where
  pub short : length text ≤ 200
  pub line : IsTrue (list_all (λ b. not (b == 10)) text)
  pub utf8 : IsUtf8 text

-- an architecture that a mirror or a publication may list: `all` may not be
abbrev pub is_listed : List ℕ → Bool
is_listed name = is_architecture name && not (bytes_eq name (codes "all"))

-- such names, in the order of their bytes, none twice
pub record AreNames (is : List ℕ → Bool) (names : List (List ℕ)) : Type 0 where
  pub each : All (λ name. IsTrue (is name)) names
  pub sorted : IsAscending (slice_cmp nat_cmp) names

-- a safe path of at most so many bytes
abbrev pub is_path : ℕ → List ℕ → Bool
is_path most text = is_safe_path text && nat_le (length text) most

-- a folder that published files keep for themselves
abbrev pub is_kept : List ℕ → Bool
is_kept segment = bytes_eq segment (codes "dists") || bytes_eq segment (codes "pool") || bytes_eq segment (codes "endpoint")

-- a path that publications may stand below
abbrev pub is_prefix : List ℕ → Bool
is_prefix text = is_path 100 text && list_all (λ segment. not (is_kept segment)) (segments text)

-- a tree that some text of at most 64 levels spells
abbrev pub IsFilter : Tree → Type 0
IsFilter tree = (text : List ℕ) × IsUtf8 text × QueryText 64 text tree
