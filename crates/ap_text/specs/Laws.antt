-- What crates above use of names and safe paths.
use Rattle.std.specs.Prelude.{◌≡◌, ◌≤◌, ◌<◌, ◌^◌, ◌++◌, ℕ, List, [], ◌∷◌, length, take, IsTrue}
use Rattle.std.specs.Fmt.{decimal}
use Rattle.ap_text.specs.Names.{is_name}
use Rattle.ap_text.specs.Paths.{is_safe_path, segments, below_folder, is_below}

pub record NamesArePaths : Type 0 where
  pub safe : (text : List ℕ) → IsTrue (is_name text) → IsTrue (is_safe_path text)
  pub one_segment : (text : List ℕ) → IsTrue (is_name text) → segments text ≡ text ∷ []

pub record JoinedPaths : Type 0 where
  pub safe : (folder rest : List ℕ) → IsTrue (is_safe_path folder) → IsTrue (is_safe_path rest) → length (below_folder folder rest) ≤ 1000 → IsTrue (is_safe_path (below_folder folder rest))
  pub below : (folder rest : List ℕ) → IsTrue (is_below folder (below_folder folder rest))
  pub each_segment : (folder rest : List ℕ) → segments (below_folder folder rest) ≡ segments folder ++ segments rest

-- the number's digits stand in names and paths
abbrev pub DecimalsAreNames : Type 0
DecimalsAreNames = (n : ℕ) → n < 2 ^ 64 → IsTrue (is_name (decimal n)) × (length (decimal n) ≤ 20)

-- some bytes from the front of a name are a name
abbrev pub FrontsOfNames : Type 0
FrontsOfNames = (text : List ℕ) → IsTrue (is_name text) → (n : ℕ) → 0 < n → IsTrue (is_name (take n text))
