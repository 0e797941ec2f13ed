-- How far a file was read.
use Rattle.std.specs.Prelude.{◌≡◌, ℕ, ◌≤◌, List, [], length, take, unwrap_or}
use Rattle.ap_host.specs.Disk.{Content}

-- the bytes up to a place, or fewer where the file ends before
abbrev pub IsReadTo : ℕ → Content → List ℕ → Type 0
IsReadTo upto content bytes = bytes ≡ take upto (unwrap_or content [])

-- these are its first bytes
pub record IsReadSoFar (content : Content) (bytes : List ℕ) : Type 0 where
  pub first : bytes ≡ take (length bytes) (unwrap_or content [])
  pub within : length bytes ≤ length (unwrap_or content [])

-- n more were read; none only at the end
abbrev pub ReadsOn : Content → List ℕ → List ℕ → ℕ → Type 0
ReadsOn content before now n =
    IsReadSoFar content before → IsReadSoFar content now × (n ≡ 0 → length (unwrap_or content []) ≤ length before)
