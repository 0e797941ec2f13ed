-- The names of pool files. A pool file has the name of its SHA-256 (FIPS 180-4).
use Rattle.std.specs.Prelude.{◌≡◌, ℕ, Bool, List, Some, IsTrue, length, codes}
use Rattle.sha2.specs.Sha256.{sha256}
use Rattle.hex.specs.Hex.{IsBytes, encode_lower}
use Rattle.ap_text.specs.Paths.{below_folder, is_below}
use Rattle.ap_host.specs.Disk.{Path, Files, Log, Images, live_of}

abbrev pub folder : Path
folder = codes "pool"

-- the path lies below the folder of the pool
abbrev pub is_pooled : Path → Bool
is_pooled p = is_below folder p

-- the path of the pool file of a digest: `pool/` and the digest in lower case hexadecimal
unfoldable pub pool_name : List ℕ → Path
pool_name digest = below_folder folder (encode_lower digest)

-- it can be a SHA-256
pub record IsDigest (digest : List ℕ) : Type 0 where
  pub bytes : IsBytes digest
  pub size : length digest ≡ 32

-- each file below the folder of the pool is named by its SHA-256
abbrev pub IsNamed : Files → Type 0
IsNamed f = (p : Path) (bytes : List ℕ) → IsTrue (is_pooled p) → f p ≡ Some bytes → p ≡ pool_name (sha256 bytes)

-- and so is each file that a stop may leave, those that reads give among them
abbrev pub Named : Log → Type 0
Named l = Images l IsNamed

-- a SHA-256 can be a name, and names of different digests differ
pub record PoolNames : Type 0 where
  pub digest : (bytes : List ℕ) → IsDigest (sha256 bytes)
  pub below : (digest : List ℕ) → IsTrue (is_pooled (pool_name digest))
  pub one : (a b : List ℕ) → IsDigest a → IsDigest b → pool_name a ≡ pool_name b → a ≡ b
  -- so what is found under a name in a pool that is named has that SHA-256
  pub found : (f : Files) (digest bytes : List ℕ) → IsDigest digest → IsNamed f → f (pool_name digest) ≡ Some bytes → sha256 bytes ≡ digest
  -- what reads give is named too
  pub live : (l : Log) → Named l → IsNamed (live_of l)
