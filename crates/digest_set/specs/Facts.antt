-- The size of a byte list, and its digests by MD5 (RFC 1321), SHA-1 and SHA-256 (FIPS 180-4).
use Rattle.std.specs.Prelude.{◌≡◌, ℕ, List, length}
use Rattle.sha2.specs.Hashers.{Holds256}
use Rattle.sha2.specs.Sha256.{sha256}
use Rattle.sha1.specs.Sha1.{sha1}
use Rattle.sha1.specs.Sha1 as s1
use Rattle.md5.specs.Md5.{md5}
use Rattle.md5.specs.Md5 as m5
use Rattle.digest_set.specs.declared.hasher.Hashing.{Hashing}
use Rattle.digest_set.specs.declared.facts.Digests.{Digests}

-- how many bytes a hashing has taken in
unfoldable pub size_of : Hashing → ℕ
size_of h = h.size

-- the hashing has taken in these bytes
pub record Holds (h : Hashing) (bytes : List ℕ) : Type 0 where
  pub size : h.size ≡ length bytes
  pub md5 : m5.Holds h.md5 bytes
  pub sha1 : s1.Holds h.sha1 bytes
  pub sha256 : Holds256 h.sha256 bytes

-- the four facts of a byte list
abbrev pub digests_of : List ℕ → Digests
digests_of bytes = record { size = length bytes; md5 = md5 bytes; sha1 = sha1 bytes; sha256 = sha256 bytes }
