-- The bodies of packages, in the pool.
use Rattle.std.specs.Prelude.{◌≡◌, ◌⊎◌, List, ℕ, Some, IsTrue}
use Rattle.sha2.specs.Sha256.{sha256}
use Rattle.ap_host.specs.Disk.{Path, Content, Files}
use Rattle.digest_set.specs.Facts.{digests_of}
use Rattle.package_core.specs.Card.{Card, said_of}
use Rattle.hash_pool.specs.Names.{is_pooled, pool_name}

-- the package's body, with all that is said of it
pub record IsBodyOf (p : Card) (content : Content) : Type 0 where
  pub bytes : List ℕ
  pub file : content ≡ Some bytes
  pub said : said_of (digests_of bytes) ≡ p.said

-- the pool of these files has the package's body
abbrev pub HasBody : Files → Card → Type 0
HasBody files p = IsBodyOf p (files (pool_name p.said.sha256))

-- the bytes stand in a file of the pool or of the inbox
abbrev pub IsMet : Files → Files → List ℕ → Type 0
IsMet files inbox bytes =
    ((p : Path) × IsTrue (is_pooled p) × (files p ≡ Some bytes)) ⊎ ((p : Path) × (inbox p ≡ Some bytes))

-- no two of them share a SHA-256
abbrev pub DigestsApart : Files → Files → Type 0
DigestsApart files inbox = (a b : List ℕ) → IsMet files inbox a → IsMet files inbox b → sha256 a ≡ sha256 b → a ≡ b
