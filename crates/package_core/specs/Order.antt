-- The order of packages, and when two have one name, version and architecture.
use Rattle.std.specs.Prelude.{◌≡◌, ℕ, List, Bool, ◌&&◌, bytes_eq}
use Rattle.std.specs.declared.cmp.Ordering.{Ordering}
use Rattle.std.specs.Ordering.{ordering_then, nat_cmp}
use Rattle.std.specs.Cmp.Lexicographic.{slice_cmp}
use Rattle.control_stanza.specs.Written.{stanza_text}
use Rattle.deb_version.specs.VersionOrder.{version_cmp}
use Rattle.package_core.specs.Card.{Card}

-- by bytes
abbrev pub text_cmp : List ℕ → List ℕ → Ordering
text_cmp = slice_cmp nat_cmp

-- name, architecture, the order of versions, the bytes of the version
unfoldable pub triple_cmp : Card → Card → Ordering
triple_cmp a b =
    ordering_then (text_cmp a.name b.name)
    (ordering_then (text_cmp a.arch b.arch) (ordering_then (version_cmp a.version b.version) (text_cmp a.version b.version)))

-- the stanza's bytes, the file's name, the file's SHA-256
unfoldable pub body_cmp : Card → Card → Ordering
body_cmp a b =
    ordering_then (text_cmp (stanza_text a.stanza) (stanza_text b.stanza))
    (ordering_then (text_cmp a.file b.file) (text_cmp a.said.sha256 b.said.sha256))

-- the order of packages
unfoldable pub package_cmp : Card → Card → Ordering
package_cmp a b = ordering_then (triple_cmp a b) (body_cmp a b)

-- one name, version text and architecture
unfoldable pub same_triple : Card → Card → Bool
same_triple a b = bytes_eq a.name b.name && bytes_eq a.version b.version && bytes_eq a.arch b.arch

-- the name, the version's text and the architecture are one
pub record HasTripleOf (a b : Card) : Type 0 where
  pub name : a.name ≡ b.name
  pub version : a.version ≡ b.version
  pub arch : a.arch ≡ b.arch

-- all that the order looks at is one
pub record IsTwin (a b : Card) : Type 0 where
  pub triple : HasTripleOf a b
  pub stanza : stanza_text a.stanza ≡ stanza_text b.stanza
  pub file : a.file ≡ b.file
  pub sha256 : a.said.sha256 ≡ b.said.sha256
