-- Packages all of whose facts are known, and their texts.
use Rattle.std.specs.Prelude.{◌≡◌, ℕ, ◌<◌, ◌^◌, true, List, [], ◌∷◌, ◌++◌, codes, length, unwrap_or, IfSome}
use Rattle.std.specs.Fmt.{decimal}
use Rattle.hex.specs.Hex.{IsBytes, encode_lower}
use Rattle.control_stanza.specs.declared.stanza.Field.{Field}
use Rattle.digest_set.specs.declared.facts.Said.{Said}
use Rattle.package_core.specs.Card.{Card, IsPackage, is_complete, package_text}

-- so many bytes
pub record IsDigest (size : ℕ) (bytes : List ℕ) : Type 0 where
  pub size_is : length bytes ≡ size
  pub bytes_are : IsBytes bytes

-- a size below 2^64, and of each digest that is said as many bytes as it has (FIPS 180-4, RFC 1321)
pub record IsSaid (said : Said) : Type 0 where
  pub size : said.size < 2 ^ 64
  pub sha256 : IsDigest 32 said.sha256
  pub sha1 : IfSome said.sha1 (IsDigest 20)
  pub md5 : IfSome said.md5 (IsDigest 16)

-- A package such as a binary stanza describes, of whose file all four facts are known.
pub record IsWhole (p : Card) : Type 0 where
  pub described : IsPackage p
  pub said : IsSaid p.said
  pub complete : is_complete p ≡ true

-- the bytes are the text of this package
pub record IsTextOf (bytes : List ℕ) (p : Card) : Type 0 where
  pub whole : IsWhole p
  pub text : package_text p ≡ bytes

-- a field with its value
abbrev pub field : List ℕ → List ℕ → Field
field name value = record { name = name; value = value }

-- what is known of a file at a path, as fields
unfoldable pub file_fields : List ℕ → Said → List Field
file_fields path said =
    field (codes "Filename") path ∷ field (codes "Size") (decimal said.size)
    ∷ field (codes "MD5sum") (encode_lower (unwrap_or said.md5 []))
    ∷ field (codes "SHA1") (encode_lower (unwrap_or said.sha1 []))
    ∷ field (codes "SHA256") (encode_lower said.sha256)
    ∷ []

-- the package's stanza, and behind it what is known of its file at a path
abbrev pub fields_at : List ℕ → Card → List Field
fields_at path p = p.stanza ++ file_fields path p.said
