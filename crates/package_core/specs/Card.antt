-- A package as its card: what its stanza says, and the size and the digests of its file in place of the file's bytes.
use Rattle.std.specs.Prelude.{◌≡◌, ℕ, Bool, true, false, ◌&&◌, List, [], ◌∷◌, ◌++◌, codes, IsTrue, Option, Some, None, is_some, unwrap_or}
use Rattle.std.specs.Option.{option_and_then}
use Rattle.std.specs.Fmt.{decimal}
use Rattle.std.specs.Str.Parse.{digits_value}
use Rattle.hex.specs.Hex.{encode_lower}
use Rattle.ap_text.specs.Names.{is_package_name, is_architecture}
use Rattle.ap_text.specs.Paths.{is_safe_path, segments}
use Rattle.control_stanza.specs.declared.stanza.Field.{Field}
use Rattle.control_stanza.specs.Fields.{is_stanza, value_of}
use Rattle.control_stanza.specs.Written.{stanza_text}
use Rattle.deb_version.specs.VersionText.{is_version}
use Rattle.digest_set.specs.declared.facts.Said.{Said}
use Rattle.digest_set.specs.declared.facts.Digests.{Digests}
use Rattle.package_core.specs.declared.package.Package.{Package}
use Rattle.package_core.specs.SourceParts.{is_source, source_parts}
use Rattle.package_core.specs.Fields.{text_in, is_other, own_fields, without_dots, last_segment, digest}

-- what contracts see of a package
abbrev pub Card : Type 0
Card = Package

-- what a binary stanza says of the package's file
abbrev pub said_in : List Field → Said
said_in fields = record {
  size = digits_value 10 (text_in fields (codes "Size"));
  sha256 = unwrap_or (digest 32 (text_in fields (codes "SHA256"))) [];
  sha1 = option_and_then (digest 20) (value_of fields (codes "SHA1"));
  md5 = option_and_then (digest 16) (value_of fields (codes "MD5sum"));
}

-- the path of the package's file, below the folder that the index speaks of
abbrev pub path_in : List Field → List ℕ
path_in fields = without_dots (text_in fields (codes "Filename"))

-- the package of a binary stanza
unfoldable pub card_of : List Field → Card
card_of fields = record {
  name = text_in fields (codes "Package");
  version = text_in fields (codes "Version");
  arch = text_in fields (codes "Architecture");
  stanza = own_fields fields;
  file = last_segment (path_in fields);
  said = said_in fields;
}

-- The card's fields agree with its stanza, which says nothing of the file; the file's name is a safe path of one segment.
pub record IsPackage (p : Card) : Type 0 where
  pub stanza : is_stanza p.stanza ≡ true
  pub own : own_fields p.stanza ≡ p.stanza
  pub name : value_of p.stanza (codes "Package") ≡ Some p.name
  pub name_is : IsTrue (is_package_name p.name)
  pub version : value_of p.stanza (codes "Version") ≡ Some p.version
  pub version_is : IsTrue (is_version p.version)
  pub arch : value_of p.stanza (codes "Architecture") ≡ Some p.arch
  pub arch_is : IsTrue (is_architecture p.arch)
  pub source : is_other is_source (value_of p.stanza (codes "Source")) ≡ false
  pub file_is : IsTrue (is_safe_path p.file)
  pub one_segment : segments p.file ≡ p.file ∷ []

-- all four facts of the file are known
abbrev pub is_complete : Card → Bool
is_complete p = is_some p.said.sha1 && is_some p.said.md5

abbrev pub said_of : Digests → Said
said_of found = record { size = found.size; sha256 = found.sha256; sha1 = Some found.sha1; md5 = Some found.md5 }

-- the package with the facts that were found of its file
abbrev pub completed : Card → Digests → Card
completed p found = record p { said = said_of found }

abbrev pub source_or_own : Card → Option (List ℕ × Option (List ℕ)) → List ℕ × List ℕ
source_or_own p None = (p.name, p.version)
source_or_own p (Some (name, version)) = (name, unwrap_or version p.version)

-- Name and version of the source: as the field Source says, a version that isn't written being the package's own, and
-- without that field both the package's own (Debian Policy 5.6.1).
unfoldable pub source_of : Card → List ℕ × List ℕ
source_of p = source_or_own p (option_and_then source_parts (value_of p.stanza (codes "Source")))

-- name_version_arch
unfoldable pub triple : Card → List ℕ
triple p = p.name ++ 95 ∷ (p.version ++ 95 ∷ p.arch)

-- a field on one line
abbrev pub line : List ℕ → List ℕ → List ℕ
line name value = name ++ 58 ∷ 32 ∷ (value ++ 10 ∷ [])

-- What is known of a file at a path. Where a digest is missing its line is without digits.
unfoldable pub file_text : List ℕ → Said → List ℕ
file_text path said =
    line (codes "Filename") path ++ line (codes "Size") (decimal said.size)
    ++ line (codes "MD5sum") (encode_lower (unwrap_or said.md5 []))
    ++ line (codes "SHA1") (encode_lower (unwrap_or said.sha1 []))
    ++ line (codes "SHA256") (encode_lower said.sha256)

-- The text of a complete package: its stanza, then what is known of its file, by its name.
unfoldable pub package_text : Card → List ℕ
package_text p = stanza_text p.stanza ++ file_text p.file p.said
