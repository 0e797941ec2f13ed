-- Why a stanza is no binary stanza.
use Rattle.std.specs.Prelude.{◌≡◌, ℕ, Bool, ◌||◌, List, [], ◌∷◌, codes, Option, Some, None, is_none, if◌then◌else◌}
use Rattle.std.specs.List.{find}
use Rattle.std.specs.Option.{option_map, option_or}
use Rattle.control_stanza.specs.declared.stanza.Field.{Field}
use Rattle.control_stanza.specs.Fields.{value_of}
use Rattle.ap_text.specs.Decimals.{is_number}
use Rattle.ap_text.specs.Names.{is_package_name, is_architecture}
use Rattle.deb_version.specs.VersionText.{is_version}
use Rattle.package_core.specs.declared.fault.Required.{Required}
use Rattle.package_core.specs.declared.fault.Required.TheVariants.{NameField, VersionField, ArchitectureField, FilenameField, SizeField, Sha256Field}
use Rattle.package_core.specs.declared.fault.PackageFault.{PackageFault}
use Rattle.package_core.specs.declared.fault.PackageFault.TheVariants.{Missing, BadName, BadVersion, BadArchitecture, BadSource, BadPath, BadNumber, BadDigest, OutOfMemory}
use Rattle.package_core.specs.SourceParts.{is_source}
use Rattle.package_core.specs.Fields.{is_other, without_dots, is_file_path, is_digest}

-- what a required field is called
abbrev pub field_name : Required → List ℕ
field_name NameField = codes "Package"
field_name VersionField = codes "Version"
field_name ArchitectureField = codes "Architecture"
field_name FilenameField = codes "Filename"
field_name SizeField = codes "Size"
field_name Sha256Field = codes "SHA256"

-- the required fields in their order
abbrev pub required : List Required
required = NameField ∷ VersionField ∷ ArchitectureField ∷ FilenameField ∷ SizeField ∷ Sha256Field ∷ []

-- the first required field that isn't there
abbrev pub first_missing : List Field → Option Required
first_missing fields = find (λ r. is_none (value_of fields (field_name r))) required

abbrev pub has_other_digest : List Field → Bool
has_other_digest fields =
    is_other (is_digest 32) (value_of fields (codes "SHA256")) || is_other (is_digest 20) (value_of fields (codes "SHA1"))
    || is_other (is_digest 16) (value_of fields (codes "MD5sum"))

-- the first of the fields of the package itself that is there and isn't what it should be
unfoldable pub bad_identity : List Field → Option PackageFault
bad_identity fields =
    if is_other is_package_name (value_of fields (codes "Package")) then Some BadName
    else if is_other is_version (value_of fields (codes "Version")) then Some BadVersion
    else if is_other is_architecture (value_of fields (codes "Architecture")) then Some BadArchitecture
    else if is_other is_source (value_of fields (codes "Source")) then Some BadSource
    else None

unfoldable pub bad_path : List Field → Option PackageFault
bad_path fields = if is_other (λ text. is_file_path (without_dots text)) (value_of fields (codes "Filename")) then Some BadPath else None

-- the first of the facts of the file that is there and isn't what it should be
unfoldable pub bad_said : List Field → Option PackageFault
bad_said fields =
    if is_other is_number (value_of fields (codes "Size")) then Some BadNumber
    else if has_other_digest fields then Some BadDigest
    else None

-- what keeps a stanza from being a binary stanza: the first fault in their order
unfoldable pub fault_of : List Field → Option PackageFault
fault_of fields = option_or (option_map Missing (first_missing fields)) (option_or (bad_identity fields) (option_or (bad_path fields) (bad_said fields)))

-- the error is this fault; want of memory is nobody's
abbrev pub FaultIs : Option PackageFault → PackageFault → Type 0
FaultIs fault OutOfMemory = Unit {0}
FaultIs fault e = fault ≡ Some e
