-- What a Release says of an archive (the Debian repository format; Debian Policy 5.1).
use Rattle.std.specs.Prelude.{◌≡◌, ◌<◌, ◌^◌, ◌⊎◌, ℕ, Bool, true, not, ◌&&◌, ◌==◌, nat_le, List, [], ◌∷◌, length, map, filter, codes, bytes_eq, IsTrue, Some, Result, Ok, Err}
use Rattle.std.specs.List.{list_all, list_any}
use Rattle.std.specs.Fmt.{decimal}
use Rattle.std.specs.Ordering.{nat_cmp}
use Rattle.std.specs.Cmp.Lexicographic.{slice_cmp}
use Rattle.ap_text.specs.Names.{is_architecture, is_component}
use Rattle.control_stanza.specs.declared.read.TheConstants.{MOST_STANZA_BYTES}
use Rattle.control_stanza.specs.declared.fault.StanzaKind.{StanzaKind}
use Rattle.control_stanza.specs.declared.fault.StanzaFault.{StanzaFault}
use Rattle.control_stanza.specs.declared.fault.StanzaFault.TheVariants as lines
use Rattle.control_stanza.specs.declared.stanza.Field.{Field}
use Rattle.control_stanza.specs.Lines.{lines_of}
use Rattle.control_stanza.specs.Fields.{value_of, value_lines}
use Rattle.control_stanza.specs.Faults.{IsFirstFault}
use Rattle.package_core.specs.Fields.{digest, is_file_path, last_segment, text_in}
use Rattle.package_list.specs.Sorted.{IsAscending}
use Rattle.index_text.specs.Index.{IsMadeOf}
use Rattle.release_file.specs.declared.listing.Listed.{Listed}
use Rattle.release_file.specs.declared.fault.ReleaseFault.{ReleaseFault}
use Rattle.release_file.specs.declared.fault.ReleaseFault.TheVariants.{At, OutOfMemory}
use Rattle.release_file.specs.Words.{words, has_word}

-- what contracts see of a Release
pub record ReleaseView : Type 0 where
  pub date : List ℕ
  pub components : List (List ℕ)
  pub architectures : List (List ℕ)
  pub files : List Listed

-- ---- the files

-- a digest of 64 hexadecimal digits of either case, a size and a safe path of at most 700 bytes say this file
pub record IsFile (digits size path : List ℕ) (file : Listed) : Type 0 where
  pub sha256 : digest 32 digits ≡ Some file.sha256
  pub small : file.size < 2 ^ 64
  pub size_is : size ≡ decimal file.size
  pub path_is : path ≡ file.path
  pub safe : is_file_path file.path ≡ true

-- the words of the line are a digest, a size and a path, and say this file
pub record IsListing (line : List ℕ) (file : Listed) : Type 0 where
  pub digits : List ℕ
  pub size : List ℕ
  pub path : List ℕ
  pub words_are : words line ≡ digits ∷ size ∷ path ∷ []
  pub is : IsFile digits size path file

-- the lines list these files, one each
abbrev pub AreListings : List (List ℕ) → List Listed → Type 0
AreListings [] [] = Unit {0}
AreListings (line ∷ lines) (file ∷ files) = IsListing line file × AreListings lines files
AreListings [] (file ∷ files) = ⊥
AreListings (line ∷ lines) [] = ⊥

-- those of the lines that aren't blank list these files, one each
abbrev pub LinesList : List (List ℕ) → List Listed → Type 0
LinesList lines files = AreListings (filter has_word lines) files

abbrev pub path_of : Listed → List ℕ
path_of file = file.path

-- none twice
abbrev pub are_different : List (List ℕ) → Bool
are_different [] = true
are_different (text ∷ texts) = not (list_any (bytes_eq text) texts) && are_different texts

-- the lines of the value that aren't blank list these files, and no path stands twice
pub record Lists (value : List ℕ) (files : List Listed) : Type 0 where
  pub each : LinesList (value_lines value) files
  pub once : are_different (map path_of files) ≡ true

-- the field SHA256 is there, and lists these files
pub record ListsIn (fields : List Field) (files : List Listed) : Type 0 where
  pub value : List ℕ
  pub there : value_of fields (codes "SHA256") ≡ Some value
  pub lists : Lists value files

-- ---- the names

-- a word of Architectures that isn't skipped
abbrev pub is_wanted : List ℕ → Bool
is_wanted word = not (bytes_eq word (codes "all")) && not (bytes_eq word (codes "source"))

-- one of the texts is this
abbrev pub has_text : List (List ℕ) → List ℕ → Bool
has_text texts text = list_any (λ t. bytes_eq t text) texts

-- the words are all such, and these are the words in the order of their bytes, each once
pub record AreNamesOf (is : List ℕ → Bool) (words names : List (List ℕ)) : Type 0 where
  pub good : list_all is words ≡ true
  pub sorted : IsAscending (slice_cmp nat_cmp) names
  pub same : (text : List ℕ) → has_text names text ≡ has_text words text

-- what the field Components names: of each word what follows its last slash
abbrev pub component_words : List ℕ → List (List ℕ)
component_words text = map last_segment (words text)

-- what the field Architectures names: its words, but for those that are skipped
abbrev pub architecture_words : List ℕ → List (List ℕ)
architecture_words text = filter is_wanted (words text)

-- ---- the whole

-- one line of at most 200 bytes
abbrev pub is_date : List ℕ → Bool
is_date text = nat_le (length text) 200 && list_all (λ b. not (b == 10)) text

-- The fields of a stanza are those of a Release, and say this. A field but SHA256 that isn't there is as an empty one.
pub record Says (fields : List Field) (release : ReleaseView) : Type 0 where
  pub files : ListsIn fields release.files
  pub components : AreNamesOf is_component (component_words (text_in fields (codes "Components"))) release.components
  pub architectures : AreNamesOf is_architecture (architecture_words (text_in fields (codes "Architectures"))) release.architectures
  pub date_is : is_date (text_in fields (codes "Date")) ≡ true
  pub date : release.date ≡ text_in fields (codes "Date")

-- there is one stanza, whose fields say this
pub record IsAlone (stanzas : List (ℕ × List Field)) (release : ReleaseView) : Type 0 where
  pub stanza : ℕ × List Field
  pub alone : stanzas ≡ stanza ∷ []
  pub says : Says stanza.1 release

-- the text is made of one stanza, whose fields say this
pub record IsRelease (text : List ℕ) (release : ReleaseView) : Type 0 where
  pub stanzas : List (ℕ × List Field)
  pub made_of : IsMadeOf text stanzas
  pub alone : IsAlone stanzas release

-- ---- the line of a fault

-- The line is the first that can't stand where it stands in any text of stanzas; or the text is made of stanzas, they are
-- none of a Release, and the line is 1.
abbrev pub IsAt : List ℕ → ℕ → Type 0
IsAt text line =
    ((kind : StanzaKind) × IsFirstFault (Some MOST_STANZA_BYTES) (lines_of text) (record { line = line; kind = kind }))
    ⊎ ((stanzas : List (ℕ × List Field)) × IsMadeOf text stanzas × ((release : ReleaseView) → IsAlone stanzas release → ⊥) × (line ≡ 1))

-- a fault in the lines of a text, as a fault of the Release
abbrev pub of_lines : StanzaFault → ReleaseFault
of_lines (lines.At line kind) = At line
of_lines lines.OutOfMemory = OutOfMemory

-- what an error says of the text; want of memory says nothing
abbrev pub IsFaultOf : List ℕ → ReleaseFault → Type 0
IsFaultOf text (At line) = IsAt text line
IsFaultOf text OutOfMemory = Unit {0}

-- the call tells this line, unless memory runs out
abbrev pub IsAtOf : {X : Type 0} → ℕ → Result X ReleaseFault → Type 0
IsAtOf line (Ok x) = ⊥
IsAtOf line (Err (At told)) = told ≡ line
IsAtOf line (Err OutOfMemory) = Unit {0}
