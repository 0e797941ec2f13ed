-- The words and the parts of the lines that are said, as bytes.
use Rattle.std.specs.Prelude.{ℕ, ◌&&◌, nat_le, List, [], ◌∷◌, ◌++◌, map, take, codes, encode_utf8_all, if◌then◌else◌}
use Rattle.std.specs.Str.{chars}
use Rattle.digest_set.specs.declared.facts.What.{What}
use Rattle.digest_set.specs.declared.facts.What.TheVariants as facts
use Rattle.machine_state.specs.declared.limit.Limit.{Limit}
use Rattle.machine_state.specs.declared.limit.Limit.TheVariants as limits
pub use Rattle.machine_state.specs.Words.{blank_and, names_behind, yes_or_no, kind_word, filter_text, prefix_word, place_text}

-- a line: its text, and the line end
unfoldable pub line : List ℕ → List ℕ
line text = text ++ 10 ∷ []

-- what a limit counts
abbrev pub limit_word : Limit → List ℕ
limit_word limits.Mirrors = codes "mirrors"
limit_word limits.Repos = codes "repos"
limit_word limits.Snapshots = codes "snapshots"
limit_word limits.Publications = codes "publications"
limit_word limits.Packages = codes "packages"
limit_word limits.Known = codes "known"
limit_word limits.Catalogue = codes "catalogue"
limit_word limits.Index = codes "index"
limit_word limits.ReleaseBytes = codes "release"
limit_word limits.Generation = codes "generation"
limit_word limits.File = codes "file"
limit_word limits.Serial = codes "serial"
limit_word limits.Date = codes "date"

-- a fact of a file that differs
abbrev pub what_word : What → List ℕ
what_word facts.Size = codes "size"
what_word facts.Sha256 = codes "sha256"
what_word facts.Sha1 = codes "sha1"
what_word facts.Md5 = codes "md5"

-- a character as a terminal can show it: from the space to the tilde, and `?` for any other
abbrev pub shown_char : ℕ → ℕ
shown_char c = if (nat_le 32 c && nat_le c 126) then c else 63

-- at most the first hundred characters of a text, so shown, in UTF-8
unfoldable pub shown : List ℕ → List ℕ
shown text = encode_utf8_all (map shown_char (take 100 (chars text)))
