-- What the fields of a binary stanza are (Debian Policy 5.3; the Packages index of the Debian repository format).
use Rattle.std.specs.Prelude.{ℕ, Bool, false, not, ◌&&◌, ◌||◌, ◌==◌, nat_le, List, [], ◌∷◌, length, filter, codes, Option, Some, None, is_some, unwrap_or, if◌then◌else◌}
use Rattle.std.specs.Result.{result_ok}
use Rattle.hex.specs.Hex.{decode_sized}
use Rattle.ap_text.specs.Paths.{is_safe_path, segments}
use Rattle.control_stanza.specs.declared.stanza.Field.{Field}
use Rattle.control_stanza.specs.Fields.{same_name, value_of}

-- the value of a field, nothing where it isn't there
abbrev pub text_in : List Field → List ℕ → List ℕ
text_in fields name = unwrap_or (value_of fields name) []

-- a field is there and no such text
abbrev pub is_other : (List ℕ → Bool) → Option (List ℕ) → Bool
is_other good None = false
is_other good (Some text) = not (good text)

-- the fields of an index that speak of the file, and no part of the package's own stanza
abbrev pub is_of_file : List ℕ → Bool
is_of_file name =
    same_name name (codes "Filename") || same_name name (codes "Size") || same_name name (codes "MD5sum")
    || same_name name (codes "SHA1") || same_name name (codes "SHA256") || same_name name (codes "SHA512")

-- the others, in order
unfoldable pub own_fields : List Field → List Field
own_fields fields = filter (λ f. not (is_of_file f.name)) fields

-- without `./` in front, as often as it stands there
abbrev pub without_dots : List ℕ → List ℕ
without_dots [] = []
without_dots (a ∷ []) = a ∷ []
without_dots (a ∷ b ∷ rest) = if a == 46 && b == 47 then without_dots rest else a ∷ b ∷ rest

-- a safe path of at most 700 bytes
abbrev pub is_file_path : List ℕ → Bool
is_file_path path = nat_le (length path) 700 && is_safe_path path

-- the last of some segments
abbrev pub last_of : List (List ℕ) → List ℕ
last_of [] = []
last_of (s ∷ []) = s
last_of (s ∷ t ∷ ss) = last_of (t ∷ ss)

abbrev pub last_segment : List ℕ → List ℕ
last_segment path = last_of (segments path)

-- the bytes that so many pairs of hexadecimal digits, of either case, stand for
abbrev pub digest : ℕ → List ℕ → Option (List ℕ)
digest size text = result_ok (decode_sized text size)

abbrev pub is_digest : ℕ → List ℕ → Bool
is_digest size text = is_some (digest size text)
