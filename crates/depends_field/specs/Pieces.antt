-- The pieces of a relation field (Debian Policy 7.1): runs of blanks, words, operators and single bytes. Which bytes make
-- a word depends on whether the piece stands in parentheses.
use Rattle.std.specs.Prelude.{◌≡◌, ◌<◌, ℕ, Bool, false, not, ◌&&◌, ◌||◌, ◌==◌, nat_lt, List, [], ◌∷◌, length, take, drop, slice_index, bytes_eq, if◌then◌else◌}
use Rattle.std.specs.List.{prefix_len}
use Rattle.ap_text.specs.Names.{is_alphanumeric, is_name_byte}

-- space, tab and line end
abbrev pub is_blank : ℕ → Bool
is_blank b = b == 32 || b == 9 || b == 10

-- what versions are made of
abbrev pub is_version_byte : ℕ → Bool
is_version_byte b = is_alphanumeric b || b == 46 || b == 43 || b == 45 || b == 126 || b == 58

abbrev pub is_word_byte : Bool → ℕ → Bool
is_word_byte inside b = if inside then is_version_byte b else is_name_byte b

-- the length of the longest of `<<`, `<=`, `=`, `>=`, `>>`, `<`, `>` that stands at the front
abbrev pub operator_len : List ℕ → ℕ
operator_len text =
    if slice_index text 0 == 61 then 1
    else if slice_index text 0 == 60 then (if slice_index text 1 == 60 || slice_index text 1 == 61 then 2 else 1)
    else if slice_index text 0 == 62 then (if slice_index text 1 == 62 || slice_index text 1 == 61 then 2 else 1)
    else 0

-- the length of the piece at the front of a text that isn't empty; runs are as long as they can be
unfoldable pub piece_len : Bool → List ℕ → ℕ
piece_len inside text =
    if is_blank (slice_index text 0) then prefix_len is_blank text
    else if is_word_byte inside (slice_index text 0) then prefix_len (is_word_byte inside) text
    else if inside && nat_lt 0 (operator_len text) then operator_len text
    else 1

abbrev pub front : Bool → List ℕ → List ℕ
front inside text = take (piece_len inside text) text

abbrev pub behind : Bool → List ℕ → List ℕ
behind inside text = drop (piece_len inside text) text

-- the parentheses go from a `(` to the next `)`
unfoldable pub inside_after : Bool → List ℕ → Bool
inside_after inside piece = if inside then not (bytes_eq piece (41 ∷ [])) else bytes_eq piece (40 ∷ [])

-- the text is the pieces, one behind the other, and then the rest, which stands in parentheses or not
abbrev pub IsCut : Bool → List ℕ → List (List ℕ) → Bool → List ℕ → Type 0
IsCut inside text [] inside_rest rest = (inside ≡ inside_rest) × (text ≡ rest)
IsCut inside text (p ∷ ps) inside_rest rest = (0 < length text) × (p ≡ front inside text) × IsCut (inside_after inside p) (behind inside text) ps inside_rest rest

-- these are the pieces of the text
abbrev pub ArePieces : List ℕ → List (List ℕ) → Type 0
ArePieces text ps = (inside : Bool) × IsCut false text ps inside []
