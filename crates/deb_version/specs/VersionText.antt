-- The text of a version, [epoch:]upstream[-revision] (Debian Policy 5.6.12).
use Rattle.std.specs.Prelude.{ℕ, ◌+◌, ◌-◌, Bool, true, false, not, ◌&&◌, ◌||◌, ◌==◌, nat_le, List, [], ◌∷◌, length, take, drop, reverse, position, Option, Some, None, is_some, is_none, unwrap_or, if◌then◌else◌}
use Rattle.std.specs.List.{list_all}
use Rattle.std.specs.Option.{option_or}
use Rattle.std.specs.Str.Parse.{digits_value}
use Rattle.deb_version.specs.Cuts.{is_digit, is_letter}
use Rattle.deb_version.specs.declared.text.VersionFault.{VersionFault}
use Rattle.deb_version.specs.declared.text.VersionFault.TheVariants.{BadEpoch, Empty, BadByte}

abbrev pub is_colon : ℕ → Bool
is_colon c = c == 58

abbrev pub is_hyphen : ℕ → Bool
is_hyphen c = c == 45

-- the place of the first colon, which ends the epoch
abbrev pub epoch_end : List ℕ → Option ℕ
epoch_end text = position is_colon text

abbrev epoch_at : List ℕ → Option ℕ → Option (List ℕ)
epoch_at text None = None
epoch_at text (Some n) = Some (take n text)

-- what stands before the first colon, if there is one
unfoldable pub epoch_of : List ℕ → Option (List ℕ)
epoch_of text = epoch_at text (epoch_end text)

abbrev body_start : Option ℕ → ℕ
body_start None = 0
body_start (Some n) = n + 1

-- the place at which the upstream version begins
unfoldable pub start_of : List ℕ → ℕ
start_of text = body_start (epoch_end text)

-- what follows the epoch and its colon
abbrev pub body_of : List ℕ → List ℕ
body_of text = drop (start_of text) text

-- how many bytes follow the last hyphen, if there is one
abbrev pub after_hyphen : List ℕ → Option ℕ
after_hyphen body = position is_hyphen (reverse body)

abbrev upstream_at : List ℕ → Option ℕ → List ℕ
upstream_at body None = body
upstream_at body (Some n) = take (length body - n - 1) body

-- what stands between the epoch and the last hyphen behind it
unfoldable pub upstream_in : List ℕ → List ℕ
upstream_in body = upstream_at body (after_hyphen body)

abbrev revision_at : List ℕ → Option ℕ → Option (List ℕ)
revision_at body None = None
revision_at body (Some n) = Some (drop (length body - n) body)

-- what follows the last hyphen, if there is one
unfoldable pub revision_in : List ℕ → Option (List ℕ)
revision_in body = revision_at body (after_hyphen body)

abbrev pub upstream_of : List ℕ → List ℕ
upstream_of text = upstream_in (body_of text)

abbrev pub revision_of : List ℕ → Option (List ℕ)
revision_of text = revision_in (body_of text)

abbrev pub is_nothing : List ℕ → Bool
is_nothing [] = true
is_nothing (c ∷ cs) = false

-- one or more digits of value at most 2147483647
unfoldable pub is_epoch : List ℕ → Bool
is_epoch digits = not (is_nothing digits) && list_all is_digit digits && nat_le (digits_value 10 digits) 2147483647

-- there is a colon, and what stands before the first one is no epoch
abbrev pub has_bad_epoch : List ℕ → Bool
has_bad_epoch text = is_bad (epoch_of text)
  where
    is_bad : Option (List ℕ) → Bool
    is_bad None = false
    is_bad (Some digits) = not (is_epoch digits)

-- the upstream version or a written revision is empty
abbrev pub has_empty_part : List ℕ → Bool
has_empty_part text = is_nothing (upstream_of text) || is_empty (revision_of text)
  where
    is_empty : Option (List ℕ) → Bool
    is_empty None = false
    is_empty (Some revision) = is_nothing revision

-- letters, digits and full stop, plus, tilde
unfoldable pub is_revision_byte : ℕ → Bool
is_revision_byte c = is_letter c || is_digit c || c == 46 || c == 43 || c == 126

-- an upstream version may have hyphens besides, and colons where an epoch is written
unfoldable pub is_upstream_byte : Bool → ℕ → Bool
is_upstream_byte has_epoch c = is_revision_byte c || is_hyphen c || (has_epoch && is_colon c)

-- a byte of a version: a letter, a digit or one of `. + - ~ :`
abbrev pub is_version_byte : ℕ → Bool
is_version_byte c = is_upstream_byte true c

-- the place in a text of the byte k of one of its tails
abbrev pub tail_place : List ℕ → List ℕ → Option ℕ → Option ℕ
tail_place text tail None = None
tail_place text tail (Some k) = Some (length text - length tail + k)

-- the first byte of a part that may not stand in it
unfoldable pub bad_in_upstream : Bool → List ℕ → Option ℕ
bad_in_upstream has_epoch upstream = position (λ c. not (is_upstream_byte has_epoch c)) upstream

unfoldable pub bad_in_revision : List ℕ → Option ℕ
bad_in_revision revision = position (λ c. not (is_revision_byte c)) revision

-- the place of the first byte that may not stand in its part
abbrev pub first_bad : List ℕ → Option ℕ
first_bad text =
    option_or
    (tail_place text (body_of text) (bad_in_upstream (is_some (epoch_of text)) (upstream_of text)))
    (tail_place text (unwrap_or (revision_of text) []) (bad_in_revision (unwrap_or (revision_of text) [])))

abbrev pub bad_byte : Option ℕ → Option VersionFault
bad_byte None = None
bad_byte (Some k) = Some (BadByte k)

-- what keeps a text from being a version: the first cause in this order
unfoldable pub fault_of : List ℕ → Option VersionFault
fault_of text = if has_bad_epoch text then Some BadEpoch else if has_empty_part text then Some Empty else bad_byte (first_bad text)

unfoldable pub is_version : List ℕ → Bool
is_version text = is_none (fault_of text)
