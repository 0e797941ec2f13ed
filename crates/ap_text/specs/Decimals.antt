-- Which texts are decimal numbers below 2^64 as they are written: digits without a sign and without leading zeros.
use Rattle.std.specs.Prelude.{◌≡◌, ◌<◌, ◌^◌, ℕ, Bool, not, ◌&&◌, ◌||◌, ◌==◌, nat_lt, nat_le, nat_eq, List, length, slice_index, IsTrue}
use Rattle.std.specs.Fmt.{decimal}
use Rattle.std.specs.List.{list_all}
use Rattle.std.specs.Str.Parse.{digits_value}

abbrev pub is_digit : ℕ → Bool
is_digit b = nat_le 48 b && nat_le b 57

-- one or more digits, of which more than one don't begin with 0
unfoldable pub has_number_form : List ℕ → Bool
has_number_form text = nat_lt 0 (length text) && list_all is_digit text && (nat_eq (length text) 1 || not (slice_index text 0 == 48))

-- such digits, of a value below 2^64
abbrev pub is_number : List ℕ → Bool
is_number text = has_number_form text && nat_lt (digits_value 10 text) (2 ^ 64)

-- These are exactly the texts that numbers are written as.
pub record NumbersAreDecimals : Type 0 where
  pub written : (n : ℕ) → n < 2 ^ 64 → IsTrue (is_number (decimal n)) × (digits_value 10 (decimal n) ≡ n)
  pub only : (text : List ℕ) → IsTrue (is_number text) → (digits_value 10 text < 2 ^ 64) × (text ≡ decimal (digits_value 10 text))
