-- Which texts are names, and which of these name packages (Debian Policy 5.6.1, 5.6.7), architectures and components, by
-- their bytes.
use Rattle.std.specs.Prelude.{ℕ, Bool, not, ◌&&◌, ◌||◌, ◌==◌, nat_le, List, length, slice_index, codes, bytes_eq, Option, Some, if◌then◌else◌}
use Rattle.std.specs.List.{list_all, position}

-- a digit or a letter of ASCII
abbrev pub is_alphanumeric : ℕ → Bool
is_alphanumeric b = (nat_le 48 b && nat_le b 57) || (nat_le 65 b && nat_le b 90) || (nat_le 97 b && nat_le b 122)

-- a letter, a digit or one of `+ - . _`
abbrev pub is_name_byte : ℕ → Bool
is_name_byte b = is_alphanumeric b || b == 43 || b == 45 || b == 46 || b == 95

abbrev pub begins_alphanumeric : List ℕ → Bool
begins_alphanumeric text = is_alphanumeric (slice_index text 0)

-- 1 to 200 such bytes, the first a letter or a digit
abbrev pub is_name : List ℕ → Bool
is_name text = nat_le (length text) 200 && begins_alphanumeric text && list_all is_name_byte text

-- a name of two bytes at least and without `_`
abbrev pub is_package_name : List ℕ → Bool
is_package_name text = is_name text && nat_le 2 (length text) && list_all (λ b. not (b == 95)) text

-- a name other than `source`, which stands for source packages (Debian Policy 5.6.8); `all` is one
abbrev pub is_architecture : List ℕ → Bool
is_architecture text = is_name text && not (bytes_eq text (codes "source"))

-- a name other than `Release`, which is the file beside the components of a distribution (the Debian repository format)
abbrev pub is_component : List ℕ → Bool
is_component text = is_name text && not (bytes_eq text (codes "Release"))

-- the first byte that may not stand in a name
abbrev pub bad_place_of_name : List ℕ → Option ℕ
bad_place_of_name text = if begins_alphanumeric text then position (λ b. not (is_name_byte b)) text else Some 0
