-- When each fault of a text comes: the causes exclude each other, so each comes exactly where its cause holds, but for
-- want of memory, which can stand in the way of a good text alone.
use Rattle.std.specs.Prelude.{◌≡◌, ◌≢◌, ◌<◌, ◌≤◌, List, [], length, ℕ, Some, IsTrue, IsFalse}
use Rattle.ap_text.specs.declared.fault.TextFault.{TextFault}
use Rattle.ap_text.specs.declared.fault.TextFault.TheVariants.{Empty, TooLong, BadByte, OutOfMemory}
use Rattle.ap_text.specs.Names.{is_name, bad_place_of_name}
use Rattle.ap_text.specs.Paths.{is_safe_path, is_too_long, bad_place_of_path}

abbrev pub IsNameFault : List ℕ → TextFault → Type 0
IsNameFault text Empty = text ≡ []
IsNameFault text TooLong = 200 < length text
IsNameFault text (BadByte place) = (text ≢ []) × (length text ≤ 200) × (bad_place_of_name text ≡ Some place)
IsNameFault text OutOfMemory = IsTrue (is_name text)

abbrev pub IsPathFault : List ℕ → TextFault → Type 0
IsPathFault text Empty = text ≡ []
IsPathFault text TooLong = (text ≢ []) × IsTrue (is_too_long text)
IsPathFault text (BadByte place) = (text ≢ []) × IsFalse (is_too_long text) × (bad_place_of_path text ≡ Some place)
IsPathFault text OutOfMemory = IsTrue (is_safe_path text)
