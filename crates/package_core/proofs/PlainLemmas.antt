-- Values of one line: visible bytes.
use Rattle.std.proofs.Common.{◌≡◌, ℕ, suc, zero, ◌+◌, ◌/◌, ◌%◌, ◌<◌, ◌≤◌, ◌^◌, Bool, true, false, not, ◌&&◌, ◌==◌, List, [], ◌∷◌, ◌++◌, length, slice_index, Some, refl, ap, sym, ◌∙◌, arith}
use Rattle.std.specs.List.{list_all}
use Rattle.std.specs.Str.{IsAscii, is_utf8}
use Rattle.std.specs.Fmt.{decimal}
use Rattle.std.proofs.lemmas.Bool.{and_parts, and_from}
use Rattle.std.proofs.lemmas.Bool.Decides.{nat_tests}
use Rattle.std.proofs.lemmas.Str.{IsUtf8-from_ascii, is_utf8-from_IsUtf8}
use Rattle.std.specs.Result.{result_ok}
use Rattle.std.proofs.lemmas.List.Folds.{list_all-append, list_all_at}
use Rattle.std.proofs.lemmas.Fmt.{decimal_by_steps, decimal_nonempty}
use Rattle.hex.specs.Hex.{IsBytes, encode_lower, encode_with, lower_digits}
use Rattle.hex.proofs.HexLemmas.{decode_of-encode_lower, decode_sized-twice, length-encode_with}
use Rattle.ap_text.specs.Paths.{is_path_byte}
use Rattle.control_stanza.specs.Lines.{begun, is_blank, starts_blank, ends_blank, has_return}
use Rattle.control_stanza.specs.Fields.{value_lines, is_first_line, are_value_lines, is_value}
use Rattle.control_stanza.specs.Written.{gap}
use Rattle.package_core.specs.Fields.{digest}
use Rattle.package_core.specs.Whole.{IsDigest}

-- some visible bytes
pub record IsPlainText (text : List ℕ) : Type 0 where
  pub some : 0 < length text
  pub visible : list_all is_path_byte text ≡ true

record IsPlainByte (c : ℕ) : Type 0 where
  no_end : (c == 10) ≡ false
  no_return : (c == 13) ≡ false
  no_blank : is_blank c ≡ false
  small : c < 128

plain_byte : (c : ℕ) → is_path_byte c ≡ true → IsPlainByte c
unfolding is_blank
plain_byte c h = record { no_end = grind (arith, nat_tests); no_return = grind (arith, nat_tests); no_blank = grind (arith, nat_tests); small = grind (arith, nat_tests) }

one_line : (text : List ℕ) → list_all is_path_byte text ≡ true → value_lines text ≡ text ∷ []
one_line [] h = refl
one_line (c ∷ cs) h =
    let p = and_parts (is_path_byte c) (list_all is_path_byte cs) h in
    rw (plain_byte c p.0).no_end (ap (begun c) (one_line cs p.1))

no_return : (text : List ℕ) → list_all is_path_byte text ≡ true → has_return text ≡ false
no_return [] h = refl
no_return (c ∷ cs) h =
    let p = and_parts (is_path_byte c) (list_all is_path_byte cs) h in
    rw (plain_byte c p.0).no_return (no_return cs p.1)

pub ascii : (text : List ℕ) → list_all is_path_byte text ≡ true → IsAscii text
ascii [] h = λ i. omega arith
ascii (c ∷ cs) h =
    let p = and_parts (is_path_byte c) (list_all is_path_byte cs) h in
    more c cs (plain_byte c p.0).small (ascii cs p.1)
  where
    more : (c : ℕ) (cs : List ℕ) → c < 128 → IsAscii cs → IsAscii (c ∷ cs)
    more c cs l h zero = l
    more c cs l h (suc i) = h i

starts_visible : (text : List ℕ) → list_all is_path_byte text ≡ true → starts_blank text ≡ false
starts_visible [] h = refl
starts_visible (c ∷ cs) h = (plain_byte c (and_parts (is_path_byte c) (list_all is_path_byte cs) h).0).no_blank

ends_visible : (text : List ℕ) → list_all is_path_byte text ≡ true → ends_blank text ≡ false
ends_visible [] h = refl
ends_visible (c ∷ []) h = (plain_byte c (and_parts (is_path_byte c) true h).0).no_blank
ends_visible (c ∷ d ∷ ds) h = ends_visible (d ∷ ds) (and_parts (is_path_byte c) (list_all is_path_byte (d ∷ ds)) h).1

first_line_is : (text : List ℕ) → list_all is_path_byte text ≡ true → is_first_line text ≡ true
first_line_is text h = rw (starts_visible text h, ends_visible text h) refl

value_lines_are : (text : List ℕ) → list_all is_path_byte text ≡ true → are_value_lines (value_lines text) ≡ true
value_lines_are text h = ap are_value_lines (one_line text h) ∙ and_from (is_first_line text) true (first_line_is text h) refl

-- visible bytes are a value
pub plain_value : (text : List ℕ) → list_all is_path_byte text ≡ true → is_value text ≡ true
plain_value text h =
    and_from (are_value_lines (value_lines text) && not (has_return text)) (is_utf8 text)
    (and_from (are_value_lines (value_lines text)) (not (has_return text)) (value_lines_are text h) (ap not (no_return text h)))
    (is_utf8-from_IsUtf8 text (IsUtf8-from_ascii text (ascii text h)))

-- before them a space is written
pub plain_gap : (text : List ℕ) → IsPlainText text → gap text ≡ 32 ∷ []
plain_gap [] h = absurd (omega (arith, h.some))
plain_gap (c ∷ cs) h = rw (plain_byte c (and_parts (is_path_byte c) (list_all is_path_byte cs) h.visible).0).no_end refl

-- ---- numbers

digit_visible : (d : ℕ) → d < 10 → is_path_byte (48 + d) ≡ true
digit_visible d h = grind (arith, nat_tests)

one_digit : (n : ℕ) → n < 10 → list_all is_path_byte ((48 + n) ∷ []) ≡ true
one_digit n h = and_from (is_path_byte (48 + n)) true (digit_visible n h) refl

more_digits : (n : ℕ) (ds : List ℕ) → 10 ≤ n → list_all is_path_byte ds ≡ true → list_all is_path_byte (ds ++ ((48 + n % 10) ∷ [])) ≡ true
more_digits n ds h is = list_all-append is_path_byte ds ((48 + n % 10) ∷ []) ∙ and_from _ _ is (one_digit (n % 10) (omega arith))

pub number_visible : (n : ℕ) → n < 2 ^ 64 → list_all is_path_byte (decimal n) ≡ true
number_visible n h = decimal_by_steps (λ n text. list_all is_path_byte text ≡ true) one_digit more_digits n h

-- what a number is written as is plain
pub plain_number : (n : ℕ) → n < 2 ^ 64 → IsPlainText (decimal n)
plain_number n h = record { some = decimal_nonempty n h; visible = number_visible n h }

-- ---- digests
passes : (p : ℕ → Bool) (xs : List ℕ) (i : ℕ) → list_all p xs ≡ true → i < length xs → p (slice_index xs i) ≡ true
passes p xs i all lt = by_test (p (slice_index xs i)) refl
  where
    by_test : (b : Bool) → p (slice_index xs i) ≡ b → b ≡ true
    by_test true h = refl
    by_test false h = sym (list_all_at p xs i 0 lt h) ∙ all

hex_digit_visible : (d : ℕ) → d < 16 → is_path_byte (slice_index lower_digits d) ≡ true
hex_digit_visible d h = passes is_path_byte lower_digits d refl h

pub hex_visible : (bytes : List ℕ) → IsBytes bytes → list_all is_path_byte (encode_lower bytes) ≡ true
unfolding encode_with
hex_visible [] h = refl
hex_visible (b ∷ bs) h =
    let fits : b < 256 = h 0 in
    and_from (is_path_byte (slice_index lower_digits (b / 16))) _ (hex_digit_visible (b / 16) (omega arith))
    (and_from (is_path_byte (slice_index lower_digits (b % 16))) _ (hex_digit_visible (b % 16) (omega arith)) (hex_visible bs (λ k. h (suc k))))

-- what a digest is written as is plain
pub plain_digest : (size : ℕ) (bytes : List ℕ) → 0 < size → IsDigest size bytes → IsPlainText (encode_lower bytes)
plain_digest size bytes some h =
    let long = length-encode_with lower_digits bytes in
    record { some = omega (arith, long, h.size_is); visible = hex_visible bytes h.bytes_are }

-- what a digest is written as is read as that digest
pub digest_value : (size : ℕ) (bytes : List ℕ) → IsDigest size bytes → digest size (encode_lower bytes) ≡ Some bytes
digest_value size bytes h =
    let long = length-encode_with lower_digits bytes in
    ap result_ok (decode_sized-twice (encode_lower bytes) size (omega (arith, long, h.size_is)) ∙ decode_of-encode_lower bytes h.bytes_are)
