-- The lines of a root: no line end is in them, and none of them is the line of a package.
use Rattle.std.proofs.Common.{◌≡◌, ℕ, zero, suc, ◌<◌, ◌≤◌, ◌^◌, ◌/◌, ◌%◌, ◌+◌, Bool, true, false, not, List, [], ◌∷◌, ◌++◌, length, get_or, refl, arith}
use Rattle.std.specs.Bool.{◌==◌}
use Rattle.std.specs.List.{list_any, list_all}
use Rattle.std.specs.Fmt.{decimal}
use Rattle.std.proofs.lemmas.Bool.{and_parts, or_parts}
use Rattle.std.proofs.lemmas.Bool.Decides.{nat_tests}
use Rattle.std.proofs.lemmas.Fmt.{decimal_by_steps}
use Rattle.hex.specs.Hex.{lower_digits, encode_with, encode_lower}
use Rattle.sha2.specs.Sha256.{sha256}
use Rattle.sha2.proofs.Facts256.{length-sha256}
use Rattle.ap_text.specs.Names.{is_name, is_name_byte}
use Rattle.package_core.specs.Card.{Card, package_text}
use Rattle.machine_state.specs.State.{is_line, is_line_byte}
use Rattle.catalogue_lines.specs.Lines.{IsPlain}
use Rattle.catalogue_lines.specs.SetLines.{id_of, set_line}
use Rattle.machine_state.specs.Words.{blank_and}
use Rattle.catalogue_lines.specs.KnownForms.{known_line}
use Rattle.catalogue_lines.proofs.Parts.{IsOther}

name_plain : (bs : List ℕ) → list_all is_name_byte bs ≡ true → IsPlain bs
name_plain [] e = refl
name_plain (b ∷ bs) e =
    let p = and_parts (is_name_byte b) (list_all is_name_byte bs) e in
    rw (apart b p.0) (name_plain bs p.1)
  where
    apart : (b : ℕ) → is_name_byte b ≡ true → (b == 10) ≡ false
    apart b h = grind (arith, nat_tests)

line_plain : (bs : List ℕ) → list_all is_line_byte bs ≡ true → IsPlain bs
line_plain [] e = refl
line_plain (b ∷ bs) e =
    let p = and_parts (is_line_byte b) (list_all is_line_byte bs) e in
    rw (apart b p.0) (line_plain bs p.1)
  where
    apart : (b : ℕ) → is_line_byte b ≡ true → (b == 10) ≡ false
    apart b h = grind (arith, nat_tests)

pub is_name_plain : (bs : List ℕ) → is_name bs ≡ true → IsPlain bs
is_name_plain bs e = name_plain bs (and_parts _ (list_all is_name_byte bs) e).1

pub is_line_plain : (bs : List ℕ) → is_line bs ≡ true → IsPlain bs
is_line_plain bs e = line_plain bs (and_parts _ (list_all is_line_byte bs) (and_parts _ _ (and_parts _ _ e).0).0).1

pub setting_plain : (bs : List ℕ) → IsPlain bs → IsPlain (blank_and bs)
setting_plain [] p = refl
setting_plain (b ∷ bs) p = p

plain_push : (ds : List ℕ) (b : ℕ) → IsPlain ds → (b == 10) ≡ false → IsPlain (ds ++ b ∷ [])
plain_push [] b p e = rw e refl
plain_push (d ∷ ds) b p e =
    let parts = or_parts (d == 10) (list_any (λ x. x == 10) ds) p in
    rw parts.0 (plain_push ds b parts.1 e)

pub digits_plain : (n : ℕ) → n < 2 ^ 64 → IsPlain (decimal n)
digits_plain n small = decimal_by_steps (λ k ds. IsPlain ds) one more n small
  where
    one : (n : ℕ) → n < 10 → IsPlain ((48 + n) ∷ [])
    one n lt = grind (arith, nat_tests)

    more : (n : ℕ) (ds : List ℕ) → 10 ≤ n → IsPlain ds → IsPlain (ds ++ ((48 + n % 10) ∷ []))
    more n ds le p = plain_push ds (48 + n % 10) p (grind (arith, nat_tests))

-- what no hexadecimal digit is
digit_not : (table : List ℕ) (d : ℕ) → list_all (λ c. not (c == d)) table ≡ true → (0 == d) ≡ false → (k : ℕ) → (get_or table k 0 == d) ≡ false
digit_not [] d h z zero = z
digit_not [] d h z (suc k) = z
digit_not (c ∷ cs) d h z zero = turned (c == d) (and_parts (not (c == d)) (list_all (λ c. not (c == d)) cs) h).0
  where
    turned : (b : Bool) → not b ≡ true → b ≡ false
    turned true e = cc
    turned false e = refl
digit_not (c ∷ cs) d h z (suc k) = digit_not cs d (and_parts (not (c == d)) (list_all (λ c. not (c == d)) cs) h).1 z k

hex_plain : (bs : List ℕ) → IsPlain (encode_lower bs)
unfolding encode_with
hex_plain [] = refl
hex_plain (b ∷ bs) = rw (digit_not lower_digits 10 refl refl (b / 16), digit_not lower_digits 10 refl refl (b % 16)) (hex_plain bs)

hex_other : (bs : List ℕ) → length bs ≡ 32 → IsOther (encode_lower bs)
unfolding encode_with
hex_other [] h = absurd (omega arith)
hex_other (b ∷ bs) h = rw (digit_not lower_digits 112 refl refl (b / 16)) refl

-- ---- each line
pub known_plain : (n : ℕ) → n < 2 ^ 64 → IsPlain (known_line n)
known_plain n s = digits_plain n s

pub set_plain : (n : ℕ) → n < 2 ^ 64 → IsPlain (set_line n)
set_plain n s = digits_plain n s

pub id_plain : (p : Card) → IsPlain (id_of p)
unfolding id_of
id_plain p = hex_plain (sha256 (package_text p))

pub id_other : (p : Card) → IsOther (id_of p)
unfolding id_of
id_other p = hex_other (sha256 (package_text p)) (length-sha256 (package_text p))

pub known_other : (n : ℕ) → IsOther (known_line n)
known_other n = refl

pub set_other : (n : ℕ) → IsOther (set_line n)
set_other n = refl
