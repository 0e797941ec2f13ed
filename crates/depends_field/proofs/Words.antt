-- Names and versions are ASCII, and so UTF-8.
use Rattle.std.proofs.Common.{◌≡◌, ℕ, ◌<◌, Bool, true, false, not, ◌==◌, List, [], ◌∷◌, Some, None, is_none, ap, arith}
use Rattle.std.specs.List.{list_all}
use Rattle.std.specs.Str.{IsAscii, IsUtf8}
use Rattle.std.proofs.lemmas.Bool.{and_parts, and_from, and_left, and_right, false_from_ne_true}
use Rattle.std.proofs.lemmas.Bool.Decides.{nat_tests}
use Rattle.std.proofs.lemmas.Str.{IsUtf8-from_ascii}
use Rattle.std.proofs.lemmas.Str.Ascii.{IsAscii-nil, IsAscii-cons}
use Rattle.deb_version.specs.VersionText.{fault_of, is_version}
use Rattle.deb_version.specs.declared.text.VersionFault.{VersionFault}
use Rattle.depends_field.specs.Reading.{is_version_word}
use Rattle.ap_text.specs.Names.{is_name_byte, is_name, is_package_name, is_architecture}
use Rattle.depends_field.specs.Pieces.{is_version_byte}

ascii_from_all : (q : ℕ → Bool) → ((b : ℕ) → q b ≡ true → b < 128) → (bs : List ℕ) → list_all q bs ≡ true → IsAscii bs
ascii_from_all q below [] h = IsAscii-nil
ascii_from_all q below (b ∷ bs) h =
    let parts = and_parts (q b) (list_all q bs) h in
    IsAscii-cons b bs (below b parts.0) (ascii_from_all q below bs parts.1)

name_byte_below : (b : ℕ) → is_name_byte b ≡ true → b < 128
name_byte_below b h = grind (arith, nat_tests)

version_byte_below : (b : ℕ) → is_version_byte b ≡ true → b < 128
version_byte_below b h = grind (arith, nat_tests)

pub utf8_from_name : (bs : List ℕ) → is_name bs ≡ true → IsUtf8 bs
utf8_from_name bs h = IsUtf8-from_ascii bs (ascii_from_all is_name_byte name_byte_below bs (and_parts _ (list_all is_name_byte bs) h).1)

pub utf8_from_version_bytes : (bs : List ℕ) → list_all is_version_byte bs ≡ true → IsUtf8 bs
utf8_from_version_bytes bs h = IsUtf8-from_ascii bs (ascii_from_all is_version_byte version_byte_below bs h)

pub no_name : (bs : List ℕ) → ¬ IsUtf8 bs → is_name bs ≡ false
no_name bs other = false_from_ne_true (is_name bs) (λ h. other (utf8_from_name bs h))

name_from_package_name : (bs : List ℕ) → is_package_name bs ≡ true → is_name bs ≡ true
name_from_package_name bs h = (and_parts (is_name bs) _ (and_parts _ (list_all (λ b. not (b == 95)) bs) h).0).0

pub no_package_name : (bs : List ℕ) → ¬ IsUtf8 bs → is_package_name bs ≡ false
no_package_name bs other =
    false_from_ne_true (is_package_name bs) (λ h. other (utf8_from_name bs (name_from_package_name bs h)))

pub no_architecture : (bs : List ℕ) → ¬ IsUtf8 bs → is_architecture bs ≡ false
no_architecture bs other = false_from_ne_true (is_architecture bs) (λ h. other (utf8_from_name bs (and_parts (is_name bs) _ h).0))

pub version_word_from : (bs : List ℕ) → list_all is_version_byte bs ≡ true → fault_of bs ≡ None → is_version_word bs ≡ true
unfolding is_version_word is_version
version_word_from bs all none = and_from (list_all is_version_byte bs) (is_none (fault_of bs)) all (ap is_none none)

pub no_version_word_from_bytes : (bs : List ℕ) → list_all is_version_byte bs ≡ false → is_version_word bs ≡ false
unfolding is_version_word
no_version_word_from_bytes bs other = and_left (list_all is_version_byte bs) (is_version bs) other

pub no_version_word_from_fault : (bs : List ℕ) (e : VersionFault) → fault_of bs ≡ Some e → is_version_word bs ≡ false
unfolding is_version_word is_version
no_version_word_from_fault bs e fault = and_right (list_all is_version_byte bs) (is_none (fault_of bs)) (ap is_none fault)
