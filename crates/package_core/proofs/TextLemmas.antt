-- The text of a package is UTF-8.
use Rattle.std.proofs.Common.{◌≡◌, ℕ, suc, zero, ◌<◌, Bool, true, false, not, ◌&&◌, ◌==◌, cond, List, [], ◌∷◌, ◌++◌, codes, Option, Some, None, unwrap_or, Result, Ok, Err, refl, arith}
use Rattle.std.specs.List.{list_all}
use Rattle.std.specs.Option.{IfSome}
use Rattle.std.specs.Fmt.{decimal}
use Rattle.std.specs.Result.{IfOk}
use Rattle.std.specs.Str.{IsUtf8, IsAscii, is_utf8}
use Rattle.std.proofs.lemmas.Bool.Decides.{nat_tests}
use Rattle.std.proofs.lemmas.Str.{IsUtf8-append, IsUtf8-from_ascii, IsUtf8-from_is_utf8, IsUtf8-nil}
use Rattle.hex.specs.Hex.{encode_lower}
use Rattle.ap_text.specs.Paths.{is_path_byte, is_safe_path}
use Rattle.control_stanza.specs.declared.stanza.Field.{Field}
use Rattle.control_stanza.specs.Lines.{is_name_byte, is_first_byte, is_field_name, has_return}
use Rattle.control_stanza.specs.Fields.{is_field, is_stanza, is_value, are_value_lines, value_lines, are_distinct}
use Rattle.control_stanza.specs.Written.{gap, field_text, stanza_text}
use Rattle.digest_set.specs.declared.facts.Said.{Said}
use Rattle.package_core.specs.Card.{Card, line, file_text, package_text}
use Rattle.package_core.specs.Whole.{IsDigest, IsSaid}
use Rattle.package_core.proofs.PathLemmas.{safe_is_plain}
use Rattle.package_core.proofs.PlainLemmas.{ascii, number_visible, hex_visible}

both : (a b : Bool) → (a && b) ≡ true → (a ≡ true) × (b ≡ true)
both true b h = (refl, h)
both false b h = cc

small_byte : (c : ℕ) → is_name_byte c ≡ true → c < 128
unfolding is_name_byte
small_byte c h = grind (arith, nat_tests)

name_is_ascii : (name : List ℕ) → list_all is_name_byte name ≡ true → IsAscii name
name_is_ascii [] h = λ i. omega arith
name_is_ascii (c ∷ cs) h =
    let p = both (is_name_byte c) (list_all is_name_byte cs) h in
    more c cs (small_byte c p.0) (name_is_ascii cs p.1)
  where
    more : (c : ℕ) (cs : List ℕ) → c < 128 → IsAscii cs → IsAscii (c ∷ cs)
    more c cs l h zero = l
    more c cs l h (suc i) = h i

name_is_utf8 : (name : List ℕ) → is_field_name name ≡ true → IsUtf8 name
unfolding is_field_name
name_is_utf8 [] h = cc
name_is_utf8 (c ∷ cs) h = IsUtf8-from_ascii (c ∷ cs) (name_is_ascii (c ∷ cs) (both (is_first_byte c) (list_all is_name_byte (c ∷ cs)) h).1)

one_ascii : (c : ℕ) → c < 128 → IsUtf8 (c ∷ [])
one_ascii c l = IsUtf8-from_ascii (c ∷ []) one
  where
    one : IsAscii (c ∷ [])
    one zero = l
    one (suc i) = omega arith

gap_is_utf8 : (v : List ℕ) → IsUtf8 (gap v)
gap_is_utf8 [] = IsUtf8-nil
gap_is_utf8 (c ∷ cs) = by_test (c == 10)
  where
    by_test : (b : Bool) → IsUtf8 (cond b [] (32 ∷ []))
    by_test true = IsUtf8-nil
    by_test false = one_ascii 32 (omega arith)

value_is_utf8 : (v : List ℕ) → is_value v ≡ true → IsUtf8 v
value_is_utf8 v h = IsUtf8-from_is_utf8 v (both (are_value_lines (value_lines v) && not (has_return v)) (is_utf8 v) h).1

field_is_utf8 : (f : Field) → is_field f ≡ true → IsUtf8 (field_text f)
unfolding field_text
field_is_utf8 f h =
    let p = both (is_field_name f.name) (is_value f.value) h in
    let middle = IsUtf8-append (58 ∷ []) (gap f.value ++ f.value) (one_ascii 58 (omega arith)) (IsUtf8-append (gap f.value) f.value (gap_is_utf8 f.value) (value_is_utf8 f.value p.1)) in
    IsUtf8-append (f.name ++ 58 ∷ (gap f.value ++ f.value)) (10 ∷ []) (IsUtf8-append f.name (58 ∷ (gap f.value ++ f.value)) (name_is_utf8 f.name p.0) middle) (one_ascii 10 (omega arith))

fields_are_utf8 : (fields : List Field) → list_all is_field fields ≡ true → IsUtf8 (stanza_text fields)
fields_are_utf8 [] h = IsUtf8-nil
fields_are_utf8 (f ∷ fs) h =
    let p = both (is_field f) (list_all is_field fs) h in
    IsUtf8-append (field_text f) (stanza_text fs) (field_is_utf8 f p.0) (fields_are_utf8 fs p.1)

pub stanza_is_utf8 : (fields : List Field) → is_stanza fields ≡ true → IsUtf8 (stanza_text fields)
unfolding is_stanza
stanza_is_utf8 fields h = fields_are_utf8 fields (both (list_all is_field fields) (are_distinct fields) h).0

pub if_ok_then : {T F : Type 0} (r : Result T F) (P Q : T → Type 0) → ((t : T) → P t → Q t) → IfOk r P → IfOk r Q
if_ok_then (Ok t) P Q h p = h t p
if_ok_then (Err e) P Q h p = p

-- ---- the lines on a file
line_is_utf8 : (name value : List ℕ) → list_all is_path_byte name ≡ true → list_all is_path_byte value ≡ true → IsUtf8 (line name value)
line_is_utf8 name value n v =
    let end = IsUtf8-append value (10 ∷ []) (IsUtf8-from_ascii value (ascii value v)) (one_ascii 10 (omega arith)) in
    let behind = IsUtf8-append (58 ∷ []) (32 ∷ (value ++ 10 ∷ [])) (one_ascii 58 (omega arith)) (IsUtf8-append (32 ∷ []) (value ++ 10 ∷ []) (one_ascii 32 (omega arith)) end) in
    IsUtf8-append name (58 ∷ 32 ∷ (value ++ 10 ∷ [])) (IsUtf8-from_ascii name (ascii name n)) behind

known_visible : (size : ℕ) (o : Option (List ℕ)) → IfSome o (IsDigest size) → list_all is_path_byte (encode_lower (unwrap_or o [])) ≡ true
known_visible size None h = hex_visible [] (λ i. omega arith)
known_visible size (Some bytes) h = hex_visible bytes h.bytes_are

pub file_is_utf8 : (path : List ℕ) (said : Said) → is_safe_path path ≡ true → IsSaid said → IsUtf8 (file_text path said)
unfolding file_text
file_is_utf8 path said safe h =
    let a = line_is_utf8 (codes "Filename") path refl (safe_is_plain path safe).1 in
    let b = line_is_utf8 (codes "Size") (decimal said.size) refl (number_visible said.size h.size) in
    let c = line_is_utf8 (codes "MD5sum") (encode_lower (unwrap_or said.md5 [])) refl (known_visible 16 said.md5 h.md5) in
    let d = line_is_utf8 (codes "SHA1") (encode_lower (unwrap_or said.sha1 [])) refl (known_visible 20 said.sha1 h.sha1) in
    let e = line_is_utf8 (codes "SHA256") (encode_lower said.sha256) refl (hex_visible said.sha256 h.sha256.bytes_are) in
    IsUtf8-append _ _ (IsUtf8-append _ _ (IsUtf8-append _ _ (IsUtf8-append _ _ a b) c) d) e

pub whole_is_utf8 : (p : Card) → is_stanza p.stanza ≡ true → IsUtf8 (file_text p.file p.said) → IsUtf8 (package_text p)
unfolding package_text
whole_is_utf8 p s f = IsUtf8-append (stanza_text p.stanza) (file_text p.file p.said) (stanza_is_utf8 p.stanza s) f
