-- Of which bytes a version is.
use Rattle.std.proofs.Common.{◌≡◌, ℕ, ◌<◌, ◌≤◌, Bool, true, false, cond, not, ◌&&◌, ◌||◌, ◌==◌, nat_lt, List, [], ◌∷◌, ◌++◌, length, Option, Some, None, is_some, is_none, unwrap_or, refl, sym, ap, ◌∙◌, arith}
use Rattle.std.specs.Prelude.{position}
use Rattle.std.specs.List.{list_all, position_or_len}
use Rattle.std.specs.Option.{option_or}
use Rattle.std.proofs.lemmas.Bool.{and_parts, and_from}
use Rattle.std.proofs.lemmas.Bool.Decides.{nat_tests}
use Rattle.std.proofs.lemmas.List.{length-append}
use Rattle.std.proofs.lemmas.List.Folds.{list_all-append}
use Rattle.std.proofs.lemmas.List.Sums.{fails_before_first, list_all-from_AllPass}
use Rattle.deb_version.specs.Cuts.{is_digit, is_letter}
use Rattle.deb_version.specs.VersionText.{is_colon, is_hyphen, epoch_of, body_of, upstream_of, revision_of, is_nothing, is_epoch, has_bad_epoch, has_empty_part, is_revision_byte, is_upstream_byte, is_version_byte, tail_place, bad_in_upstream, bad_in_revision, first_bad, bad_byte, fault_of, is_version}
use Rattle.deb_version.specs.declared.text.VersionFault.{VersionFault}
use Rattle.deb_version.specs.Spelling.{with_colon, with_hyphen}
use Rattle.deb_version.proofs.Spelled.{text_spelled}

-- ---- bytes
not_false : (b : Bool) → not b ≡ false → b ≡ true
not_false true h = refl
not_false false h = cc

missed : (a b : ℕ) → cond (nat_lt a b) (Some a) None ≡ None → b ≤ a
missed a b h = grind (arith, nat_tests)

none_bad : (p : ℕ → Bool) (xs : List ℕ) → position (λ c. not (p c)) xs ≡ None → list_all p xs ≡ true
none_bad p xs h =
    let le = missed (position_or_len (λ c. not (p c)) xs) (length xs) h in
    list_all-from_AllPass p xs (λ k d lt. not_false _ (fails_before_first (λ c. not (p c)) xs k d (omega arith)))

all_weaker : (p q : ℕ → Bool) → ((c : ℕ) → p c ≡ true → q c ≡ true) → (xs : List ℕ) → list_all p xs ≡ true → list_all q xs ≡ true
all_weaker p q w [] h = refl
all_weaker p q w (x ∷ xs) h =
    let parts = and_parts (p x) (list_all p xs) h in
    and_from (q x) (list_all q xs) (w x parts.0) (all_weaker p q w xs parts.1)

second_of_five : (a b c d e : Bool) → b ≡ true → ((((a || b) || c) || d) || e) ≡ true
second_of_five a b c d e h = grind arith

first_of_three : (a b c : Bool) → a ≡ true → ((a || b) || c) ≡ true
first_of_three a b c h = grind arith

last_weaker : (a has colon : Bool) → (a || (has && colon)) ≡ true → (a || (true && colon)) ≡ true
last_weaker a true colon h = h
last_weaker true false colon h = refl
last_weaker false false colon h = cc

of_revision : (c : ℕ) → is_revision_byte c ≡ true → is_version_byte c ≡ true
unfolding is_upstream_byte
of_revision c h = first_of_three (is_revision_byte c) (is_hyphen c) (true && is_colon c) h

of_digit : (c : ℕ) → is_digit c ≡ true → is_version_byte c ≡ true
unfolding is_revision_byte
of_digit c h = of_revision c (second_of_five (is_letter c) (is_digit c) (c == 46) (c == 43) (c == 126) h)

of_upstream : (has : Bool) (c : ℕ) → is_upstream_byte has c ≡ true → is_version_byte c ≡ true
unfolding is_upstream_byte
of_upstream has c h = last_weaker (is_revision_byte c || is_hyphen c) has (is_colon c) h

colon_is : is_version_byte 58 ≡ true
unfolding is_upstream_byte is_revision_byte is_digit
colon_is = refl

hyphen_is : is_version_byte 45 ≡ true
unfolding is_upstream_byte is_revision_byte is_digit
hyphen_is = refl

-- ---- the parts
pub record IsGood (text : List ℕ) : Type 0 where
  pub epoch : has_bad_epoch text ≡ false
  pub parts : has_empty_part text ≡ false
  pub bytes : first_bad text ≡ None

later : (b : Bool) (e : VersionFault) (others : Option VersionFault) → is_none (cond b (Some e) others) ≡ true → (b ≡ false) × (is_none others ≡ true)
later true e others h = cc
later false e others h = (refl, h)

no_byte : (o : Option ℕ) → is_none (bad_byte o) ≡ true → o ≡ None
no_byte None h = refl
no_byte (Some k) h = cc

good_parts : (text : List ℕ) → is_version text ≡ true → IsGood text
unfolding is_version fault_of
good_parts text h =
    let a = later (has_bad_epoch text) _ _ h in
    let b = later (has_empty_part text) _ _ a.1 in
    record { epoch = a.0; parts = b.0; bytes = no_byte (first_bad text) b.1 }

neither : {X : Type 0} (a b : Option X) → option_or a b ≡ None → (a ≡ None) × (b ≡ None)
neither None b h = (refl, h)
neither (Some x) b h = cc

no_place : (text tail : List ℕ) (o : Option ℕ) → tail_place text tail o ≡ None → o ≡ None
no_place text tail None h = refl
no_place text tail (Some k) h = cc

epoch_bytes : (o : Option (List ℕ)) (text : List ℕ) → epoch_of text ≡ o → has_bad_epoch text ≡ false → list_all is_version_byte (with_colon o) ≡ true
unfolding is_epoch
epoch_bytes None text e h = refl
epoch_bytes (Some digits) text e h =
    let good : is_epoch digits ≡ true = not_false _ (rw e at h) in
    let front = and_parts (not (is_nothing digits) && list_all is_digit digits) _ good in
    let all = and_parts (not (is_nothing digits)) (list_all is_digit digits) front.0 in
    list_all-append is_version_byte digits (58 ∷ []) ∙ and_from _ _ (all_weaker is_digit is_version_byte of_digit digits all.1) (and_from (is_version_byte 58) true colon_is refl)

upstream_bytes : (text : List ℕ) → first_bad text ≡ None → list_all is_version_byte (upstream_of text) ≡ true
unfolding bad_in_upstream
upstream_bytes text h =
    let none = no_place _ _ _ (neither (tail_place text (body_of text) (bad_in_upstream (is_some (epoch_of text)) (upstream_of text))) _ h).0 in
    all_weaker (is_upstream_byte (is_some (epoch_of text))) is_version_byte (of_upstream (is_some (epoch_of text))) (upstream_of text) (none_bad (is_upstream_byte (is_some (epoch_of text))) (upstream_of text) none)

revision_bytes : (o : Option (List ℕ)) → bad_in_revision (unwrap_or o []) ≡ None → list_all is_version_byte (with_hyphen o) ≡ true
unfolding bad_in_revision
revision_bytes None h = refl
revision_bytes (Some revision) h =
    and_from (is_version_byte 45) (list_all is_version_byte revision) hyphen_is (all_weaker is_revision_byte is_version_byte of_revision revision (none_bad is_revision_byte revision h))

-- each byte of a version may stand in one
pub version_bytes : (text : List ℕ) → is_version text ≡ true → list_all is_version_byte text ≡ true
version_bytes text h =
    let good = good_parts text h in
    let places = neither (tail_place text (body_of text) (bad_in_upstream (is_some (epoch_of text)) (upstream_of text))) (tail_place text (unwrap_or (revision_of text) []) (bad_in_revision (unwrap_or (revision_of text) []))) good.bytes in
    let epoch = epoch_bytes (epoch_of text) text refl good.epoch in
    let upstream = upstream_bytes text good.bytes in
    let revision = revision_bytes (revision_of text) (no_place _ _ _ places.1) in
    ap (list_all is_version_byte) (sym (text_spelled text)) ∙ list_all-append is_version_byte (with_colon (epoch_of text)) (upstream_of text ++ with_hyphen (revision_of text)) ∙ and_from _ _ epoch (list_all-append is_version_byte (upstream_of text) (with_hyphen (revision_of text)) ∙ and_from _ _ upstream revision)

some_byte : (xs : List ℕ) → is_nothing xs ≡ false → 0 < length xs
some_byte [] h = cc
some_byte (x ∷ xs) h = omega arith

first_false : (a b : Bool) → (a || b) ≡ false → a ≡ false
first_false a b h = grind arith

-- there is one at least
pub version_some : (text : List ℕ) → is_version text ≡ true → 0 < length text
version_some text h =
    let good = good_parts text h in
    let some = some_byte (upstream_of text) (first_false (is_nothing (upstream_of text)) _ good.parts) in
    omega (arith, ap length (text_spelled text), length-append (with_colon (epoch_of text)) (upstream_of text ++ with_hyphen (revision_of text)), length-append (upstream_of text) (with_hyphen (revision_of text)))
