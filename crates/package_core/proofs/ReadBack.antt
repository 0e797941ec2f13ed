-- The text of a package, with its file at any path, reads back as the package.
use Rattle.std.proofs.Common.{◌≡◌, ◌≢◌, ℕ, Bool, true, false, not, ◌||◌, cond, leb, List, [], ◌∷◌, ◌++◌, codes, length, Option, Some, None, is_some, unwrap_or, refl, ap, sym, ◌∙◌, subst, arith, append_assoc, append-nil}
use Rattle.std.specs.List.{list_all, list_any, filter, find}
use Rattle.std.specs.Option.{option_map, option_or, IfSome}
use Rattle.std.specs.Fmt.{decimal}
use Rattle.std.proofs.lemmas.Bool.{and_parts, and_from, not-true}
use Rattle.std.proofs.lemmas.List.Elements.{filter-append}
use Rattle.std.proofs.lemmas.List.Folds.{list_all-append, list_any-append, find-append}
use Rattle.hex.specs.Hex.{encode_lower}
use Rattle.ap_text.specs.Paths.{segments, is_segment, is_safe_path}
use Rattle.control_stanza.specs.declared.stanza.Field.{Field}
use Rattle.control_stanza.specs.Lines.{is_field_name, is_name_byte, is_first_byte, lines_of}
use Rattle.control_stanza.specs.Fields.{same_name, value_of, is_field, are_distinct, is_stanza}
use Rattle.control_stanza.specs.Spelled.{Stanzas}
use Rattle.control_stanza.specs.Written.{field_text, stanza_text}
use Rattle.control_stanza.proofs.WriteLemmas.{text_reads}
use Rattle.package_core.specs.Fields.{is_of_file, own_fields}
use Rattle.package_core.specs.Card.{Card, IsPackage, line, file_text, package_text}
use Rattle.package_core.specs.Whole.{IsDigest, IsWhole, IsTextOf, field, file_fields, fields_at}
use Rattle.package_core.proofs.PlainLemmas.{IsPlainText, plain_value, plain_gap, plain_number, plain_digest}
use Rattle.package_core.proofs.PathLemmas.{safe_is_plain}
use Rattle.package_core.proofs.PackageLemmas.{same_kind, own_value, name_stays, version_stays, architecture_stays, source_stays}

-- ---- the values of the five fields
pub record ArePlain (path : List ℕ) (p : Card) : Type 0 where
  pub file : IsPlainText path
  pub size : IsPlainText (decimal p.said.size)
  pub md5 : IsPlainText (encode_lower (unwrap_or p.said.md5 []))
  pub sha1 : IsPlainText (encode_lower (unwrap_or p.said.sha1 []))
  pub sha256 : IsPlainText (encode_lower p.said.sha256)

pub known : (size : ℕ) (o : Option (List ℕ)) → is_some o ≡ true → IfSome o (IsDigest size) → (o ≡ Some (unwrap_or o [])) × IsDigest size (unwrap_or o [])
known size None h i = cc
known size (Some bytes) h i = (refl, i)

pub one_segment_is : (name : List ℕ) → is_safe_path name ≡ true → segments name ≡ name ∷ [] → is_segment name ≡ true
one_segment_is name safe one = (and_parts (is_segment name) true (ap (list_all is_segment) (sym one) ∙ (and_parts (leb (length name) 1000) (list_all is_segment (segments name)) safe).1)).0

pub are_plain : (path : List ℕ) (p : Card) → is_safe_path path ≡ true → IsWhole p → ArePlain path p
are_plain path p safe h =
    let both = and_parts (is_some p.said.sha1) (is_some p.said.md5) h.complete in
    record {
      file = (let f = safe_is_plain path safe in record { some = f.0; visible = f.1 });
      size = plain_number p.said.size h.said.size;
      md5 = plain_digest 16 _ (omega arith) (known 16 p.said.md5 both.1 h.said.md5).1;
      sha1 = plain_digest 20 _ (omega arith) (known 20 p.said.sha1 both.0 h.said.sha1).1;
      sha256 = plain_digest 32 _ (omega arith) h.said.sha256;
    }

-- ---- the text is that of the fields
text_append : (xs ys : List Field) → stanza_text (xs ++ ys) ≡ stanza_text xs ++ stanza_text ys
text_append [] ys = refl
text_append (x ∷ xs) ys = ap (λ (t : List ℕ). field_text x ++ t) (text_append xs ys) ∙ sym (append_assoc (field_text x) (stanza_text xs) (stanza_text ys))

line_is : (name value : List ℕ) → IsPlainText value → field_text (field name value) ≡ line name value
unfolding field_text
line_is name value h = rw (plain_gap value h) (simp append_assoc)

in_a_row : (a b c d e : List ℕ) → a ++ b ++ c ++ d ++ e ≡ a ++ (b ++ (c ++ (d ++ (e ++ []))))
in_a_row a b c d e = simp (append_assoc, append-nil)

file_text_is : (path : List ℕ) (p : Card) → ArePlain path p → file_text path p.said ≡ stanza_text (file_fields path p.said)
unfolding file_text file_fields
file_text_is path p h =
    let a = sym (line_is (codes "Filename") path h.file) in
    let b = sym (line_is (codes "Size") (decimal p.said.size) h.size) in
    let c = sym (line_is (codes "MD5sum") (encode_lower (unwrap_or p.said.md5 [])) h.md5) in
    let d = sym (line_is (codes "SHA1") (encode_lower (unwrap_or p.said.sha1 [])) h.sha1) in
    let e = sym (line_is (codes "SHA256") (encode_lower p.said.sha256) h.sha256) in
    in_a_row (line (codes "Filename") path) (line (codes "Size") (decimal p.said.size)) (line (codes "MD5sum") (encode_lower (unwrap_or p.said.md5 []))) (line (codes "SHA1") (encode_lower (unwrap_or p.said.sha1 []))) (line (codes "SHA256") (encode_lower p.said.sha256))
    ∙ (λ i. a i ++ (b i ++ (c i ++ (d i ++ (e i ++ [])))))

pub text_is : (path : List ℕ) (p : Card) → is_safe_path path ≡ true → IsWhole p → stanza_text p.stanza ++ file_text path p.said ≡ stanza_text (fields_at path p)
text_is path p safe h = ap (λ (t : List ℕ). stanza_text p.stanza ++ t) (file_text_is path p (are_plain path p safe h)) ∙ sym (text_append p.stanza (file_fields path p.said))

-- ---- the fields are a stanza
own : Field → Bool
own f = not (is_of_file f.name)

five_are_fields : (path : List ℕ) (p : Card) → ArePlain path p → list_all is_field (file_fields path p.said) ≡ true
unfolding file_fields is_field_name is_name_byte is_first_byte
five_are_fields path p h =
    rw (plain_value path h.file.visible, plain_value (decimal p.said.size) h.size.visible, plain_value (encode_lower (unwrap_or p.said.md5 [])) h.md5.visible, plain_value (encode_lower (unwrap_or p.said.sha1 [])) h.sha1.visible, plain_value (encode_lower p.said.sha256) h.sha256.visible) refl

five_are_distinct : (path : List ℕ) (p : Card) → are_distinct (file_fields path p.said) ≡ true
unfolding file_fields same_name
five_are_distinct path p = refl

no_other : (a b c d e g : Bool) → not (a || b || c || d || e || g) ≡ true → (a || (b || (c || (d || (e || false))))) ≡ false
no_other a b c d e g h = grind arith

none_like : (path : List ℕ) (p : Card) (f : Field) → own f ≡ true → list_any (λ g. same_name f.name g.name) (file_fields path p.said) ≡ false
unfolding own file_fields
none_like path p f h = no_other (same_name f.name (codes "Filename")) (same_name f.name (codes "Size")) (same_name f.name (codes "MD5sum")) (same_name f.name (codes "SHA1")) (same_name f.name (codes "SHA256")) (same_name f.name (codes "SHA512")) h

both_distinct : (path : List ℕ) (p : Card) (fs : List Field) → are_distinct (filter own fs) ≡ true → are_distinct (filter own fs ++ file_fields path p.said) ≡ true
both_distinct path p [] h = five_are_distinct path p
both_distinct path p (f ∷ fs) h = by_test (own f) refl (both_distinct path p fs) h
  where
    neither : (a b : Bool) → a ≡ false → b ≡ false → not (a || b) ≡ true
    neither a b e g = grind arith

    by_test : (b : Bool) → own f ≡ b → (are_distinct (filter own fs) ≡ true → are_distinct (filter own fs ++ file_fields path p.said) ≡ true) → are_distinct (cond b (f ∷ filter own fs) (filter own fs)) ≡ true → are_distinct (cond b (f ∷ filter own fs) (filter own fs) ++ file_fields path p.said) ≡ true
    by_test true e more h =
        let q = and_parts (not (list_any (λ g. same_name f.name g.name) (filter own fs))) (are_distinct (filter own fs)) h in
        let fresh : list_any (λ g. same_name f.name g.name) (filter own fs) ≡ false = not-true _ q.0 in
        and_from _ _ (ap not (list_any-append (λ (g : Field). same_name f.name g.name) (filter own fs) (file_fields path p.said)) ∙ neither _ _ fresh (none_like path p f e)) (more q.1)
    by_test false e more h = more h

pub stanza_is : (path : List ℕ) (p : Card) → is_safe_path path ≡ true → IsWhole p → is_stanza (fields_at path p) ≡ true
unfolding is_stanza own_fields own
stanza_is path p safe h =
    let q = and_parts (list_all is_field p.stanza) (are_distinct p.stanza) h.described.stanza in
    let d : are_distinct (filter own p.stanza) ≡ true = ap are_distinct h.described.own ∙ q.1 in
    and_from (list_all is_field (fields_at path p)) (are_distinct (fields_at path p))
    (list_all-append is_field p.stanza (file_fields path p.said) ∙ and_from _ _ q.0 (five_are_fields path p (are_plain path p safe h)))
    (ap (λ (fs : List Field). are_distinct (fs ++ file_fields path p.said)) (sym h.described.own) ∙ both_distinct path p p.stanza d)

some_field : (path : List ℕ) (xs : List Field) (p : Card) → xs ++ file_fields path p.said ≢ []
unfolding file_fields
some_field path [] p = λ e. cc
some_field path (x ∷ xs) p = λ e. cc

-- the text of a whole package is read as its fields alone
pub fields_read : (p : Card) → IsWhole p → Stanzas None 1 (lines_of (package_text p)) ((1, fields_at p.file p) ∷ [])
unfolding package_text
fields_read p h =
    subst (λ (t : List ℕ). Stanzas None 1 (lines_of t) ((1, fields_at p.file p) ∷ [])) (sym (text_is p.file p h.described.file_is h)) (text_reads None (fields_at p.file p) (stanza_is p.file p h.described.file_is h) (some_field p.file p.stanza p) refl)

pub fields_read_of : (bytes : List ℕ) (p : Card) → IsTextOf bytes p → Stanzas None 1 (lines_of bytes) ((1, fields_at p.file p) ∷ [])
fields_read_of bytes p h = subst (λ (t : List ℕ). Stanzas None 1 (lines_of t) ((1, fields_at p.file p) ∷ [])) h.text (fields_read p h.whole)

-- ---- what the fields say
find_none : {X : Type 0} (p q : X → Bool) → ((x : X) → p x ≡ true → q x ≡ false) → (xs : List X) → find p (filter q xs) ≡ None
find_none p q apart [] = refl
find_none p q apart (x ∷ xs) = step p q x xs (q x) (p x) refl refl (apart x) (find_none p q apart xs)
  where
    step : {X : Type 0} (p q : X → Bool) (x : X) (xs : List X) (b c : Bool) → b ≡ q x → c ≡ p x → (c ≡ true → b ≡ false) → find p (filter q xs) ≡ None → find p (cond b (x ∷ filter q xs) (filter q xs)) ≡ None
    step p q x xs true true e f h g = absurd (cross (h refl))
      where
        cross : true ≡ false → ⊥
        cross e = cc
    step p q x xs true false e f h g = ap (λ v. cond v (Some x) (find p (filter q xs))) (sym f) ∙ g
    step p q x xs false c e f h g = g

gone : (fields : List Field) (n : List ℕ) → is_of_file n ≡ true → find (λ f. same_name f.name n) (own_fields fields) ≡ None
unfolding own_fields
gone fields n h = find_none (λ (f : Field). same_name f.name n) (λ (f : Field). not (is_of_file f.name)) (λ f e. ap not (same_kind f.name n e ∙ h)) fields

of_file : (path : List ℕ) (p : Card) → IsPackage p → (n : List ℕ) → is_of_file n ≡ true → value_of (fields_at path p) n ≡ value_of (file_fields path p.said) n
unfolding value_of
of_file path p h n e =
    let none : find (λ (f : Field). same_name f.name n) p.stanza ≡ None = ap (find (λ (f : Field). same_name f.name n)) (sym h.own) ∙ gone p.stanza n e in
    ap (option_map (λ (f : Field). f.value)) (find-append (λ (f : Field). same_name f.name n) p.stanza (file_fields path p.said) ∙ ap (λ (o : Option Field). option_or o (find (λ (f : Field). same_name f.name n) (file_fields path p.said))) none)

five_are_of_file : (path : List ℕ) (p : Card) → own_fields (file_fields path p.said) ≡ []
unfolding own_fields file_fields same_name
five_are_of_file path p = refl

own_of_all : (path : List ℕ) (p : Card) → IsPackage p → own_fields (fields_at path p) ≡ p.stanza
unfolding own_fields
own_of_all path p h =
    filter-append (λ (f : Field). not (is_of_file f.name)) p.stanza (file_fields path p.said)
    ∙ ap (λ (fs : List Field). own_fields p.stanza ++ fs) (five_are_of_file path p) ∙ append-nil (own_fields p.stanza) ∙ h.own

own_value_of_all : (path : List ℕ) (p : Card) → IsPackage p → (n : List ℕ) → is_of_file n ≡ false → value_of (fields_at path p) n ≡ value_of p.stanza n
own_value_of_all path p h n e = sym (own_value (fields_at path p) n e) ∙ ap (λ (fs : List Field). value_of fs n) (own_of_all path p h)

-- what the fields of a whole package say, name by name
pub record AllSay (path : List ℕ) (p : Card) : Type 0 where
  pub own : own_fields (fields_at path p) ≡ p.stanza
  pub name : value_of (fields_at path p) (codes "Package") ≡ Some p.name
  pub version : value_of (fields_at path p) (codes "Version") ≡ Some p.version
  pub arch : value_of (fields_at path p) (codes "Architecture") ≡ Some p.arch
  pub source : value_of (fields_at path p) (codes "Source") ≡ value_of p.stanza (codes "Source")
  pub file : value_of (fields_at path p) (codes "Filename") ≡ Some path
  pub size : value_of (fields_at path p) (codes "Size") ≡ Some (decimal p.said.size)
  pub md5 : value_of (fields_at path p) (codes "MD5sum") ≡ Some (encode_lower (unwrap_or p.said.md5 []))
  pub sha1 : value_of (fields_at path p) (codes "SHA1") ≡ Some (encode_lower (unwrap_or p.said.sha1 []))
  pub sha256 : value_of (fields_at path p) (codes "SHA256") ≡ Some (encode_lower p.said.sha256)

pub all_say : (path : List ℕ) (p : Card) → IsPackage p → AllSay path p
unfolding value_of file_fields same_name
all_say path p h = record {
  own = own_of_all path p h;
  name = own_value_of_all path p h (codes "Package") name_stays ∙ h.name;
  version = own_value_of_all path p h (codes "Version") version_stays ∙ h.version;
  arch = own_value_of_all path p h (codes "Architecture") architecture_stays ∙ h.arch;
  source = own_value_of_all path p h (codes "Source") source_stays;
  file = of_file path p h (codes "Filename") refl;
  size = of_file path p h (codes "Size") refl;
  md5 = of_file path p h (codes "MD5sum") refl;
  sha1 = of_file path p h (codes "SHA1") refl;
  sha256 = of_file path p h (codes "SHA256") refl;
}
