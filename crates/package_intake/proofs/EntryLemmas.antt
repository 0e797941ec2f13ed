-- The packages that the stanzas of an index describe.
use Rattle.std.proofs.Common.{◌≡◌, ℕ, Bool, true, false, not, cond, ◌||◌, ◌==◌, List, [], ◌∷◌, map, codes, Option, Some, None, is_none, is_some, unwrap_or, Result, Ok, Err, refl, sym, ap, ◌∙◌, subst, arith}
use Rattle.std.specs.Option.{IfSome, option_and_then, option_map, option_or}
use Rattle.std.specs.Result.{result_ok}
use Rattle.std.specs.List.{AllByRecursion, list_any, onto_first}
use Rattle.std.proofs.lemmas.Bool.{or_parts}
use Rattle.hex.specs.declared.error.FromHexError.{FromHexError}
use Rattle.hex.specs.Hex.{decode_sized}
use Rattle.hex.proofs.HexLemmas.{decode_of-ok, decode_sized-ok, decode_sized-twice}
use Rattle.ap_text.specs.Decimals.{is_number}
use Rattle.ap_text.specs.Paths.{segments}
use Rattle.ap_text.proofs.DecimalLemmas.{number_is_decimal}
use Rattle.control_stanza.specs.declared.stanza.Field.{Field}
use Rattle.control_stanza.specs.Fields.{is_stanza, value_of, without_name}
use Rattle.control_stanza.proofs.FieldLemmas.{stanza_without}
use Rattle.package_core.specs.declared.fault.Required.{Required}
use Rattle.package_core.specs.declared.fault.Required.TheVariants.{NameField, VersionField, ArchitectureField, FilenameField, SizeField, Sha256Field}
use Rattle.package_core.specs.declared.fault.PackageFault.TheVariants.{Missing, BadNumber, BadDigest}
use Rattle.package_core.specs.Fields.{digest, is_digest, is_other, last_of, last_segment, own_fields, text_in}
use Rattle.package_core.specs.Faults.{bad_identity, bad_path, bad_said, fault_of, first_missing, has_other_digest}
use Rattle.package_core.specs.Card.{card_of, path_in, said_in}
use Rattle.package_core.specs.Whole.{IsDigest, IsSaid}
use Rattle.package_core.proofs.OwnLemmas.{six_gone}
use Rattle.package_core.proofs.PackageLemmas.{package_is}
use Rattle.index_text.specs.Index.{ArePackages, AreEntries, Lists, entry_of}
use Rattle.control_stanza.specs.declared.read.TheConstants.{MOST_STANZA_BYTES}
use Rattle.control_stanza.specs.Lines.{lines_of}
use Rattle.package_intake.specs.Index.{IndexEntry}
use Rattle.package_intake.proofs.StanzaLemmas.{AreStanzas, all_good}

-- ---- a stanza without the fields of the file
own_good : (fields : List Field) → is_stanza fields ≡ true → is_stanza (own_fields fields) ≡ true
own_good fields h =
    let a = stanza_without fields (codes "Filename") h in
    let b = stanza_without (without_name fields (codes "Filename")) (codes "Size") a in
    let c = stanza_without (without_name (without_name fields (codes "Filename")) (codes "Size")) (codes "MD5sum") b in
    let d = stanza_without (without_name (without_name (without_name fields (codes "Filename")) (codes "Size")) (codes "MD5sum")) (codes "SHA1") c in
    let e = stanza_without (without_name (without_name (without_name (without_name fields (codes "Filename")) (codes "Size")) (codes "MD5sum")) (codes "SHA1")) (codes "SHA256") d in
    let f = stanza_without (without_name (without_name (without_name (without_name (without_name fields (codes "Filename")) (codes "Size")) (codes "MD5sum")) (codes "SHA1")) (codes "SHA256")) (codes "SHA512") e in
    ap is_stanza (sym (six_gone fields)) ∙ f

-- ---- the last segment of a path
abbrev has_slash : List ℕ → Bool
has_slash text = list_any (λ b. b == 47) text

abbrev NoSlashes : List (List ℕ) → Type 0
NoSlashes parts = AllByRecursion (λ s. has_slash s ≡ false) parts

onto_none : (x : ℕ) (parts : List (List ℕ)) → (x == 47) ≡ false → NoSlashes parts → NoSlashes (onto_first x parts)
onto_none x [] e h = ((λ i. e i || false), tt)
onto_none x (part ∷ parts) e h = ((λ i. e i || h.0 i), h.1)

no_slashes : (text : List ℕ) → NoSlashes (segments text)
no_slashes [] = (refl, tt)
no_slashes (x ∷ xs) = by_test (x == 47) refl (no_slashes xs)
  where
    by_test : (b : Bool) → (x == 47) ≡ b → NoSlashes (segments xs) → NoSlashes (cond b ([] ∷ segments xs) (onto_first x (segments xs)))
    by_test true e h = (refl, h)
    by_test false e h = onto_none x (segments xs) e h

last_none : (parts : List (List ℕ)) → NoSlashes parts → has_slash (last_of parts) ≡ false
last_none [] h = refl
last_none (s ∷ []) h = h.0
last_none (s ∷ t ∷ ss) h = last_none (t ∷ ss) h.1

alone : (text : List ℕ) → has_slash text ≡ false → segments text ≡ text ∷ []
alone [] h = refl
alone (x ∷ xs) h =
    let parts = or_parts (x == 47) (has_slash xs) h in
    ap (λ b. cond b ([] ∷ segments xs) (onto_first x (segments xs))) parts.0 ∙ ap (onto_first x) (alone xs parts.1)

one_last : (path : List ℕ) → segments (last_segment path) ≡ last_segment path ∷ []
one_last path = alone (last_segment path) (last_none (segments path) (no_slashes path))

-- ---- what is said of the file
both_none : {X : Type 0} (a b : Option X) → option_or a b ≡ None → (a ≡ None) × (b ≡ None)
both_none None b h = (refl, h)
both_none (Some x) b h = cc

not_first : {X : Type 0} (b : Bool) (x : X) (o : Option X) → cond b (Some x) o ≡ None → (b ≡ false) × (o ≡ None)
not_first true x o h = cc
not_first false x o h = (refl, h)

none_missing : (m : Option Required) → option_map Missing m ≡ None → m ≡ None
none_missing None h = refl
none_missing (Some r) h = cc

is_there : (o : Option (List ℕ)) → is_none o ≡ false → o ≡ Some (unwrap_or o [])
is_there None h = cc
is_there (Some t) h = refl

is_good : (good : List ℕ → Bool) (o : Option (List ℕ)) (t : List ℕ) → o ≡ Some t → is_other good o ≡ false → good t ≡ true
is_good good o t e h = held (good t) (ap (is_other good) (sym e) ∙ h)
  where
    held : (b : Bool) → not b ≡ false → b ≡ true
    held true h = refl
    held false h = cc

-- what decodes is so many bytes
decoded : (size : ℕ) (text bytes : List ℕ) → decode_sized text size ≡ Ok bytes → IsDigest size bytes
decoded size text bytes h =
    let long = decode_sized-ok text size bytes h in
    let ok = decode_of-ok text bytes (sym (decode_sized-twice text size long) ∙ h) in
    record { size_is = omega (arith, long, ok.2); bytes_are = ok.3 }

found_digest : (size : ℕ) (text : List ℕ) → IfSome (digest size text) (IsDigest size)
found_digest size text = by_result (decode_sized text size) refl
  where
    by_result : (r : Result (List ℕ) FromHexError) → decode_sized text size ≡ r → IfSome (result_ok r) (IsDigest size)
    by_result (Ok bytes) e = decoded size text bytes e
    by_result (Err x) e = tt

some_digest : (size : ℕ) (text : List ℕ) → is_digest size text ≡ true → IsDigest size (unwrap_or (digest size text) [])
some_digest size text h = by_option (digest size text) h (found_digest size text)
  where
    by_option : (o : Option (List ℕ)) → is_some o ≡ true → IfSome o (IsDigest size) → IsDigest size (unwrap_or o [])
    by_option None e d = cc
    by_option (Some bytes) e d = d

perhaps_digest : (size : ℕ) (o : Option (List ℕ)) → IfSome (option_and_then (digest size) o) (IsDigest size)
perhaps_digest size None = tt
perhaps_digest size (Some text) = found_digest size text

record Needed (fields : List Field) : Type 0 where
  size : value_of fields (codes "Size") ≡ Some (text_in fields (codes "Size"))
  sha256 : value_of fields (codes "SHA256") ≡ Some (text_in fields (codes "SHA256"))

needed : (fields : List Field) → first_missing fields ≡ None → Needed fields
needed fields h =
    let a = not_first (is_none (value_of fields (codes "Package"))) NameField _ h in
    let b = not_first (is_none (value_of fields (codes "Version"))) VersionField _ a.1 in
    let c = not_first (is_none (value_of fields (codes "Architecture"))) ArchitectureField _ b.1 in
    let d = not_first (is_none (value_of fields (codes "Filename"))) FilenameField _ c.1 in
    let e = not_first (is_none (value_of fields (codes "Size"))) SizeField _ d.1 in
    let f = not_first (is_none (value_of fields (codes "SHA256"))) Sha256Field _ e.1 in
    record { size = is_there _ e.0; sha256 = is_there _ f.0 }

said_good : (fields : List Field) → Needed fields → bad_said fields ≡ None → IsSaid (said_in fields)
unfolding bad_said
said_good fields n h =
    let a = not_first (is_other is_number (value_of fields (codes "Size"))) BadNumber _ h in
    let b = not_first (has_other_digest fields) BadDigest None a.1 in
    let both = or_parts (is_other (is_digest 32) (value_of fields (codes "SHA256")) || is_other (is_digest 20) (value_of fields (codes "SHA1"))) (is_other (is_digest 16) (value_of fields (codes "MD5sum"))) b.0 in
    let c = or_parts (is_other (is_digest 32) (value_of fields (codes "SHA256"))) (is_other (is_digest 20) (value_of fields (codes "SHA1"))) both.0 in
    let number = is_good is_number _ _ n.size a.0 in
    record {
      size = (number_is_decimal (text_in fields (codes "Size")) number).0;
      sha256 = some_digest 32 (text_in fields (codes "SHA256")) (is_good (is_digest 32) _ _ n.sha256 c.0);
      sha1 = perhaps_digest 20 (value_of fields (codes "SHA1"));
      md5 = perhaps_digest 16 (value_of fields (codes "MD5sum"));
    }

said_of_entry : (fields : List Field) → fault_of fields ≡ None → IsSaid (said_in fields)
unfolding fault_of
said_of_entry fields h =
    let all = both_none (option_map Missing (first_missing fields)) _ h in
    let rest = both_none (bad_identity fields) _ all.1 in
    let last = both_none (bad_path fields) (bad_said fields) rest.1 in
    said_good fields (needed fields (none_missing (first_missing fields) all.0)) last.1

card_said : (fields : List Field) → fault_of fields ≡ None → IsSaid (card_of fields).said
unfolding card_of
card_said fields h = said_of_entry fields h

-- ---- each of an index
entries_good : (stanzas : List (ℕ × List Field)) → AreStanzas stanzas → AreEntries stanzas → ArePackages (map entry_of stanzas)
entries_good [] s h = tt
entries_good (x ∷ xs) s h = ((package_is x.1 h.0.binary (own_good x.1 s.0) (one_last (path_in x.1)), card_said x.1 h.0.binary), entries_good xs s.1 h.1)

pub listed_packages : (text : List ℕ) (entries : List IndexEntry) → Lists text entries → ArePackages entries
listed_packages text entries l =
    subst ArePackages (sym l.described) (entries_good l.stanzas (all_good (Some MOST_STANZA_BYTES) 1 (lines_of text) l.stanzas l.made_of) l.are_entries)
