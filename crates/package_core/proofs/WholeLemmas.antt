-- The fields of a whole package's text have no fault, and describe that package.
use Rattle.std.proofs.Common.{◌≡◌, ℕ, Bool, true, false, not, ◌&&◌, ◌||◌, cond, leb, List, [], ◌∷◌, codes, length, Option, Some, None, is_some, unwrap_or, Ok, refl, ap, sym, ◌∙◌, arith}
use Rattle.std.specs.Option.{option_map, option_or, option_and_then}
use Rattle.std.specs.Str.Parse.{digits_value}
use Rattle.std.proofs.lemmas.Bool.{and_parts, and_from, le-leb}
use Rattle.hex.specs.Hex.{encode_lower}
use Rattle.ap_text.specs.Decimals.{is_number}
use Rattle.ap_text.specs.Names.{is_package_name, is_architecture}
use Rattle.ap_text.specs.Paths.{is_safe_path}
use Rattle.control_stanza.specs.declared.stanza.Field.{Field}
use Rattle.control_stanza.specs.Lines.{lines_of}
use Rattle.control_stanza.specs.Fields.{value_of}
use Rattle.control_stanza.specs.Reading.{stanzas_from}
use Rattle.control_stanza.proofs.Only.{only}
use Rattle.deb_version.specs.VersionText.{is_version}
use Rattle.package_core.specs.declared.fault.PackageFault.TheVariants.{Missing, BadName, BadVersion, BadArchitecture, BadSource, BadPath, BadNumber, BadDigest}
use Rattle.package_core.specs.SourceParts.{is_source}
use Rattle.package_core.specs.Fields.{text_in, is_other, without_dots, is_file_path, digest, is_digest, last_of, last_segment}
use Rattle.package_core.specs.Faults.{first_missing, bad_identity, bad_path, bad_said, fault_of}
use Rattle.digest_set.specs.declared.facts.Said.{Said}
use Rattle.digest_set.specs.declared.facts.Digests.{Digests}
use Rattle.package_core.specs.Card.{Card, IsPackage, said_of, path_in, card_of, package_text}
use Rattle.package_core.specs.Whole.{IsSaid, IsWhole, fields_at}
use Rattle.package_core.proofs.PathLemmas.{undotted, segment_is_short}
use Rattle.ap_text.proofs.DecimalLemmas.{decimal_is_number}
use Rattle.package_core.proofs.PlainLemmas.{digest_value}
use Rattle.package_core.proofs.ReadBack.{AllSay, all_say, known, one_segment_is, fields_read}
use Rattle.package_core.proofs.StanzaLaws.{one_of}

not_other : (good : List ℕ → Bool) (o : Option (List ℕ)) (t : List ℕ) → o ≡ Some t → good t ≡ true → is_other good o ≡ false
not_other good o t e h = ap (is_other good) e ∙ ap not h

-- the name of a file is short enough for a path
pub name_is_path : (p : Card) → IsPackage p → is_file_path p.file ≡ true
name_is_path p h =
    let short = segment_is_short p.file (one_segment_is p.file h.file_is h.one_segment) in
    and_from (leb (length p.file) 700) (is_safe_path p.file) (le-leb (length p.file) 700 (omega arith)) h.file_is

path_stays : (path : List ℕ) → is_file_path path ≡ true → without_dots path ≡ path
path_stays path h = undotted path (and_parts (leb (length path) 700) (is_safe_path path) h).1

-- the digests read back
record DigestsRead (p : Card) : Type 0 where
  md5 : digest 16 (encode_lower (unwrap_or p.said.md5 [])) ≡ p.said.md5
  sha1 : digest 20 (encode_lower (unwrap_or p.said.sha1 [])) ≡ p.said.sha1
  sha256 : digest 32 (encode_lower p.said.sha256) ≡ Some p.said.sha256

digests_read : (p : Card) → IsWhole p → DigestsRead p
digests_read p h =
    let both = and_parts (is_some p.said.sha1) (is_some p.said.md5) h.complete in
    let md5 = known 16 p.said.md5 both.1 h.said.md5 in
    let sha1 = known 20 p.said.sha1 both.0 h.said.sha1 in
    record { md5 = digest_value 16 _ md5.1 ∙ sym md5.0; sha1 = digest_value 20 _ sha1.1 ∙ sym sha1.0; sha256 = digest_value 32 _ h.said.sha256 }

-- ---- no fault
none_missing : (path : List ℕ) (p : Card) → AllSay path p → first_missing (fields_at path p) ≡ None
none_missing path p g = rw (g.name, g.version, g.arch, g.file, g.size, g.sha256) refl

good_identity : (path : List ℕ) (p : Card) → IsPackage p → AllSay path p → bad_identity (fields_at path p) ≡ None
unfolding bad_identity
good_identity path p h g =
    let a = not_other is_package_name _ _ g.name h.name_is in
    let b = not_other is_version _ _ g.version h.version_is in
    let c = not_other is_architecture _ _ g.arch h.arch_is in
    let d = ap (is_other is_source) g.source ∙ h.source in
    (λ i. cond (a i) (Some BadName) (cond (b i) (Some BadVersion) (cond (c i) (Some BadArchitecture) (cond (d i) (Some BadSource) None))))

good_path : (path : List ℕ) (p : Card) → is_file_path path ≡ true → AllSay path p → bad_path (fields_at path p) ≡ None
unfolding bad_path
good_path path p h g =
    let a = not_other (λ text. is_file_path (without_dots text)) _ _ g.file (ap is_file_path (path_stays path h) ∙ h) in
    (λ i. cond (a i) (Some BadPath) None)

good_said : (path : List ℕ) (p : Card) → IsWhole p → AllSay path p → bad_said (fields_at path p) ≡ None
unfolding bad_said
good_said path p h g =
    let both = and_parts (is_some p.said.sha1) (is_some p.said.md5) h.complete in
    let d = digests_read p h in
    let size = not_other is_number _ _ g.size (decimal_is_number p.said.size h.said.size).0 in
    let sha256 = not_other (is_digest 32) _ _ g.sha256 (ap is_some d.sha256) in
    let sha1 = not_other (is_digest 20) _ _ g.sha1 (ap is_some d.sha1 ∙ both.0) in
    let md5 = not_other (is_digest 16) _ _ g.md5 (ap is_some d.md5 ∙ both.1) in
    (λ i. cond (size i) (Some BadNumber) (cond (sha256 i || sha1 i || md5 i) (Some BadDigest) None))

pub no_fault : (path : List ℕ) (p : Card) → is_file_path path ≡ true → IsWhole p → fault_of (fields_at path p) ≡ None
unfolding fault_of
no_fault path p f h =
    let g = all_say path p h.described in
    let a = none_missing path p g in
    let b = good_identity path p h.described g in
    let c = good_path path p f g in
    let d = good_said path p h g in
    (λ i. option_or (option_map Missing (a i)) (option_or (b i) (option_or (c i) (d i))))

-- ---- the package described
said_text : (fields : List Field) (n t : List ℕ) → value_of fields n ≡ Some t → text_in fields n ≡ t
said_text fields n t e = ap (λ (o : Option (List ℕ)). unwrap_or o []) e

pub path_said : (path : List ℕ) (p : Card) → is_file_path path ≡ true → IsWhole p → path_in (fields_at path p) ≡ path
path_said path p f h = ap without_dots (said_text (fields_at path p) (codes "Filename") path (all_say path p h.described).file) ∙ path_stays path f

pub described : (path : List ℕ) (p : Card) → is_file_path path ≡ true → IsWhole p → card_of (fields_at path p) ≡ record p { file = last_segment path }
unfolding card_of
described path p f h =
    let g = all_say path p h.described in
    let fields = fields_at path p in
    let d = digests_read p h in
    let name = said_text fields (codes "Package") p.name g.name in
    let version = said_text fields (codes "Version") p.version g.version in
    let arch = said_text fields (codes "Architecture") p.arch g.arch in
    let file : last_segment (path_in fields) ≡ last_segment path = ap last_segment (path_said path p f h) in
    let size : digits_value 10 (text_in fields (codes "Size")) ≡ p.said.size = ap (digits_value 10) (said_text fields (codes "Size") _ g.size) ∙ (decimal_is_number p.said.size h.said.size).1 in
    let sha256 : unwrap_or (digest 32 (text_in fields (codes "SHA256"))) [] ≡ p.said.sha256 = ap (λ (t : List ℕ). unwrap_or (digest 32 t) []) (said_text fields (codes "SHA256") _ g.sha256) ∙ ap (λ (o : Option (List ℕ)). unwrap_or o []) d.sha256 in
    let sha1 : option_and_then (digest 20) (value_of fields (codes "SHA1")) ≡ p.said.sha1 = ap (option_and_then (digest 20)) g.sha1 ∙ d.sha1 in
    let md5 : option_and_then (digest 16) (value_of fields (codes "MD5sum")) ≡ p.said.md5 = ap (option_and_then (digest 16)) g.md5 ∙ d.md5 in
    (λ i. record { name = name i; version = version i; arch = arch i; stanza = g.own i; file = file i; said = record { size = size i; sha256 = sha256 i; sha1 = sha1 i; md5 = md5 i } })

-- at the name of its file a package is described itself
pub itself : (p : Card) → IsWhole p → card_of (fields_at p.file p) ≡ p
itself p h =
    let file : last_segment p.file ≡ p.file = ap last_of h.described.one_segment in
    described p.file p (name_is_path p h.described) h ∙ (λ i. record p { file = file i })

read_as : (p : Card) → IsWhole p → stanzas_from None 1 None (lines_of (package_text p)) ≡ Ok ((1, fields_at p.file p) ∷ [])
read_as p h = only None ((1, fields_at p.file p) ∷ []) 1 _ (fields_read p h)

-- whole packages with one text are one
pub one_package_text : (a b : Card) → IsWhole a → IsWhole b → package_text a ≡ package_text b → a ≡ b
one_package_text a b p q e =
    let fields = one_of (1, fields_at a.file a) (1, fields_at b.file b) _ _ (read_as a p) (read_as b q) (ap (λ (t : List ℕ). stanzas_from None 1 None (lines_of t)) e) in
    sym (itself a p) ∙ ap card_of fields ∙ itself b q

-- what is completed is whole
pub completed_is : (p : Card) (found : Digests) (said : Said) → IsPackage p → said ≡ said_of found → IsSaid said → IsWhole (record p { said = said })
completed_is p found said h e s = record {
  described = record { stanza = h.stanza; own = h.own; name = h.name; name_is = h.name_is; version = h.version; version_is = h.version_is; arch = h.arch; arch_is = h.arch_is; source = h.source; file_is = h.file_is; one_segment = h.one_segment };
  said = s;
  complete = ap (λ (t : Said). is_some t.sha1 && is_some t.md5) e;
}
