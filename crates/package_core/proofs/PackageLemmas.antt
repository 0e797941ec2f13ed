-- The package of a stanza without faults agrees with its own stanza.
use Rattle.std.proofs.Common.{◌≡◌, ℕ, Bool, true, false, not, ◌&&◌, ◌||◌, cond, List, [], ◌∷◌, map, codes, length, Option, Some, None, is_none, unwrap_or, Result, Ok, Err, refl, ap, sym, ◌∙◌, subst, arith, nat_eq, leb}
use Rattle.std.specs.List.{filter, find}
use Rattle.std.specs.Char.{to_ascii_lowercase}
use Rattle.std.specs.Str.{bytes_eq}
use Rattle.std.specs.Option.{option_map, option_or}
use Rattle.std.specs.Result.{IfOk}
use Rattle.std.proofs.lemmas.List.Elements.{filter_agree}
use Rattle.ap_text.specs.Names.{is_package_name, is_architecture}
use Rattle.ap_text.specs.Paths.{is_safe_path, segments}
use Rattle.control_stanza.specs.declared.stanza.Field.{Field}
use Rattle.control_stanza.specs.Fields.{same_name, value_of, is_stanza}
use Rattle.deb_version.specs.VersionText.{is_version}
use Rattle.package_core.specs.declared.package.Package.{Package}
use Rattle.package_core.specs.declared.fault.Required.{Required}
use Rattle.package_core.specs.declared.fault.Required.TheVariants.{NameField, VersionField, ArchitectureField, FilenameField}
use Rattle.package_core.specs.declared.fault.PackageFault.{PackageFault}
use Rattle.package_core.specs.declared.fault.PackageFault.TheVariants.{Missing, BadName, BadVersion, BadArchitecture, BadSource, BadPath}
use Rattle.package_core.specs.SourceParts.{is_source}
use Rattle.package_core.specs.Fields.{text_in, is_other, is_of_file, own_fields, is_file_path, without_dots, last_segment}
use Rattle.package_core.specs.Faults.{first_missing, bad_identity, bad_path, bad_said, fault_of}
use Rattle.package_core.specs.Card.{IsPackage, card_of, path_in}
use Rattle.std.proofs.lemmas.Bool.Decides.{nat_tests}
use Rattle.package_core.proofs.OwnLemmas.{filter-filter}
use Rattle.package_core.proofs.PathLemmas.{last_is_safe}

-- ---- what has no fault
pub both_none : {X : Type 0} (a b : Option X) → option_or a b ≡ None → (a ≡ None) × (b ≡ None)
both_none None b h = (refl, h)
both_none (Some x) b h = cc

pub none_missing : (m : Option Required) → option_map Missing m ≡ None → m ≡ None
none_missing None h = refl
none_missing (Some r) h = cc

pub not_first : {X : Type 0} (b : Bool) (x : X) (o : Option X) → cond b (Some x) o ≡ None → (b ≡ false) × (o ≡ None)
not_first true x o h = cc
not_first false x o h = (refl, h)

pub is_there : (o : Option (List ℕ)) → is_none o ≡ false → o ≡ Some (unwrap_or o [])
is_there None h = cc
is_there (Some t) h = refl

pub is_good : (good : List ℕ → Bool) (o : Option (List ℕ)) (t : List ℕ) → o ≡ Some t → is_other good o ≡ false → good t ≡ true
is_good good o t e h = held (good t) (ap (is_other good) (sym e) ∙ h)
  where
    held : (b : Bool) → not b ≡ false → b ≡ true
    held true h = refl
    held false h = cc

-- ---- looking up among the fields that stay
find_step : {X : Type 0} (p q : X → Bool) (x : X) (xs : List X) (b c : Bool) → b ≡ q x → c ≡ p x → (c ≡ true → b ≡ true) → find p (filter q xs) ≡ find p xs → find p (cond b (x ∷ filter q xs) (filter q xs)) ≡ cond c (Some x) (find p xs)
find_step p q x xs true c e f agree h = ap (λ v. cond v (Some x) (find p (filter q xs))) (sym f) ∙ ap (λ o. cond c (Some x) o) h
find_step p q x xs false true e f agree h = absurd (apart (agree refl))
  where
    apart : false ≡ true → ⊥
    apart e = cc
find_step p q x xs false false e f agree h = h

find-filter : {X : Type 0} (p q : X → Bool) → ((x : X) → p x ≡ true → q x ≡ true) → (xs : List X) → find p (filter q xs) ≡ find p xs
find-filter p q agree [] = refl
find-filter p q agree (x ∷ xs) = find_step p q x xs (q x) (p x) refl refl (agree x) (find-filter p q agree xs)

abbrev lower : List ℕ → List ℕ
lower name = map to_ascii_lowercase name

pub eq_bytes : (xs ys : List ℕ) → bytes_eq xs ys ≡ true → xs ≡ ys
eq_bytes [] [] h = refl
eq_bytes [] (y ∷ ys) h = cc
eq_bytes (x ∷ xs) [] h = cc
eq_bytes (x ∷ xs) (y ∷ ys) h = step x y xs ys (nat_eq x y) (same x y) (eq_bytes xs ys) h
  where
    same : (x y : ℕ) → nat_eq x y ≡ true → x ≡ y
    same x y h = grind (arith, nat_tests)

    step : (x y : ℕ) (xs ys : List ℕ) (b : Bool) → (b ≡ true → x ≡ y) → (bytes_eq xs ys ≡ true → xs ≡ ys) → (b && bytes_eq xs ys) ≡ true → x ∷ xs ≡ y ∷ ys
    step x y xs ys true e f h = (λ i. e refl i ∷ f h i)
    step x y xs ys false e f h = cc

-- a name that is another one but for case is of the file where that one is
pub same_kind : (a n : List ℕ) → same_name a n ≡ true → is_of_file a ≡ is_of_file n
unfolding same_name
same_kind a n h = ap (λ (l : List ℕ). bytes_eq l (lower (codes "Filename")) || bytes_eq l (lower (codes "Size")) || bytes_eq l (lower (codes "MD5sum")) || bytes_eq l (lower (codes "SHA1")) || bytes_eq l (lower (codes "SHA256")) || bytes_eq l (lower (codes "SHA512"))) (eq_bytes (lower a) (lower n) h)

pub own_value : (fields : List Field) (n : List ℕ) → is_of_file n ≡ false → value_of (own_fields fields) n ≡ value_of fields n
unfolding value_of own_fields
own_value fields n h = ap (option_map (λ (f : Field). f.value)) (find-filter (λ (f : Field). same_name f.name n) (λ (f : Field). not (is_of_file f.name)) (λ f e. ap not (same_kind f.name n e ∙ h)) fields)

pub name_stays : is_of_file (codes "Package") ≡ false
unfolding same_name
name_stays = refl

pub version_stays : is_of_file (codes "Version") ≡ false
unfolding same_name
version_stays = refl

pub architecture_stays : is_of_file (codes "Architecture") ≡ false
unfolding same_name
architecture_stays = refl

pub source_stays : is_of_file (codes "Source") ≡ false
unfolding same_name
source_stays = refl

twice : (b : Bool) → (b && b) ≡ b
twice true = refl
twice false = refl

own_again : (fields : List Field) → own_fields (own_fields fields) ≡ own_fields fields
unfolding own_fields
own_again fields =
    filter-filter (λ (f : Field). not (is_of_file f.name)) (λ (f : Field). not (is_of_file f.name)) fields
    ∙ filter_agree (λ (f : Field). not (is_of_file f.name) && not (is_of_file f.name)) (λ (f : Field). not (is_of_file f.name)) (λ f. twice (not (is_of_file f.name))) fields

-- ---- the four required texts that identity and path rest on
record Needed (fields : List Field) : Type 0 where
  name : value_of fields (codes "Package") ≡ Some (text_in fields (codes "Package"))
  version : value_of fields (codes "Version") ≡ Some (text_in fields (codes "Version"))
  arch : value_of fields (codes "Architecture") ≡ Some (text_in fields (codes "Architecture"))
  filename : value_of fields (codes "Filename") ≡ Some (text_in fields (codes "Filename"))

needed : (fields : List Field) → first_missing fields ≡ None → Needed fields
needed fields h =
    let a = not_first (is_none (value_of fields (codes "Package"))) NameField _ h in
    let b = not_first (is_none (value_of fields (codes "Version"))) VersionField _ a.1 in
    let c = not_first (is_none (value_of fields (codes "Architecture"))) ArchitectureField _ b.1 in
    let d = not_first (is_none (value_of fields (codes "Filename"))) FilenameField _ c.1 in
    record { name = is_there _ a.0; version = is_there _ b.0; arch = is_there _ c.0; filename = is_there _ d.0 }

record Identified (fields : List Field) : Type 0 where
  name : is_other is_package_name (value_of fields (codes "Package")) ≡ false
  version : is_other is_version (value_of fields (codes "Version")) ≡ false
  arch : is_other is_architecture (value_of fields (codes "Architecture")) ≡ false
  source : is_other is_source (value_of fields (codes "Source")) ≡ false

identified : (fields : List Field) → bad_identity fields ≡ None → Identified fields
unfolding bad_identity
identified fields h =
    let a = not_first (is_other is_package_name (value_of fields (codes "Package"))) BadName _ h in
    let b = not_first (is_other is_version (value_of fields (codes "Version"))) BadVersion _ a.1 in
    let c = not_first (is_other is_architecture (value_of fields (codes "Architecture"))) BadArchitecture _ b.1 in
    let d = not_first (is_other is_source (value_of fields (codes "Source"))) BadSource _ c.1 in
    record { name = a.0; version = b.0; arch = c.0; source = d.0 }

second_true : (a b : Bool) → (a && b) ≡ true → b ≡ true
second_true true b h = h
second_true false b h = cc

safe_path : (fields : List Field) → Needed fields → bad_path fields ≡ None → is_safe_path (path_in fields) ≡ true
unfolding bad_path
safe_path fields n h =
    let p = not_first (is_other (λ text. is_file_path (without_dots text)) (value_of fields (codes "Filename"))) BadPath _ h in
    second_true (leb (length (path_in fields)) 700) (is_safe_path (path_in fields)) (is_good (λ text. is_file_path (without_dots text)) _ _ n.filename p.0)

pub package_is : (fields : List Field) → fault_of fields ≡ None → is_stanza (own_fields fields) ≡ true → segments (last_segment (path_in fields)) ≡ last_segment (path_in fields) ∷ [] → IsPackage (card_of fields)
unfolding fault_of card_of
package_is fields h stanza one =
    let all = both_none (option_map Missing (first_missing fields)) _ h in
    let rest = both_none (bad_identity fields) _ all.1 in
    let last = both_none (bad_path fields) (bad_said fields) rest.1 in
    let n = needed fields (none_missing (first_missing fields) all.0) in
    let i = identified fields rest.0 in
    record {
      stanza = stanza;
      own = own_again fields;
      name = own_value fields (codes "Package") name_stays ∙ n.name;
      name_is = is_good is_package_name _ _ n.name i.name;
      version = own_value fields (codes "Version") version_stays ∙ n.version;
      version_is = is_good is_version _ _ n.version i.version;
      arch = own_value fields (codes "Architecture") architecture_stays ∙ n.arch;
      arch_is = is_good is_architecture _ _ n.arch i.arch;
      source = ap (is_other is_source) (own_value fields (codes "Source") source_stays) ∙ i.source;
      file_is = last_is_safe (path_in fields) (last_segment (path_in fields)) (safe_path fields n last.0) refl one;
      one_segment = one;
    }

pub made_is : (fields : List Field) (r : Result (Package × List ℕ) PackageFault) → IfOk r (λ m. (m.0 ≡ card_of fields) × (m.1 ≡ path_in fields)) → IfOk r (λ m. fault_of fields ≡ None) → IfOk r (λ m. segments m.0.file ≡ m.0.file ∷ []) → IfOk r (λ m. is_stanza m.0.stanza ≡ true) → IfOk r (λ m. IsPackage m.0)
unfolding card_of
made_is fields (Err e) v g o s = v
made_is fields (Ok m) (e, path) g o s =
    let stanza : is_stanza (own_fields fields) ≡ true = ap (λ (p : Package). is_stanza p.stanza) (sym e) ∙ s in
    let one : segments (last_segment (path_in fields)) ≡ last_segment (path_in fields) ∷ [] = subst (λ (p : Package). segments p.file ≡ p.file ∷ []) e o in
    subst IsPackage (sym e) (package_is fields g stanza one)
