-- The number of a field Size.
use Rattle.std.proofs.Common.{◌≡◌, ◌≢◌, ℕ, ◌<◌, ◌^◌, Bool, true, false, not, List, [], codes, Option, Some, None, is_none, unwrap_or, refl, ap, sym, ◌∙◌}
use Rattle.std.specs.Option.{option_map}
use Rattle.std.specs.Fmt.{decimal}
use Rattle.std.specs.Str.Parse.{digits_value}
use Rattle.ap_text.specs.Decimals.{is_number}
use Rattle.ap_text.proofs.DecimalLemmas.{decimal_is_number, number_is_decimal}
use Rattle.control_stanza.specs.declared.stanza.Field.{Field}
use Rattle.control_stanza.specs.Fields.{value_of}
use Rattle.package_core.specs.declared.fault.Required.TheVariants.{NameField, VersionField, ArchitectureField, FilenameField, SizeField}
use Rattle.package_core.specs.declared.fault.PackageFault.TheVariants.{Missing, BadNumber}
use Rattle.package_core.specs.Fields.{text_in, is_other}
use Rattle.package_core.specs.Faults.{first_missing, bad_identity, bad_path, bad_said, fault_of}
use Rattle.package_core.specs.Card.{said_in}
use Rattle.package_core.proofs.PackageLemmas.{both_none, none_missing, not_first, is_there, is_good}

pub size_read : (text : List ℕ) (n : ℕ) → text ≡ decimal n → n < 2 ^ 64 → (is_number text ≡ true) × (n ≡ digits_value 10 text)
size_read text n e small =
    let is = decimal_is_number n small in
    (ap is_number e ∙ is.0, sym (ap (digits_value 10) e ∙ is.1))

pub size_refused : (text : List ℕ) → ((n : ℕ) → n < 2 ^ 64 → text ≢ decimal n) → is_number text ≡ false
size_refused text none = by_test (is_number text) refl
  where
    by_test : (b : Bool) → is_number text ≡ b → b ≡ false
    by_test true e = let d = number_is_decimal text e in absurd (none (digits_value 10 text) d.0 d.1)
    by_test false e = refl

pub size_written : (fields : List Field) (n : ℕ) → n < 2 ^ 64 → value_of fields (codes "Size") ≡ Some (decimal n) → (is_other is_number (value_of fields (codes "Size")) ≡ false) × ((said_in fields).size ≡ n)
size_written fields n small e =
    let is = decimal_is_number n small in
    (ap (is_other is_number) e ∙ ap not is.0, ap (λ (o : Option (List ℕ)). digits_value 10 (unwrap_or o [])) e ∙ is.1)

pub size_only : (fields : List Field) → fault_of fields ≡ None → value_of fields (codes "Size") ≡ Some (decimal (said_in fields).size)
unfolding fault_of bad_said
size_only fields h =
    let all = both_none (option_map Missing (first_missing fields)) _ h in
    let rest = both_none (bad_identity fields) _ all.1 in
    let last = both_none (bad_path fields) (bad_said fields) rest.1 in
    let a = not_first (is_none (value_of fields (codes "Package"))) NameField _ (none_missing (first_missing fields) all.0) in
    let b = not_first (is_none (value_of fields (codes "Version"))) VersionField _ a.1 in
    let c = not_first (is_none (value_of fields (codes "Architecture"))) ArchitectureField _ b.1 in
    let d = not_first (is_none (value_of fields (codes "Filename"))) FilenameField _ c.1 in
    let e = not_first (is_none (value_of fields (codes "Size"))) SizeField _ d.1 in
    let there = is_there (value_of fields (codes "Size")) e.0 in
    let good = not_first (is_other is_number (value_of fields (codes "Size"))) BadNumber _ last.1 in
    let number : is_number (text_in fields (codes "Size")) ≡ true = is_good is_number _ _ there good.0 in
    there ∙ ap Some (number_is_decimal (text_in fields (codes "Size")) number).1
