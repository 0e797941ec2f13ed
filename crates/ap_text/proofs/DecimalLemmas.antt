-- Decimal numbers as they are written are exactly the texts of digits without leading zeros.
use Rattle.std.proofs.Common.{◌≡◌, ◌≢◌, ℕ, suc, zero, ◌<◌, ◌^◌, Bool, true, false, not, ◌&&◌, ◌||◌, ◌==◌, nat_lt, nat_eq, List, length, get_or, Option, None, Result, Ok, Err, refl, ap, sym, ◌∙◌, subst, arith}
use Rattle.std.specs.Fmt.{decimal}
use Rattle.std.specs.List.{list_all}
use Rattle.std.specs.Option.{IfSome}
use Rattle.std.specs.Result.{OkIff, result_ok}
use Rattle.std.specs.Str.Parse.{digits_value, ParsesUnsigned}
use Rattle.std.proofs.lemmas.Bool.{and_parts, and_from, lt-ltb, ltb-true}
use Rattle.std.proofs.lemmas.Bool.Decides.{nat_tests}
use Rattle.std.proofs.lemmas.Str.Parse.{IsNumeralModel, IsDigitsTest, numerals_by_value, parse_digits}
use Rattle.std.proofs.lemmas.Fmt.{decimal-digits_value, digits_decimal, digits_value-decimal, decimal_nonempty, decimal_digit, first_decimal}
use Rattle.ap_text.specs.Decimals.{is_digit, has_number_form, is_number}

digits_test : IsDigitsTest (λ ds. list_all is_digit ds ≡ true)
digits_test = record {
  empty = refl;
  parts = λ c cs h. let p = and_parts (is_digit c) (list_all is_digit cs) h in (grind (arith, nat_tests, p.0), p.1);
  more = λ c cs r h. and_from (is_digit c) (list_all is_digit cs) (grind (arith, nat_tests, r)) h;
}

own : IsNumeralModel (λ ds. list_all is_digit ds ≡ true) (digits_value 10)
own = numerals_by_value (λ ds. list_all is_digit ds ≡ true) digits_test

one_zero : (n d : ℕ) → (nat_eq n 1 || not (d == 48)) ≡ true → d ≡ 48 → n ≡ 1
one_zero n d h e = grind (arith, nat_tests)

form_parts : (text : List ℕ) → has_number_form text ≡ true → (0 < length text) × (list_all is_digit text ≡ true) × (get_or text 0 0 ≡ 48 → length text ≡ 1)
unfolding has_number_form
form_parts text h =
    let outer = and_parts (nat_lt 0 (length text) && list_all is_digit text) (nat_eq (length text) 1 || not (get_or text 0 0 == 48)) h in
    let inner = and_parts (nat_lt 0 (length text)) (list_all is_digit text) outer.0 in
    (ltb-true 0 (length text) inner.0, inner.1, one_zero (length text) (get_or text 0 0) outer.1)

-- digits of a value below 2^64 are what their value is written as
pub form_is_decimal : (text : List ℕ) → has_number_form text ≡ true → digits_value 10 text < 2 ^ 64 → text ≡ decimal (digits_value 10 text)
form_is_decimal text h small =
    let parts = form_parts text h in
    sym (decimal-digits_value own text parts.1 parts.0 parts.2 small)

pub number_is_decimal : (text : List ℕ) → is_number text ≡ true → (digits_value 10 text < 2 ^ 64) × (text ≡ decimal (digits_value 10 text))
number_is_decimal text h =
    let parts = and_parts (has_number_form text) (nat_lt (digits_value 10 text) (2 ^ 64)) h in
    let small : digits_value 10 text < 2 ^ 64 = ltb-true _ _ parts.1 in
    (small, form_is_decimal text parts.0 small)

no_zero_first : (n : ℕ) → n < 2 ^ 64 → (nat_eq (length (decimal n)) 1 || not (get_or (decimal n) 0 0 == 48)) ≡ true
no_zero_first zero h = ap (λ (ds : List ℕ). nat_eq (length ds) 1 || not (get_or ds 0 0 == 48)) (decimal_digit 0 (omega arith))
no_zero_first (suc n) h = large (nat_eq (length (decimal (suc n))) 1) (get_or (decimal (suc n)) 0 0) (first_decimal (suc n) (omega arith) h)
  where
    large : (b : Bool) (d : ℕ) → 48 < d → (b || not (d == 48)) ≡ true
    large b d h = grind (arith, nat_tests)

pub decimal_has_form : (n : ℕ) → n < 2 ^ 64 → has_number_form (decimal n) ≡ true
unfolding has_number_form
decimal_has_form n h =
    and_from _ _ (and_from (nat_lt 0 (length (decimal n))) (list_all is_digit (decimal n)) (lt-ltb _ _ (decimal_nonempty n h)) (digits_decimal own n h)) (no_zero_first n h)

pub decimal_is_number : (n : ℕ) → n < 2 ^ 64 → (is_number (decimal n) ≡ true) × (digits_value 10 (decimal n) ≡ n)
decimal_is_number n h =
    let value = digits_value-decimal own n h in
    (and_from (has_number_form (decimal n)) (nat_lt (digits_value 10 (decimal n)) (2 ^ 64)) (decimal_has_form n h) (lt-ltb _ _ (omega (arith, value))), value)

-- what is parsed of such digits
pub form_parsed : {E : Type 0} (text : List ℕ) (r : Result ℕ E) → has_number_form text ≡ true → ParsesUnsigned 64 10 text r → OkIff r (digits_value 10 text < 2 ^ 64) (digits_value 10 text)
form_parsed text r f h = step r (parse_digits own 64 text r h (form_parts text f).1)
  where
    step : {E : Type 0} (r : Result ℕ E) → OkIff r ((0 < length text) × (digits_value 10 text < 2 ^ 64)) (digits_value 10 text) → OkIff r (digits_value 10 text < 2 ^ 64) (digits_value 10 text)
    step (Ok n) h = (h.0.1, h.1)
    step (Err e) h = λ small. h ((form_parts text f).0, small)

false_or_true : (b : Bool) → b ≡ true → b ≡ false → ⊥
false_or_true b t f = cc

-- what has another form is written of no number
pub no_decimal_without_form : (text : List ℕ) → has_number_form text ≡ false → (n : ℕ) → n < 2 ^ 64 → text ≢ decimal n
no_decimal_without_form text f n h e = false_or_true (has_number_form text) (ap has_number_form e ∙ decimal_has_form n h) f

pub parsed_is_written : {E : Type 0} (text : List ℕ) (r : Result ℕ E) (o : Option ℕ) → has_number_form text ≡ true → ParsesUnsigned 64 10 text r → o ≡ result_ok r → IfSome o (λ n. text ≡ decimal n)
parsed_is_written text r o f h e = subst (λ (o : Option ℕ). IfSome o (λ n. text ≡ decimal n)) (sym e) (step r (form_parsed text r f h))
  where
    step : {E : Type 0} (r : Result ℕ E) → OkIff r (digits_value 10 text < 2 ^ 64) (digits_value 10 text) → IfSome (result_ok r) (λ n. text ≡ decimal n)
    step (Ok n) h = form_is_decimal text f h.0 ∙ ap decimal (sym h.1)
    step (Err e) h = tt

pub unparsed_is_unwritten : {E : Type 0} (text : List ℕ) (r : Result ℕ E) (o : Option ℕ) → has_number_form text ≡ true → ParsesUnsigned 64 10 text r → o ≡ result_ok r → o ≡ None → (n : ℕ) → n < 2 ^ 64 → text ≢ decimal n
unparsed_is_unwritten text r o f h e none n small is = step r (form_parsed text r f h) (sym e ∙ none)
  where
    value : digits_value 10 text ≡ n
    value = ap (digits_value 10) is ∙ (decimal_is_number n small).1

    step : {E : Type 0} (r : Result ℕ E) → OkIff r (digits_value 10 text < 2 ^ 64) (digits_value 10 text) → result_ok r ≡ None → ⊥
    step (Ok m) h e = cc
    step (Err e) h _ = h (omega (arith, value))
