-- Lines that give one value each.
use Rattle.std.proofs.Common.{rules, ◌≡◌, ℕ, zero, suc, ◌<◌, ◌^◌, true, false, ◌∙◌, List, [], ◌∷◌, ◌++◌, Bool, get_or, Option, Some, None, IsTrue, IsFalse, refl, sym, ap, subst, arith}
use Rattle.std.specs.List.{list_all}
use Rattle.std.specs.Str.{IsUtf8, bytes_eq}
use Rattle.std.proofs.lemmas.Slice.Eq.{bytes_eq-Decides}
use Rattle.std.specs.Fmt.{decimal}
use Rattle.std.specs.Option.{MatchOption}
use Rattle.std.proofs.lemmas.Bool.{and_parts, false_from_ne_true, true≢false}
use Rattle.std.proofs.lemmas.Bool.Decides.{nat_tests}
use Rattle.std.proofs.lemmas.Fmt.{IsAscii-decimal}
use Rattle.std.proofs.lemmas.List.{append_cancel_left}
use Rattle.std.proofs.lemmas.Str.{IsUtf8-from_ascii}
use Rattle.ap_text.specs.Names.{is_name, is_name_byte, is_component}
use Rattle.catalogue_lines.specs.Lines.{IsLine}
use Rattle.machine_state.specs.Words.{blank_and}
use Rattle.catalogue_lines.specs.Reading.{NoLine}
use Rattle.catalogue_lines.proofs.LineLemmas.{line_unique}

name_byte_small : (b : ℕ) → is_name_byte b ≡ true → b < 128
name_byte_small b e = grind (arith, nat_tests)

name_bytes_ascii : (bs : List ℕ) → list_all is_name_byte bs ≡ true → (i : ℕ) → get_or bs i 0 < 128
name_bytes_ascii [] e zero = omega arith
name_bytes_ascii [] e (suc i) = omega arith
name_bytes_ascii (b ∷ bs) e zero = name_byte_small b (and_parts (is_name_byte b) (list_all is_name_byte bs) e).0
name_bytes_ascii (b ∷ bs) e (suc i) = name_bytes_ascii bs (and_parts (is_name_byte b) (list_all is_name_byte bs) e).1 i

pub name_utf8 : (bs : List ℕ) → is_name bs ≡ true → IsUtf8 bs
name_utf8 bs e = IsUtf8-from_ascii bs (name_bytes_ascii bs (and_parts _ (list_all is_name_byte bs) e).1)

-- what isn't UTF-8 is no name
pub no_name : (bs : List ℕ) → (IsUtf8 bs → ⊥) → is_name bs ≡ false
no_name bs h = false_from_ne_true (is_name bs) (λ e. h (name_utf8 bs e))

pub component_name : (name : List ℕ) → is_component name ≡ true → is_name name ≡ true
component_name name e = (and_parts (is_name name) _ e).0

pub not_value : (is : List ℕ → Bool) (found : Option (List ℕ)) (written a : List ℕ) → MatchOption found (IsFalse (is written)) (λ n. (n ≡ written) × IsTrue (is n)) → found ≡ None → IsTrue (is a) → written ≡ a → ⊥
not_value is None written a h e g same = let t : is written ≡ is a = ap is same in cc
not_value is (Some n) written a h e g same = cc

-- the line has the key, and behind it no good value
pub no_value : {A : Type 0} (f : A → List ℕ) (Good : A → Type 0) (text key written rest : List ℕ) → IsLine text (key ++ written) rest → ((a : A) → Good a → written ≡ f a → ⊥) → NoLine (λ a. key ++ f a) Good text
no_value f Good text key written rest l h a behind g m =
    h a g (append_cancel_left key written (f a) (line_unique text (key ++ written) (key ++ f a) rest behind l m).0)

pub no_key : {A : Type 0} (f : A → List ℕ) (Good : A → Type 0) (text key : List ℕ) → ((written behind : List ℕ) → IsLine text (key ++ written) behind → ⊥) → NoLine (λ a. key ++ f a) Good text
no_key f Good text key h a behind g m = h (f a) behind m

pub number_utf8 : (written : List ℕ) → (IsUtf8 written → ⊥) → (n : ℕ) → n < 2 ^ 64 → written ≡ decimal n → ⊥
number_utf8 written h n small e = h (subst IsUtf8 (sym e) (IsUtf8-from_ascii (decimal n) (IsAscii-decimal n small)))

pub apart : (a b : List ℕ) → false ≡ bytes_eq a b → a ≡ b → ⊥
apart a b e f = let t : bytes_eq b b ≡ true = itself b in cc
  where
    itself : (x : List ℕ) → bytes_eq x x ≡ true
    itself x = search (rules, bytes_eq-Decides)

-- what an option says
pub at_none : {B : Type 0} (found : Option B) (P : Type 0) (Q : B → Type 0) → MatchOption found P Q → found ≡ None → P
at_none None P Q h e = h
at_none (Some x) P Q h e = cc

pub at_some : {B : Type 0} (found : Option B) (P : Type 0) (Q : B → Type 0) (x : B) → MatchOption found P Q → found ≡ Some x → Q x
at_some None P Q x h e = cc
at_some (Some y) P Q x h e = let same : y ≡ x = cc in subst Q same h

-- what a pattern didn't fit holds nothing
pub at_default : {B : Type 0} (found : Option B) (P : Type 0) (Q : B → Type 0) → MatchOption found P Q → ((x : B) → found ≡ Some x → ⊥) → P
at_default None P Q h n = h
at_default (Some x) P Q h n = absurd (n x refl)

pub no_component : (a name : List ℕ) (is : Bool) → is_component a ≡ true → name ≡ a → is ≡ is_component name → is ≡ false → ⊥
no_component a name is g e told not_is = true≢false (sym g ∙ ap is_component (sym e) ∙ sym told ∙ not_is)

-- a setting tells its text
pub settings_apart : (a b : List ℕ) → blank_and a ≡ blank_and b → a ≡ b
settings_apart [] [] e = refl
settings_apart [] (y ∷ ys) e = cc
settings_apart (x ∷ xs) [] e = cc
settings_apart (x ∷ xs) (y ∷ ys) e = cc
