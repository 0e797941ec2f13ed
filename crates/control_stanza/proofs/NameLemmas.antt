-- The set of names keeps up with the fields.
use Rattle.std.proofs.Common.{◌≡◌, ℕ, suc, zero, ◌+◌, ◌<◌, ◌≤◌, Bool, true, false, cond, ◌||◌, List, [], ◌∷◌, ◌++◌, length, take, drop, map, get_or, refl, sym, ap, subst, ◌∙◌, String, string_bytes}
use Rattle.std.specs.Char.{to_ascii_lowercase}
use Rattle.std.specs.Cmp.Lexicographic.{slice_cmp}
use Rattle.std.specs.Ordering.{nat_cmp}
use Rattle.std.specs.Str.{bytes_eq}
use Rattle.std.specs.String.{string_cmp}
use Rattle.std.specs.BTreeSet.{BTreeSet, UpdatesBy}
use Rattle.std.proofs.lemmas.List.{take_more, take-append-drop, take-append-le, append_assoc}
use Rattle.std.proofs.lemmas.List.Folds.{list_any-append}
use Rattle.std.proofs.lemmas.Map.Text.{btree_set_updates_text}
use Rattle.control_stanza.specs.declared.stanza.Field.{Field}
use Rattle.control_stanza.specs.Fields.{same_name, has_name}
use Rattle.control_stanza.specs.Reading.{go_on}
use Rattle.control_stanza.specs.Names.{Lists}

one_more : (a b : Bool) → a || (b || false) ≡ cond b true a
one_more true true = refl
one_more true false = refl
one_more false true = refl
one_more false false = refl

-- one name more, in lower case, and its field
pub lists_one_more : {Y : Type 0} (bytes : List ℕ) (names more : BTreeSet (String Y)) (above : List Field) (field : Field) → bytes ≡ map to_ascii_lowercase field.name → UpdatesBy string_cmp (λ k. slice_cmp nat_cmp bytes (string_bytes k)) names more true → Lists names above → Lists more (above ++ field ∷ [])
unfolding same_name
lists_one_more bytes names more above field is updates h name =
    btree_set_updates_text bytes names more true updates (map to_ascii_lowercase name)
    ∙ (λ i. cond (bytes_eq (is i) (map to_ascii_lowercase name)) true (h name i))
    ∙ sym (one_more (has_name above name) (same_name field.name name))
    ∙ sym (list_any-append (λ f. same_name f.name name) above (field ∷ []))

name_kept : (fields : List Field) (more : List ℕ) (n : ℕ) (name : List ℕ) → has_name (take n (go_on fields more)) name ≡ has_name (take n fields) name
name_kept fields more zero name = refl
name_kept [] more (suc n) name = refl
name_kept (f ∷ []) more (suc zero) name = refl
name_kept (f ∷ []) more (suc (suc n)) name = refl
name_kept (f ∷ g ∷ gs) more (suc n) name = ap (λ b. same_name f.name name || b) (name_kept (g ∷ gs) more n name)

-- a value that goes on changes no name
pub lists_go_on : {Y : Type 0} (names : BTreeSet (String Y)) (fields : List Field) (more : List ℕ) (n : ℕ) → Lists names (take n fields) → Lists names (take n (go_on fields more))
lists_go_on names fields more n h name = h name ∙ sym (name_kept fields more n name)

pub length_go_on : (fields : List Field) (more : List ℕ) → length (go_on fields more) ≡ length fields
length_go_on [] more = refl
length_go_on (f ∷ []) more = refl
length_go_on (f ∷ g ∷ gs) more = ap suc (length_go_on (g ∷ gs) more)

-- the next field of a list
pub lists_next : {Y : Type 0} (names : BTreeSet (String Y)) (above fields : List Field) (n : ℕ) (field : Field) → n < length fields → field ≡ get_or fields n field → Lists names (above ++ take n fields ++ field ∷ []) → Lists names (above ++ take (n + 1) fields)
lists_next names above fields n field small is h =
    subst (Lists names) (append_assoc above (take n fields) (field ∷ []) ∙ ap (λ l. above ++ l) (ap (λ f. take n fields ++ f ∷ []) is ∙ sym (take_more fields n field small))) h

-- the set of the first names, and then of all
pub lists_all : {Y : Type 0} (names more : BTreeSet (String Y)) (fields : List Field) (field : Field) (n : ℕ) → n ≤ length fields → Lists names (take n fields) → ((above : List Field) → Lists names above → Lists more (above ++ drop n (fields ++ field ∷ []))) → Lists more (fields ++ field ∷ [])
lists_all names more fields field n small h step =
    subst (Lists more) (ap (λ l. l ++ drop n (fields ++ field ∷ [])) (sym (take-append-le n fields (field ∷ []) small)) ∙ take-append-drop n (fields ++ field ∷ [])) (step (take n fields) h)

name_split : (n : ℕ) (fields : List Field) (name : List ℕ) → has_name fields name ≡ (has_name (take n fields) name || has_name (drop n fields) name)
name_split n fields name = ap (λ l. has_name l name) (sym (take-append-drop n fields)) ∙ list_any-append (λ f. same_name f.name name) (take n fields) (drop n fields)

pub found_above : (n : ℕ) (fields : List Field) (name : List ℕ) → has_name (take n fields) name ≡ true → has_name fields name ≡ true
found_above n fields name h = name_split n fields name ∙ ap (λ b. b || has_name (drop n fields) name) h

pub found_below : (n : ℕ) (fields : List Field) (name : List ℕ) → has_name (take n fields) name ≡ false → has_name fields name ≡ has_name (drop n fields) name
found_below n fields name h = name_split n fields name ∙ ap (λ b. b || has_name (drop n fields) name) h
