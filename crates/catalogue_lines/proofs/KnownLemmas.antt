-- One package more.
use Rattle.std.proofs.Common.{◌≡◌, ◌⊎◌, inl, inr, ℕ, zero, suc, ◌+◌, ◌-◌, ◌<◌, ◌≤◌, ◌^◌, Bool, true, false, cond, List, [], ◌∷◌, ◌++◌, length, get_or, Option, Some, None, IfSome, codes, refl, sym, ap, ◌∙◌, subst, arith, append_assoc, length-append}
use Rattle.std.specs.Prelude.{slice_get}
use Rattle.std.specs.Option.{SomeIff}
use Rattle.std.specs.Map.{update}
use Rattle.std.specs.Fmt.{decimal}
use Rattle.std.specs.Str.{bytes_eq, IsUtf8}
use Rattle.std.specs.List.{list_all}
use Rattle.std.specs.Bool.{nat_lt}
use Rattle.std.proofs.lemmas.Bool.{true≢false, cases_lt, and_parts}
use Rattle.std.proofs.lemmas.Bool.Decides.{nat_tests}
use Rattle.std.proofs.lemmas.Str.{IsUtf8-from_ascii}
use Rattle.std.proofs.lemmas.Fmt.{decimal_injective}
use Rattle.std.proofs.lemmas.List.{append_cancel_left}
use Rattle.hex.specs.Hex.{encode_lower, lower_digits}
use Rattle.hex.proofs.HexLemmas.{IsAscii-encode_with}
use Rattle.sha2.specs.Sha256.{sha256}
use Rattle.package_core.specs.Card.{Card, package_text}
use Rattle.package_core.specs.Whole.{IsWhole, IsTextOf}
use Rattle.machine_state.specs.declared.limit.Limit.TheVariants.{Catalogue}
use Rattle.machine_state.specs.Limits.{limit_number}
use Rattle.machine_state.specs.State.{text_length}
use Rattle.catalogue_lines.specs.Lines.{IsLine}
use Rattle.catalogue_lines.specs.Pieces.{packed, package_line, piece_text, Begins}
use Rattle.catalogue_lines.specs.SetLines.{id_of}
use Rattle.catalogue_lines.specs.Reading.{PlaceIs, RoomIs}
use Rattle.catalogue_lines.proofs.LineLemmas.{same_bytes, equal_bytes, line_unique}
use Rattle.catalogue_lines.proofs.PlainLemmas.{digits_plain}
use Rattle.catalogue_lines.proofs.TakesLemmas.{same_length, package_closed, packed_front}

-- ---- what is left of the limit
text_length_push : (before : List Card) (new : Card) → text_length (before ++ new ∷ []) ≡ text_length before + length (package_text new)
text_length_push [] new = plus (length (package_text new))
  where
    plus : (n : ℕ) → n + 0 ≡ 0 + n
    plus n = omega arith
text_length_push (p ∷ ps) new = let e = text_length_push ps new in omega arith

pub room_none : (room : Option ℕ) → room ≡ None → (before : List Card) (new : Card) → RoomIs before room → limit_number Catalogue < text_length (before ++ new ∷ [])
room_none None e before new h = let t = text_length_push before new in omega arith
room_none (Some r) e before new h = cc

less_some : (q r used : ℕ) (result : Option ℕ) → q ≡ r → SomeIff result (used ≤ r) (r - used) → (before : List Card) (new : Card) → q + text_length before ≡ limit_number Catalogue → used ≡ length (package_text new) → RoomIs (before ++ new ∷ []) result
less_some q r used None e s before new h u =
    let t = text_length_push before new in
    elim (cases_lt r used) [ inl lt ↦ (omega arith) | inr ge ↦ absurd (s ge) ]
less_some q r used (Some x) e s before new h u =
    let t = text_length_push before new in
    let a = s.0 in
    let b = s.1 in
    omega arith

pub room_some : (room result : Option ℕ) (r used : ℕ) → room ≡ Some r → SomeIff result (used ≤ r) (r - used) → (before : List Card) (new : Card) → RoomIs before room → used ≡ length (package_text new) → RoomIs (before ++ new ∷ []) result
room_some None result r used e s before new h u = cc
room_some (Some q) result r used e s before new h u = let same : q ≡ r = cc in less_some q r used result same s before new h u

-- ---- places
at_push : (old : List Card) (new : Card) (i : ℕ) (p : Card) → slice_get (old ++ new ∷ []) i ≡ Some p → (slice_get old i ≡ Some p) ⊎ (new ≡ p)
at_push [] new zero p e = inr cc
at_push [] new (suc i) p e = cc
at_push (x ∷ xs) new zero p e = inl e
at_push (x ∷ xs) new (suc i) p e = at_push xs new i p e

at_last : (old : List Card) (new : Card) → slice_get (old ++ new ∷ []) (length old) ≡ Some new
at_last [] new = refl
at_last (x ∷ xs) new = at_last xs new

at_front : (old : List Card) (new : Card) (i : ℕ) (p : Card) → slice_get old i ≡ Some p → slice_get (old ++ new ∷ []) i ≡ Some p
at_front [] new i p e = cc
at_front (x ∷ xs) new zero p e = e
at_front (x ∷ xs) new (suc i) p e = at_front xs new i p e

pub places_push : (f g : List ℕ → Option ℕ) (old : List Card) (new : Card) (key : List ℕ) (place : ℕ) → key ≡ id_of new → place ≡ length old → ((cs : List ℕ) → g cs ≡ update bytes_eq f key (Some place) cs)
    → ((id : List ℕ) → PlaceIs old id (f id)) → (id : List ℕ) → PlaceIs (old ++ new ∷ []) id (g id)
places_push f g old new key place k l u h id = subst (PlaceIs (old ++ new ∷ []) id) (sym (u id)) (by_test (bytes_eq key id) refl)
  where
    apart : (x : Card) → bytes_eq key id ≡ false → new ≡ x → id_of x ≡ id → ⊥
    apart x b e i =
        let t : bytes_eq id id ≡ false = ap (λ z. bytes_eq z id) (sym (k ∙ ap id_of e ∙ i)) ∙ b in
        let s : bytes_eq id id ≡ true = equal_bytes id in true≢false (sym s ∙ t)

    kept : (o : Option ℕ) → bytes_eq key id ≡ false → PlaceIs old id o → PlaceIs (old ++ new ∷ []) id o
    kept None b q = λ i p e same. elim (at_push old new i p e) [ inl before ↦ q i p before same | inr last ↦ apart p b last same ]
    kept (Some i) b q = (q.0, at_front old new i q.0 q.1, q.2)

    by_test : (b : Bool) → bytes_eq key id ≡ b → PlaceIs (old ++ new ∷ []) id (cond b (Some place) (f id))
    by_test true e = (new, ap (slice_get (old ++ new ∷ [])) l ∙ at_last old new, sym k ∙ same_bytes key id e)
    by_test false e = kept (f id) e (h id)

below : (xs : List ℕ) → list_all (λ c. nat_lt c 128) xs ≡ true → (i : ℕ) → get_or xs i 0 < 128
below [] h zero = omega arith
below [] h (suc i) = omega arith
below (x ∷ xs) h zero = one x (and_parts (nat_lt x 128) (list_all (λ c. nat_lt c 128) xs) h).0
  where
    one : (x : ℕ) → nat_lt x 128 ≡ true → x < 128
    one x e = grind (arith, nat_tests)
below (x ∷ xs) h (suc i) = below xs (and_parts (nat_lt x 128) (list_all (λ c. nat_lt c 128) xs) h).1 i

pub id_utf8 : (p : Card) → IsUtf8 (id_of p)
unfolding id_of
id_utf8 p = IsUtf8-from_ascii (encode_lower (sha256 (package_text p))) (IsAscii-encode_with lower_digits (sha256 (package_text p)) (below lower_digits refl))

pub key_is : (key text : List ℕ) (new : Card) → key ≡ encode_lower (sha256 text) → text ≡ package_text new → key ≡ id_of new
unfolding id_of
key_is key text new e t = e ∙ ap (λ x. encode_lower (sha256 x)) t

-- ---- a package at the front of a text
pub front_short : (text behind : List ℕ) (p : Card) → text ≡ piece_text (packed p) ++ behind → length (package_text p) ≤ length text
front_short text behind p e =
    let a = ap length (e ∙ packed_front p behind) in
    let b = length-append (codes "package ") (decimal (length (package_text p)) ++ (10 ∷ (package_text p ++ behind))) in
    let c = length-append (decimal (length (package_text p))) (10 ∷ (package_text p ++ behind)) in
    let d = length-append (package_text p) behind in
    omega arith

pub front_line : (text behind : List ℕ) (p : Card) → length (package_text p) < 2 ^ 64 → text ≡ piece_text (packed p) ++ behind → IsLine text (package_line (length (package_text p))) (package_text p ++ behind)
front_line text behind p small e = record {
  plain = digits_plain (length (package_text p)) small;
  ended = inl (e ∙ append_assoc (package_line (length (package_text p))) (10 ∷ package_text p) behind);
}

-- the text goes on behind the line with the package's text
pub rest_of : (text rest behind : List ℕ) (n : ℕ) (p : Card) → length text < 2 ^ 64 → n < 2 ^ 64 → IsLine text (package_line n) rest → text ≡ piece_text (packed p) ++ behind → (rest ≡ package_text p ++ behind) × (length (package_text p) ≡ n)
rest_of text rest behind n p small few l e =
    let short : length (package_text p) < 2 ^ 64 = (let f = front_short text behind p e in omega arith) in
    let same = line_unique text (package_line n) (package_line (length (package_text p))) rest (package_text p ++ behind) l (front_line text behind p short e) in
    (same.1, decimal_injective _ _ short few (sym (append_cancel_left (codes "package ") _ _ same.0)))

pub own_text : (own rest behind after : List ℕ) (n : ℕ) (p : Card) → rest ≡ own ++ after → length own ≡ n → rest ≡ package_text p ++ behind → length (package_text p) ≡ n → own ≡ package_text p
own_text own rest behind after n p e l f m = (same_length own (package_text p) after behind (l ∙ sym m) (sym e ∙ f)).0

some_text : (p : Card) → package_text p ≡ [] → ⊥
some_text p e = let c = package_closed p in of c.0 (sym e ∙ c.1)
  where
    of : (front : List ℕ) → [] ≡ front ++ 10 ∷ [] → ⊥
    of [] h = cc
    of (x ∷ xs) h = cc

pub begins_with : (text rest own behind : List ℕ) (n : ℕ) (p : Card) → IsLine text (package_line n) rest → rest ≡ own ++ behind → length own ≡ n → IsTextOf own p → Begins text (packed p) behind
begins_with text rest own behind n p l e m t = (t.whole, elim l.ended [ inl f ↦ whole f | inr f ↦ absurd (empty own (sym e ∙ f.1) t.text) ])
  where
    empty : (own : List ℕ) → own ++ behind ≡ [] → package_text p ≡ own → ⊥
    empty [] h g = some_text p g
    empty (x ∷ xs) h g = cc

    whole : text ≡ package_line n ++ 10 ∷ rest → text ≡ piece_text (packed p) ++ behind
    whole f =
        f ∙ (λ i. package_line (size i) ++ 10 ∷ (e ∙ ap (λ x. x ++ behind) (sym t.text)) i) ∙ sym (append_assoc (package_line (length (package_text p))) (10 ∷ package_text p) behind)
      where
        size : n ≡ length (package_text p)
        size = sym m ∙ ap length (sym t.text)

pub last_place : (n : ℕ) (whole old : List Card) (new : Card) → n ≡ length whole → whole ≡ old ++ new ∷ [] → n - 1 ≡ length old
last_place n whole old new e h = let a = ap length h ∙ length-append old (new ∷ []) in omega arith

pub textual : (found : Option Card) (own : List ℕ) (p : Card) → found ≡ None → ((q : Card) → IsTextOf own q → found ≡ Some q) → IsWhole p → own ≡ package_text p → ⊥
textual found own p none only w e = let t = only p (record { whole = w; text = sym e }) in apart found none t
  where
    apart : (o : Option Card) → o ≡ None → o ≡ Some p → ⊥
    apart None a b = cc
    apart (Some q) a b = cc

pub read_text_is : (found : Option Card) (own : List ℕ) (p : Card) → found ≡ Some p → IfSome found (IsTextOf own) → IsTextOf own p
read_text_is None own p e h = cc
read_text_is (Some q) own p e h = let same : q ≡ p = cc in subst (IsTextOf own) same h

pub read_only : (found : Option Card) (own : List ℕ) (p q : Card) → found ≡ Some q → ((r : Card) → IsTextOf own r → found ≡ Some r) → IsWhole p → own ≡ package_text p → p ≡ q
read_only found own p q is only w e = same found is (only p (record { whole = w; text = sym e }))
  where
    same : (o : Option Card) → o ≡ Some q → o ≡ Some p → p ≡ q
    same None a b = cc
    same (Some r) a b = cc
