-- What is found of a source in a text is what the text names.
use Rattle.std.proofs.Common.{◌≡◌, ℕ, suc, ◌+◌, ◌-◌, ◌<◌, Bool, true, false, not, ◌&&◌, cond, nat_lt, List, [], ◌∷◌, ◌++◌, length, take, drop, reverse, get_or, Option, Some, None, refl, ap, sym, ◌∙◌, subst, arith, append_assoc, append-nil}
use Rattle.std.specs.Prelude.{position}
use Rattle.std.specs.List.{list_all, take_while, prefix_len, position_or_len}
use Rattle.std.proofs.lemmas.Bool.{and_parts, and_from}
use Rattle.std.proofs.lemmas.Bool.Decides.{nat_tests}
use Rattle.std.proofs.lemmas.List.{length-append, length-reverse, reverse-append, reverse-reverse, take-append-drop}
use Rattle.std.proofs.lemmas.List.Folds.{list_all-append, length-prefix_len}
use Rattle.std.proofs.lemmas.List.Quantifiers.{position-Some}
use Rattle.std.proofs.Math.Seq.{take-append_seam, drop-append_seam, drop-append-add, drop-cons}
use Rattle.ap_text.specs.Names.{is_name_byte, is_name, is_package_name}
use Rattle.deb_version.specs.VersionText.{is_version, is_version_byte, is_upstream_byte, is_revision_byte}
use Rattle.deb_version.specs.Cuts.{is_digit}
use Rattle.deb_version.proofs.VersionBytes.{version_bytes, version_some}
use Rattle.package_core.specs.Source.{is_gap, AreGaps, IsSource}
use Rattle.package_core.specs.SourceParts.{is_opening, gaps_before, gaps_behind, without_gaps_before, without_gaps_behind, before_closing, named, parts_at, source_parts, are_source, is_source}
use Rattle.package_core.proofs.SourceLemmas.{closing_found, closing_only}

-- ---- gaps
-- a byte that is neither a gap nor an opening parenthesis
abbrev is_other_byte : ℕ → Bool
is_other_byte c = not (is_gap c) && not (is_opening c)

all_weaker : (p q : ℕ → Bool) → ((c : ℕ) → p c ≡ true → q c ≡ true) → (xs : List ℕ) → list_all p xs ≡ true → list_all q xs ≡ true
all_weaker p q w [] h = refl
all_weaker p q w (x ∷ xs) h =
    let parts = and_parts (p x) (list_all p xs) h in
    and_from (q x) (list_all q xs) (w x parts.0) (all_weaker p q w xs parts.1)

all_reversed : (p : ℕ → Bool) (xs : List ℕ) → list_all p xs ≡ true → list_all p (reverse xs) ≡ true
all_reversed p [] h = refl
all_reversed p (x ∷ xs) h =
    let parts = and_parts (p x) (list_all p xs) h in
    ap (list_all p) (reverse-append (x ∷ []) xs) ∙ list_all-append p (reverse xs) (x ∷ []) ∙ and_from _ _ (all_reversed p xs parts.1) (and_from (p x) true parts.0 refl)

run_passes : (p : ℕ → Bool) (xs : List ℕ) → list_all p (take (prefix_len p xs) xs) ≡ true
run_passes p [] = refl
run_passes p (x ∷ xs) = by_test (p x) refl (run_passes p xs)
  where
    by_test : (b : Bool) → p x ≡ b → list_all p (take (prefix_len p xs) xs) ≡ true → list_all p (take (cond b (1 + prefix_len p xs) 0) (x ∷ xs)) ≡ true
    by_test true h more = let e : 1 + prefix_len p xs ≡ suc (prefix_len p xs) = omega arith in subst (λ n. list_all p (take n (x ∷ xs)) ≡ true) (sym e) (and_from (p x) _ h more)
    by_test false h more = refl

-- the run of gaps in front of another byte
run_stops : (p : ℕ → Bool) (gaps : List ℕ) (x : ℕ) (xs : List ℕ) → list_all p gaps ≡ true → p x ≡ false → prefix_len p (gaps ++ x ∷ xs) ≡ length gaps
run_stops p [] x xs h n = ap (λ b. cond b (1 + prefix_len p xs) 0) n
run_stops p (g ∷ gaps) x xs h n =
    let parts = and_parts (p g) (list_all p gaps) h in
    let more = run_stops p gaps x xs parts.1 n in
    ap (λ b. cond b (1 + prefix_len p (gaps ++ x ∷ xs)) 0) parts.0 ∙ omega (arith, more)

run_all : (p : ℕ → Bool) (gaps : List ℕ) → list_all p gaps ≡ true → prefix_len p gaps ≡ length gaps
run_all p [] h = refl
run_all p (g ∷ gaps) h =
    let parts = and_parts (p g) (list_all p gaps) h in
    ap (λ b. cond b (1 + prefix_len p gaps) 0) parts.0 ∙ omega (arith, run_all p gaps parts.1)

run_length : (p : ℕ → Bool) (xs : List ℕ) → length (take_while p xs) ≡ prefix_len p xs
run_length p xs = length-prefix_len p xs

no_gap : (x : ℕ) → is_other_byte x ≡ true → is_gap x ≡ false
no_gap x h = grind (arith, and_parts (not (is_gap x)) (not (is_opening x)) h)

no_opening : (x : ℕ) → is_other_byte x ≡ true → is_opening x ≡ false
no_opening x h = grind (arith, and_parts (not (is_gap x)) (not (is_opening x)) h)

-- gaps in front of others are the gaps in front
gaps_cut : (gaps xs : List ℕ) → AreGaps gaps → 0 < length xs → list_all is_other_byte xs ≡ true → (ys : List ℕ) → gaps_before (gaps ++ (xs ++ ys)) ≡ length gaps
gaps_cut gaps [] g some h ys = absurd (omega arith)
gaps_cut gaps (x ∷ xs) g some h ys =
    run_length is_gap (gaps ++ x ∷ (xs ++ ys)) ∙ run_stops is_gap gaps x (xs ++ ys) g (no_gap x (and_parts (is_other_byte x) (list_all is_other_byte xs) h).0)

cut_before : (gaps xs ys : List ℕ) → AreGaps gaps → 0 < length xs → list_all is_other_byte xs ≡ true → without_gaps_before (gaps ++ (xs ++ ys)) ≡ xs ++ ys
cut_before gaps xs ys g some h = ap (λ n. drop n (gaps ++ (xs ++ ys))) (gaps_cut gaps xs g some h ys) ∙ drop-append_seam gaps (xs ++ ys)

-- gaps behind others are the gaps at the end
gaps_at_end : (gaps rest : List ℕ) → list_all is_gap gaps ≡ true → list_all is_other_byte rest ≡ true → prefix_len is_gap (gaps ++ rest) ≡ length gaps
gaps_at_end gaps [] g h = ap (prefix_len is_gap) (append-nil gaps) ∙ run_all is_gap gaps g
gaps_at_end gaps (x ∷ xs) g h = run_stops is_gap gaps x xs g (no_gap x (and_parts (is_other_byte x) (list_all is_other_byte xs) h).0)

cut_behind : (xs gaps : List ℕ) → AreGaps gaps → list_all is_other_byte xs ≡ true → without_gaps_behind (xs ++ gaps) ≡ xs
cut_behind xs gaps g h =
    let count : gaps_behind (xs ++ gaps) ≡ length gaps =
    run_length is_gap (reverse (xs ++ gaps)) ∙ ap (prefix_len is_gap) (reverse-append xs gaps) ∙ gaps_at_end (reverse gaps) (reverse xs) (all_reversed is_gap gaps g) (all_reversed is_other_byte xs h) ∙ length-reverse gaps in
    let n : length (xs ++ gaps) - gaps_behind (xs ++ gaps) ≡ length xs = omega (arith, count, length-append xs gaps) in
    ap (λ k. take k (xs ++ gaps)) n ∙ take-append_seam xs gaps

-- ---- bytes of names and versions
name_byte_other : (c : ℕ) → is_name_byte c ≡ true → is_other_byte c ≡ true
name_byte_other c h = grind (arith, nat_tests)

version_byte_other : (c : ℕ) → is_version_byte c ≡ true → is_other_byte c ≡ true
unfolding is_upstream_byte is_revision_byte is_digit
version_byte_other c h = grind (arith, nat_tests)

name_others : (name : List ℕ) → is_package_name name ≡ true → list_all is_other_byte name ≡ true
name_others name h =
    let two = and_parts (is_name name && _) _ h in
    let one = and_parts (is_name name) _ two.0 in
    all_weaker is_name_byte is_other_byte name_byte_other name (and_parts _ (list_all is_name_byte name) one.0).1

version_others : (version : List ℕ) → is_version version ≡ true → list_all is_other_byte version ≡ true
version_others version h = all_weaker is_version_byte is_other_byte version_byte_other version (version_bytes version h)

gap_no_opening : (c : ℕ) → is_gap c ≡ true → not (is_opening c) ≡ true
gap_no_opening c h = grind (arith, nat_tests)

other_no_opening : (c : ℕ) → is_other_byte c ≡ true → not (is_opening c) ≡ true
other_no_opening c h = (and_parts (not (is_gap c)) (not (is_opening c)) h).1

-- ---- the first parenthesis
opening_at : (front rest : List ℕ) → list_all (λ c. not (is_opening c)) front ≡ true → position is_opening (front ++ 40 ∷ rest) ≡ Some (length front)
opening_at front rest h =
    let at : position_or_len is_opening (front ++ 40 ∷ rest) ≡ length front = run_stops (λ c. not (is_opening c)) front 40 rest h refl in
    let inside : length front < length (front ++ 40 ∷ rest) = omega (arith, length-append front (40 ∷ rest)) in
    ap (λ n. cond (nat_lt n (length (front ++ 40 ∷ rest))) (Some n) None) at ∙ below (length front) (length (front ++ 40 ∷ rest)) inside
  where
    below : (m n : ℕ) → m < n → cond (nat_lt m n) (Some m) None ≡ Some m
    below m n h = grind (arith, nat_tests)

no_opening_in : (xs : List ℕ) → list_all (λ c. not (is_opening c)) xs ≡ true → position is_opening xs ≡ None
no_opening_in xs h = none (position_or_len is_opening xs) (length xs) (run_all (λ c. not (is_opening c)) xs h)
  where
    none : (m n : ℕ) → m ≡ n → cond (nat_lt m n) (Some m) None ≡ None
    none m n e = grind (arith, nat_tests)

-- ---- what a text names is found
pub named_is_found : (text name : List ℕ) (version : Option (List ℕ)) → IsSource text name version → (is_source text ≡ true) × (source_parts text ≡ Some (name, version))
unfolding source_parts
named_is_found text name None h =
    let none = no_opening_in name (all_weaker is_other_byte (λ c. not (is_opening c)) other_no_opening name (name_others name h.0)) in
    let parts : parts_at text (position is_opening text) ≡ Some (name, None) = ap (λ (t : List ℕ). parts_at t (position is_opening t)) h.1 ∙ ap (parts_at name) none in
    (ap are_source parts ∙ h.0, parts)
named_is_found text name (Some version) h =
    let s = h.1 in
    let inner = s.inside ++ (version ++ s.behind) in
    let rest = inner ++ 41 ∷ [] in
    let front = name ++ s.before in
    let is : text ≡ front ++ 40 ∷ rest = s.is ∙ sym (append_assoc name s.before (40 ∷ (s.inside ++ (version ++ (s.behind ++ 41 ∷ []))))) ∙ ap (λ (t : List ℕ). front ++ 40 ∷ t) (ap (λ (t : List ℕ). s.inside ++ t) (sym (append_assoc version s.behind (41 ∷ []))) ∙ sym (append_assoc s.inside (version ++ s.behind) (41 ∷ []))) in
    let names = name_others name h.0 in
    let versions = version_others version s.version_is in
    let opens : list_all (λ c. not (is_opening c)) front ≡ true = list_all-append (λ c. not (is_opening c)) name s.before ∙ and_from _ _ (all_weaker is_other_byte (λ c. not (is_opening c)) other_no_opening name names) (all_weaker is_gap (λ c. not (is_opening c)) gap_no_opening s.before s.gaps.0) in
    let at = opening_at front rest opens in
    let before : take (length front) (front ++ 40 ∷ rest) ≡ front = take-append_seam front (40 ∷ rest) in
    let after : drop (length front + 1) (front ++ 40 ∷ rest) ≡ rest = drop-append-add front (40 ∷ rest) 1 in
    let closed : before_closing (drop (length front + 1) (front ++ 40 ∷ rest)) ≡ Some inner = ap before_closing after ∙ closing_found inner in
    let left : without_gaps_behind front ≡ name = cut_behind name s.before s.gaps.0 names in
    let right : without_gaps_behind (without_gaps_before inner) ≡ version = ap without_gaps_behind (cut_before s.inside version s.behind s.gaps.1 (version_some version s.version_is) versions) ∙ cut_behind version s.behind s.gaps.2 versions in
    let parts : parts_at text (position is_opening text) ≡ Some (name, Some version) =
    ap (λ (t : List ℕ). parts_at t (position is_opening t)) is ∙ ap (parts_at (front ++ 40 ∷ rest)) at ∙ (λ i. named (before i) (closed i)) ∙ (λ i. Some (left i, Some (right i))) in
    (ap are_source parts ∙ and_from (is_package_name name) (is_version version) h.0 s.version_is, parts)

-- ---- what is found is named
front_is : (xs : List ℕ) → xs ≡ take (gaps_before xs) xs ++ without_gaps_before xs
front_is xs = sym (take-append-drop (gaps_before xs) xs)

front_gaps : (xs : List ℕ) → list_all is_gap (take (gaps_before xs) xs) ≡ true
front_gaps xs = subst (λ n. list_all is_gap (take n xs) ≡ true) (sym (run_length is_gap xs)) (run_passes is_gap xs)

end_gaps : (xs : List ℕ) → list_all is_gap (drop (length xs - gaps_behind xs) xs) ≡ true
end_gaps xs =
    let r = reverse xs in
    let k = prefix_len is_gap r in
    let count : gaps_behind xs ≡ k = run_length is_gap r in
    let a = reverse (drop k r) in
    let b = reverse (take k r) in
    let whole : xs ≡ a ++ b = sym (reverse-reverse xs) ∙ ap reverse (sym (take-append-drop k r)) ∙ reverse-append (take k r) (drop k r) in
    let long : length b ≡ k = length-reverse (take k r) ∙ length-prefix_len is_gap r in
    let seam : length xs - gaps_behind xs ≡ length a = omega (arith, ap length whole, length-append a b, long, count) in
    let tail : drop (length xs - gaps_behind xs) xs ≡ b = (λ i. drop (seam i) (whole i)) ∙ drop-append_seam a b in
    ap (list_all is_gap) tail ∙ all_reversed is_gap (take k r) (run_passes is_gap r)

end_is : (xs : List ℕ) → xs ≡ without_gaps_behind xs ++ drop (length xs - gaps_behind xs) xs
end_is xs = sym (take-append-drop (length xs - gaps_behind xs) xs)

is_forty : (c : ℕ) → is_opening c ≡ true → c ≡ 40
is_forty c h = grind (arith, nat_tests)

opened : (text : List ℕ) (n : ℕ) → position is_opening text ≡ Some n → text ≡ take n text ++ 40 ∷ drop (n + 1) text
opened text n e =
    let at = position-Some is_opening text n 0 e in
    let lt : n < length text = at.0 in
    let step : n + 1 ≡ suc n = omega arith in
    sym (take-append-drop n text) ∙ ap (λ (t : List ℕ). take n text ++ t) (drop-cons text n 0 lt ∙ (λ i. is_forty (get_or text n 0) at.1 i ∷ drop (sym step i) text))

from_inside : (text before rest inside : List ℕ) → text ≡ before ++ 40 ∷ rest → rest ≡ inside ++ 41 ∷ [] → is_package_name (without_gaps_behind before) ≡ true → is_version (without_gaps_behind (without_gaps_before inside)) ≡ true → IsSource text (without_gaps_behind before) (Some (without_gaps_behind (without_gaps_before inside)))
from_inside text before rest inside e f n v =
    let name = without_gaps_behind before in
    let core = without_gaps_before inside in
    let version = without_gaps_behind core in
    let g1 = drop (length before - gaps_behind before) before in
    let g2 = take (gaps_before inside) inside in
    let g3 = drop (length core - gaps_behind core) core in
    let inner : inside ≡ g2 ++ (version ++ g3) = front_is inside ∙ ap (λ (t : List ℕ). g2 ++ t) (end_is core) in
    let rest_is : rest ≡ g2 ++ (version ++ (g3 ++ 41 ∷ [])) = f ∙ ap (λ (t : List ℕ). t ++ 41 ∷ []) inner ∙ append_assoc g2 (version ++ g3) (41 ∷ []) ∙ ap (λ (t : List ℕ). g2 ++ t) (append_assoc version g3 (41 ∷ [])) in (
      n,
      record {
        before = g1;
        inside = g2;
        behind = g3;
        is = e ∙ (λ i. end_is before i ++ 40 ∷ rest_is i) ∙ append_assoc name g1 (40 ∷ (g2 ++ (version ++ (g3 ++ 41 ∷ []))));
        gaps = (end_gaps before, front_gaps inside, end_gaps core);
        version_is = v;
      },
    )

at_opening : (text before rest : List ℕ) (o : Option (List ℕ)) → before_closing rest ≡ o → text ≡ before ++ 40 ∷ rest → are_source (named before o) ≡ true → (source : List ℕ × Option (List ℕ)) × (named before o ≡ Some source) × IsSource text source.0 source.1
at_opening text before rest None c e h = cc
at_opening text before rest (Some inside) c e h =
    let parts = and_parts (is_package_name (without_gaps_behind before)) (is_version (without_gaps_behind (without_gaps_before inside))) h in
    ((without_gaps_behind before, Some (without_gaps_behind (without_gaps_before inside))), refl, from_inside text before rest inside e (closing_only rest inside c) parts.0 parts.1)

by_place : (text : List ℕ) (o : Option ℕ) → position is_opening text ≡ o → are_source (parts_at text o) ≡ true → (source : List ℕ × Option (List ℕ)) × (parts_at text o ≡ Some source) × IsSource text source.0 source.1
by_place text None e h = ((text, None), refl, (h, refl))
by_place text (Some n) e h = at_opening text (take n text) (drop (n + 1) text) (before_closing (drop (n + 1) text)) refl (opened text n e) h

pub found_is_named : (text : List ℕ) → is_source text ≡ true → (source : List ℕ × Option (List ℕ)) × (source_parts text ≡ Some source) × IsSource text source.0 source.1
unfolding source_parts
found_is_named text h = by_place text (position is_opening text) refl h
