-- The parts of a text spell it.
use Rattle.std.proofs.Common.{◌≡◌, ◌≢◌, ℕ, ◌+◌, ◌-◌, ◌<◌, ◌≤◌, Bool, true, false, cond, nat_lt, eqb, List, ◌∷◌, ◌++◌, length, take, drop, get_or, reverse, Option, Some, None, refl, sym, ap, ◌∙◌, arith, add-one, subst}
use Rattle.std.specs.Prelude.{position}
use Rattle.std.specs.List.{position_or_len}
use Rattle.std.proofs.Math.Seq.{drop-cons}
use Rattle.std.proofs.lemmas.List.{take-append-drop, get_or-reverse, length-reverse, length-take, length-drop, get_or-take, get_or-drop, append_assoc, append-nil}
use Rattle.std.proofs.lemmas.List.Sums.{fails_before_first, passes_at_first}
use Rattle.std.proofs.lemmas.Bool.Decides.{nat_tests}
use Rattle.deb_version.specs.VersionText.{epoch_end, epoch_of, start_of, body_of, after_hyphen, upstream_in, revision_in, upstream_of, revision_of}
use Rattle.deb_version.specs.Spelling.{with_colon, with_hyphen, spelled, Lacks, HasNoEarlierColon, HasNoLaterHyphen}

found : (b : Bool) (m n : ℕ) → cond b (Some m) None ≡ Some n → (b ≡ true) × (m ≡ n)
found true m n h = (refl, cc)
found false m n h = cc

missed : (b : Bool) (m : ℕ) → cond b (Some m) None ≡ None → b ≡ false
missed true m h = cc
missed false m h = refl

-- the first place of a byte
pub record IsFirst (c : ℕ) (xs : List ℕ) (n : ℕ) : Type 0 where
  pub inside : n < length xs
  pub there : get_or xs n 0 ≡ c
  pub before : (k : ℕ) → k < n → get_or xs k 0 ≢ c

other : (x c : ℕ) → eqb x c ≡ false → x ≢ c
other x c h = grind (arith, nat_tests)

same : (x c : ℕ) → eqb x c ≡ true → x ≡ c
same x c h = grind (arith, nat_tests)

below : (a b : ℕ) → nat_lt a b ≡ true → a < b
below a b h = grind (arith, nat_tests)

not_below : (a b : ℕ) → nat_lt a b ≡ false → b ≤ a
not_below a b h = grind (arith, nat_tests)

first_at : (c : ℕ) (xs : List ℕ) → position_or_len (λ x. eqb x c) xs < length xs → IsFirst c xs (position_or_len (λ x. eqb x c) xs)
first_at c xs lt = record {
  inside = lt;
  there = same _ c (passes_at_first (λ x. eqb x c) xs 0 lt);
  before = λ k h. other _ c (fails_before_first (λ x. eqb x c) xs k 0 h);
}

is_first : (c : ℕ) (xs : List ℕ) (n : ℕ) → position (λ x. eqb x c) xs ≡ Some n → IsFirst c xs n
is_first c xs n h =
    let f = found (nat_lt (position_or_len (λ x. eqb x c) xs) (length xs)) (position_or_len (λ x. eqb x c) xs) n h in
    subst (IsFirst c xs) f.1 (first_at c xs (below _ _ f.0))

-- no such byte
lacking : (c : ℕ) (xs : List ℕ) → position (λ x. eqb x c) xs ≡ None → Lacks c xs
lacking c xs h =
    let m : length xs ≤ position_or_len (λ x. eqb x c) xs = not_below _ _ (missed (nat_lt (position_or_len (λ x. eqb x c) xs) (length xs)) (position_or_len (λ x. eqb x c) xs) h) in
    λ k lt. other _ c (fails_before_first (λ x. eqb x c) xs k 0 (omega arith))

-- a list cut at one of its places
cut_at : (xs : List ℕ) (k : ℕ) → k < length xs → take k xs ++ (get_or xs k 0 ∷ drop (k + 1) xs) ≡ xs
cut_at xs k lt = rw add-one (ap (λ l. take k xs ++ l) (sym (drop-cons xs k 0 lt)) ∙ take-append-drop k xs)

front_spelled : (text : List ℕ) (o : Option ℕ) → epoch_end text ≡ o → with_colon (epoch_of text) ++ body_of text ≡ text
unfolding epoch_of start_of
front_spelled text None e = rw e refl
front_spelled text (Some n) e =
    let f = is_first 58 text n e in
    rw (e, append_assoc) (ap (λ c. take n text ++ (c ∷ drop (n + 1) text)) (sym f.there) ∙ cut_at text n f.inside)

first_colon_by : (text : List ℕ) (o : Option ℕ) → epoch_end text ≡ o → HasNoEarlierColon text (epoch_of text)
unfolding epoch_of
first_colon_by text None e = rw e (lacking 58 text e)
first_colon_by text (Some n) e =
    let f = is_first 58 text n e in
    rw e (λ i lt h. let small : i < n = omega (arith, length-take n text) in f.before i small (sym (get_or-take n text i 0 small) ∙ h))

pub first_colon : (text : List ℕ) → HasNoEarlierColon text (epoch_of text)
first_colon text = first_colon_by text (epoch_end text) refl

-- the places of a list and of its reverse
mirrored : (xs : List ℕ) (i j : ℕ) → i + j + 1 ≡ length xs → get_or (reverse xs) j 0 ≡ get_or xs i 0
mirrored xs i j e =
    let at : length xs - 1 - j ≡ i = omega arith in
    get_or-reverse xs j 0 (omega arith) ∙ ap (λ k. get_or xs k 0) at

back_cut : (body : List ℕ) (n k : ℕ) → k + n + 1 ≡ length body → get_or (reverse body) n 0 ≡ 45 → take (length body - n - 1) body ++ (45 ∷ drop (length body - n) body) ≡ body
back_cut body n k e there =
    let front : length body - n - 1 ≡ k = omega arith in
    let back : length body - n ≡ k + 1 = omega arith in
    let hyphen : 45 ≡ get_or body k 0 = sym there ∙ mirrored body k n e in
    (λ i. take (front i) body ++ (hyphen i ∷ drop (back i) body)) ∙ cut_at body k (omega arith)

back_spelled : (body : List ℕ) (o : Option ℕ) → after_hyphen body ≡ o → upstream_in body ++ with_hyphen (revision_in body) ≡ body
unfolding upstream_in revision_in
back_spelled body None e = rw e (append-nil body)
back_spelled body (Some n) e =
    let f = is_first 45 (reverse body) n e in
    let inside : n < length body = omega (arith, f.inside, length-reverse body) in
    rw e (back_cut body n (length body - n - 1) (omega arith) f.there)

last_hyphen_by : (body : List ℕ) (o : Option ℕ) → after_hyphen body ≡ o → HasNoLaterHyphen (upstream_in body) (revision_in body)
unfolding upstream_in revision_in
last_hyphen_by body None e =
    rw e (λ i lt h. lacking 45 (reverse body) e (length body - 1 - i) (omega (arith, length-reverse body)) (mirrored body i (length body - 1 - i) (omega arith) ∙ h))
last_hyphen_by body (Some n) e =
    let f = is_first 45 (reverse body) n e in
    let inside : n < length body = omega (arith, f.inside, length-reverse body) in
    rw e
    (λ i lt h.
    let small : i < n = omega (arith, length-drop (length body - n) body) in
    f.before (n - 1 - i) (omega arith) (mirrored body (length body - n + i) (n - 1 - i) (omega arith) ∙ sym (get_or-drop (length body - n) body i 0) ∙ h))

pub last_hyphen : (text : List ℕ) → HasNoLaterHyphen (upstream_of text) (revision_of text)
last_hyphen text = last_hyphen_by (body_of text) (after_hyphen (body_of text)) refl

pub text_spelled : (text : List ℕ) → spelled (epoch_of text) (upstream_of text) (revision_of text) ≡ text
text_spelled text = ap (λ l. with_colon (epoch_of text) ++ l) (back_spelled (body_of text) (after_hyphen (body_of text)) refl) ∙ front_spelled text (epoch_end text) refl
