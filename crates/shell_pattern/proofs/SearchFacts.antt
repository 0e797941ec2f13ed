-- Where a pattern's elements can stand in a text, and where they can't.
use Rattle.std.proofs.Common.{◌≡◌, ◌≢◌, ◌<◌, ◌≤◌, ◌+◌, ℕ, Bool, true, false, ◌||◌, ◌==◌, List, [], ◌∷◌, ◌++◌, length, take, drop, Option, Some, None, refl, ap, subst, ◌∙◌, sym, append_assoc, length-append, arith, if◌then◌else◌}
use Rattle.std.specs.Bool.{IsFalse}
use Rattle.std.specs.Option.{option_map}
use Rattle.std.specs.Str.{chars, IsUtf8, IsCharBoundary, NonePass}
use Rattle.std.specs.Str.Pattern.{LacksTextAt}
use Rattle.std.specs.Char.{char_set_contains}
use Rattle.std.proofs.lemmas.Str.{chars-append, chars_from_encodes, encodes-append, encodes-chars, IsUtf8-take, len_utf8_bounds, length-encode}
use Rattle.std.proofs.lemmas.Bool.{and_parts, or_parts, eqb-true}
use Rattle.std.proofs.lemmas.List.{take-append-drop, length-take}
use Rattle.std.proofs.Math.Seq.{drop-append_seam}
use lib.Utf8.{encodes, encode}
use Rattle.shell_pattern.specs.Glob.{Element, run, any_one, exactly, class, takes, first_element, opened, escaped_one, elements_of}
use Rattle.shell_pattern.specs.GlobReading.{Front, star, front, go_if, has_class_end, any_tail, covers}
use Rattle.shell_pattern.specs.GlobSearch.{specials, AreLiteral, BeginsWith, characters, IsEnd}
use Rattle.shell_pattern.proofs.ElementFacts.{elements_step}
use Rattle.shell_pattern.proofs.EndFacts.{no_class, open_next}
use Rattle.shell_pattern.proofs.GlobFacts.{tail_cut}

differs : (l c : ℕ) → (l == c) ≡ false → (c == l) ≡ false
differs l c h = grind arith

clash : (b : Bool) → b ≡ true → b ≡ false → ⊥
clash b h k = cc

class_open : (c : ℕ) (cs : List ℕ) → (c == 92) ≡ false → IsFalse (has_class_end (c ∷ cs)) → (c == 91) ≡ true → opened cs ≡ (exactly c, cs)
class_open c cs n h is =
    let code : c ≡ 91 = eqb-true c 91 is in
    let free : c ≢ 92 = λ e. clash (c == 92) (ap (λ d. d == 92) e) n in
    no_class cs (open_next c cs free h) ∙ ap (λ d. (exactly d, cs)) (sym code)

first_by : (a b d f : Bool) (c : ℕ) (cs : List ℕ) → a ≡ false → b ≡ false → d ≡ false → (f ≡ true → opened cs ≡ (exactly c, cs)) → (if a then (run, cs) else if b then (any_one, cs) else if d then escaped_one cs else if f then opened cs else (exactly c, cs)) ≡ (exactly c, cs)
first_by true b d f c cs h i j k = absurd (cc)
first_by false true d f c cs h i j k = absurd (cc)
first_by false false true f c cs h i j k = absurd (cc)
first_by false false false true c cs h i j k = k refl
first_by false false false false c cs h i j k = refl

first_of : (c : ℕ) (cs : List ℕ) → (c == 42) ≡ false → (c == 63) ≡ false → (c == 92) ≡ false → ((c == 91) ≡ true → opened cs ≡ (exactly c, cs)) → first_element c cs ≡ (exactly c, cs)
unfolding first_element
first_of c cs h i j k = first_by (c == 42) (c == 63) (c == 92) (c == 91) c cs h i j k

-- a character that isn't special stands for itself
first_literal : (unended : Bool) (c : ℕ) (cs : List ℕ) → (unended ≡ true → IsFalse (has_class_end (c ∷ cs))) → char_set_contains (specials unended) c ≡ false → first_element c cs ≡ (exactly c, cs)
first_literal true c cs o h =
    let star = or_parts (42 == c) _ h in
    let one = or_parts (63 == c) _ star.1 in
    let escape = or_parts (92 == c) _ one.1 in
    first_of c cs (differs _ _ star.0) (differs _ _ one.0) (differs _ _ escape.0) (class_open c cs (differs _ _ escape.0) (o refl))
first_literal false c cs o h =
    let star = or_parts (42 == c) _ h in
    let one = or_parts (63 == c) _ star.1 in
    let escape = or_parts (92 == c) _ one.1 in
    let opens = or_parts (91 == c) _ escape.1 in
    first_of c cs (differs _ _ star.0) (differs _ _ one.0) (differs _ _ escape.0) (λ is. absurd (clash (c == 91) is (differs _ _ opens.0)))

exactly_step : (c : ℕ) (cs : List ℕ) → first_element c cs ≡ (exactly c, cs) → elements_of (c ∷ cs) ≡ exactly c ∷ elements_of cs
exactly_step c cs h = elements_step c cs ∙ ap (λ p. p.0 ∷ elements_of p.1) h

began : (l : ℕ) (ls : List ℕ) (es : List Element) → BeginsWith ls (covers es) → BeginsWith (l ∷ ls) (covers (exactly l ∷ es))
began l ls es h [] k = absurd (cc)
began l ls es h (c ∷ cs) k =
    let parts = and_parts (takes (exactly l) c) (covers es cs) k in
    let behind = h cs parts.1 in
    let same : c ≡ l = eqb-true c l parts.0 in
    (behind.0, ap (λ d. d ∷ cs) same ∙ ap (λ xs. l ∷ xs) behind.1)

begins : (unended : Bool) (ls rest : List ℕ) → (unended ≡ true → IsFalse (has_class_end (ls ++ rest))) → NonePass (char_set_contains (specials unended)) ls → BeginsWith ls (covers (elements_of (ls ++ rest)))
begins unended [] rest o n = λ cs h. (cs, refl)
begins unended (l ∷ ls) rest o n =
    let first = first_literal unended l (ls ++ rest) o n.0 in
    let behind = begins unended ls rest (λ is. open_next l (ls ++ rest) (plain_char unended l n.0) (o is)) n.1 in
    subst (λ es. BeginsWith (l ∷ ls) (covers es)) (sym (exactly_step l (ls ++ rest) first)) (began l ls (elements_of (ls ++ rest)) behind)
  where
    plain_char : (unended : Bool) (c : ℕ) → char_set_contains (specials unended) c ≡ false → c ≢ 92
    plain_char true c h = λ e. clash (92 == c) (ap (λ d. 92 == d) e) (or_parts (92 == c) _ (or_parts (63 == c) _ (or_parts (42 == c) _ h).1).1).0
    plain_char false c h = λ e. clash (92 == c) (ap (λ d. 92 == d) e) (or_parts (92 == c) _ (or_parts (63 == c) _ (or_parts (42 == c) _ h).1).1).0

-- the literal characters at a pattern's beginning begin each text that it stands for
pub literal_begins : (unended : Bool) (literal rest : List ℕ) → IsUtf8 literal → AreLiteral unended literal → (unended ≡ true → IsFalse (has_class_end (chars (literal ++ rest)))) → BeginsWith (chars literal) (covers (elements_of (chars (literal ++ rest))))
literal_begins unended literal rest u n o =
    let same : n.0 ≡ chars literal = chars_from_encodes n.0 literal u n.1 in
    let whole : chars (literal ++ rest) ≡ n.0 ++ chars rest = chars-append literal rest u ∙ ap (λ cs. cs ++ chars rest) (sym same) in
    subst (λ ls. BeginsWith ls (covers (elements_of (chars (literal ++ rest))))) same
    (subst (λ cs. BeginsWith n.0 (covers (elements_of cs))) (sym whole)
    (begins unended n.0 (chars rest) (λ is. subst (λ cs. IsFalse (has_class_end cs)) whole (o is)) n.2))

-- where a text doesn't stand in another, no end begins with its characters
encodes_nonempty : (c : ℕ) (cs : List ℕ) → 0 < length (encodes (c ∷ cs))
encodes_nonempty c cs = let bounds = len_utf8_bounds c in omega (arith, length-encode c, length-append (encode c) (encodes cs))

there : (letters bs : List ℕ) (piece cs after : List ℕ) → IsUtf8 letters → IsUtf8 bs → chars bs ≡ piece ++ cs → cs ≡ chars letters ++ after → drop (length (encodes piece)) bs ≡ letters ++ encodes after
there letters bs piece cs after u v h k =
    let bytes : bs ≡ encodes piece ++ (letters ++ encodes after) =
    sym (encodes-chars bs v) ∙ ap encodes h ∙ encodes-append piece cs ∙ ap (λ x. encodes piece ++ x) (ap encodes k ∙ encodes-append (chars letters) after ∙ ap (λ x. x ++ encodes after) (encodes-chars letters u)) in
    ap (drop (length (encodes piece))) bytes ∙ drop-append_seam (encodes piece) (letters ++ encodes after)

pub none_there : (letters bs : List ℕ) → IsUtf8 letters → IsUtf8 bs → ((i : ℕ) → i ≤ length bs → LacksTextAt letters bs i) → (holds : List ℕ → Bool) → BeginsWith (chars letters) holds → false ≡ any_tail holds (chars bs)
none_there letters bs u v n holds b = sym (no (any_tail holds (chars bs)) (λ h.
    let cut = tail_cut holds (chars bs) h in
    let behind = b cut.rest cut.holds in
    let bytes : bs ≡ encodes cut.piece ++ encodes cut.rest = sym (encodes-chars bs v) ∙ ap encodes cut.split ∙ encodes-append cut.piece cut.rest in
    n (length (encodes cut.piece)) (omega (arith, ap length bytes, length-append (encodes cut.piece) (encodes cut.rest))) (encodes behind.0)
    (there letters bs cut.piece cut.rest behind.0 u v cut.split behind.1)))
  where
    no : (x : Bool) → (x ≡ true → ⊥) → x ≡ false
    no true f = absurd (f refl)
    no false f = refl

skipped : (holds : List ℕ → Bool) (front rest : List ℕ) → ((pre : List ℕ) (c : ℕ) (post : List ℕ) → front ≡ pre ++ (c ∷ post) → holds (c ∷ (post ++ rest)) ≡ true → ⊥) → any_tail holds rest ≡ any_tail holds (front ++ rest)
skipped holds [] rest n = refl
skipped holds (c ∷ front) rest n =
    skipped holds front rest (λ pre d post e. n (c ∷ pre) d post (ap (λ xs. c ∷ xs) e))
    ∙ passed (holds (c ∷ (front ++ rest))) (any_tail holds (front ++ rest)) (n [] c front refl)
  where
    passed : (x y : Bool) → (x ≡ true → ⊥) → y ≡ (x || y)
    passed true y n = absurd (n refl)
    passed false y n = refl

earlier : (bs : List ℕ) (at : ℕ) (pre : List ℕ) (c : ℕ) (post : List ℕ) → IsUtf8 (take at bs) → chars (take at bs) ≡ pre ++ (c ∷ post) → length (encodes pre) < at
earlier bs at pre c post u e =
    let bytes : take at bs ≡ encodes pre ++ encodes (c ∷ post) = sym (encodes-chars (take at bs) u) ∙ ap encodes e ∙ encodes-append pre (c ∷ post) in
    let some = encodes_nonempty c post in
    omega (arith, ap length bytes, length-append (encodes pre) (encodes (c ∷ post)), length-take at bs)

pub first_there : (letters bs : List ℕ) (at : ℕ) → IsUtf8 letters → IsUtf8 bs → IsCharBoundary bs at → ((i : ℕ) → i < at → LacksTextAt letters bs i) → (holds : List ℕ → Bool) → BeginsWith (chars letters) holds → any_tail holds (chars (drop at bs)) ≡ any_tail holds (chars bs)
first_there letters bs at u v w n holds b =
    let rest = chars (drop at bs) in
    let before : IsUtf8 (take at bs) = IsUtf8-take bs at v w in
    let parts : chars bs ≡ chars (take at bs) ++ rest = ap chars (sym (take-append-drop at bs)) ∙ chars-append (take at bs) (drop at bs) before in
    skipped holds (chars (take at bs)) rest (λ pre c post e h.
    let behind = b (c ∷ (post ++ rest)) h in
    let whole : chars bs ≡ pre ++ (c ∷ (post ++ rest)) = parts ∙ ap (λ xs. xs ++ rest) e ∙ append_assoc pre (c ∷ post) rest in
    n (length (encodes pre)) (earlier bs at pre c post before e) (encodes behind.0)
    (there letters bs pre (c ∷ (post ++ rest)) behind.0 u v whole behind.1))
    ∙ ap (any_tail holds) (sym parts)

-- the end of a pattern without a run stands for a text of one length alone
added : (o : Option ℕ) (n : ℕ) → option_map (λ m. m + 1) o ≡ Some n → (m : ℕ) × (o ≡ Some m) × (n ≡ m + 1)
added None n h = absurd (cc)
added (Some m) n h = (m, refl, cc)

covers_count : (es : List Element) (cs : List ℕ) (n : ℕ) → characters es ≡ Some n → covers es cs ≡ true → length cs ≡ n
covers_count [] [] n h k = cc
covers_count [] (c ∷ cs) n h k = absurd (cc)
covers_count (run ∷ es) cs n h k = absurd (cc)
covers_count (any_one ∷ es) [] n h k = absurd (cc)
covers_count (any_one ∷ es) (c ∷ cs) n h k =
    let before = added (characters es) n h in
    let count = covers_count es cs before.0 before.1 k in
    omega (arith, before.2)
covers_count (exactly d ∷ es) [] n h k = absurd (cc)
covers_count (exactly d ∷ es) (c ∷ cs) n h k =
    let before = added (characters es) n h in
    let count = covers_count es cs before.0 before.1 (and_parts (takes (exactly d) c) (covers es cs) k).1 in
    omega (arith, before.2)
covers_count (class m ls ∷ es) [] n h k = absurd (cc)
covers_count (class m ls ∷ es) (c ∷ cs) n h k =
    let before = added (characters es) n h in
    let count = covers_count es cs before.0 before.1 (and_parts (takes (class m ls) c) (covers es cs) k).1 in
    omega (arith, before.2)

too_short : (holds : List ℕ → Bool) (n : ℕ) → ((cs : List ℕ) → holds cs ≡ true → length cs ≡ n) → (cs : List ℕ) → length cs < n → any_tail holds cs ≡ false
too_short holds n only [] l = no (holds []) (λ h. let e = only [] h in omega arith)
  where
    no : (b : Bool) → (b ≡ true → ⊥) → b ≡ false
    no true h = absurd (h refl)
    no false h = refl
too_short holds n only (c ∷ cs) l = neither (holds (c ∷ cs)) (any_tail holds cs) (λ h. let e = only (c ∷ cs) h in omega arith) (too_short holds n only cs (omega arith))
  where
    neither : (x y : Bool) → (x ≡ true → ⊥) → y ≡ false → (x || y) ≡ false
    neither true y h k = absurd (h refl)
    neither false y h k = k

-- of the ends of a text at most one has the length
only_end : (holds : List ℕ → Bool) (n : ℕ) → ((cs : List ℕ) → holds cs ≡ true → length cs ≡ n) → (front end : List ℕ) → length end ≡ n → any_tail holds (front ++ end) ≡ holds end
only_end holds n only [] [] e = refl
only_end holds n only [] (c ∷ cs) e = last (holds (c ∷ cs)) (any_tail holds cs) (too_short holds n only cs (omega arith))
  where
    last : (x y : Bool) → y ≡ false → (x || y) ≡ x
    last true y h = refl
    last false y h = h
only_end holds n only (c ∷ front) end e = later (holds (c ∷ (front ++ end))) (any_tail holds (front ++ end)) (λ h. let l = only (c ∷ (front ++ end)) h in omega (arith, length-append front end)) ∙ only_end holds n only front end e
  where
    later : (x y : Bool) → (x ≡ true → ⊥) → (x || y) ≡ y
    later true y h = absurd (h refl)
    later false y h = refl

pub end_missing : (es : List Element) (cs : List ℕ) (n : ℕ) → characters es ≡ Some n → length cs < n → false ≡ any_tail (covers es) cs
end_missing es cs n h l = sym (too_short (covers es) n (λ ds k. covers_count es ds n h k) cs l)

pub end_covered : (es : List Element) (cs end : List ℕ) (n : ℕ) → characters es ≡ Some n → IsEnd n end cs → covers es end ≡ any_tail (covers es) cs
end_covered es cs end n h e = sym (ap (any_tail (covers es)) e.split ∙ only_end (covers es) n (λ ds k. covers_count es ds n h k) e.front end e.counted)

star_if : (b : Bool) (f : Front) (fs : List Element) (ds : List ℕ) → star fs ds ≡ go_if b f → star fs ds ≡ f
star_if true f fs ds h = h
star_if false f fs ds h = absurd (cc)

pub no_star : (es : List Element) (cs : List ℕ) (n : ℕ) (fs : List Element) (ds : List ℕ) → characters es ≡ Some n → star fs ds ≡ front es cs → ⊥
no_star [] [] n fs ds h k = cc
no_star [] (c ∷ cs) n fs ds h k = cc
no_star (run ∷ es) cs n fs ds h k = cc
no_star (any_one ∷ es) [] n fs ds h k = cc
no_star (any_one ∷ es) (c ∷ cs) n fs ds h k = let before = added (characters es) n h in no_star es cs before.0 fs ds before.1 k
no_star (exactly d ∷ es) [] n fs ds h k = cc
no_star (exactly d ∷ es) (c ∷ cs) n fs ds h k = let before = added (characters es) n h in no_star es cs before.0 fs ds before.1 (star_if (takes (exactly d) c) (front es cs) fs ds k)
no_star (class m ls ∷ es) [] n fs ds h k = cc
no_star (class m ls ∷ es) (c ∷ cs) n fs ds h k = let before = added (characters es) n h in no_star es cs before.0 fs ds before.1 (star_if (takes (class m ls) c) (front es cs) fs ds k)
