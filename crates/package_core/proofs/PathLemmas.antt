-- The path of a file without dots in front, and the last of its segments.
use Rattle.std.proofs.Common.{◌≡◌, ℕ, ◌+◌, ◌<◌, ◌≤◌, Bool, true, false, not, ◌&&◌, ◌==◌, cond, leb, inl, inr, List, [], ◌∷◌, length, drop, Option, Some, None, refl, ap, sym, ◌∙◌, subst, arith}
use Rattle.std.specs.List.{list_all, onto_first, position_or_len, before_first, after_first}
use Rattle.std.specs.Option.{MatchOption}
use Rattle.std.specs.Str.Pattern.{StripsPrefix, FindsTextPrefix}
use Rattle.std.proofs.lemmas.Bool.Decides.{nat_tests}
use Rattle.std.proofs.lemmas.List.{length-drop}
use Rattle.std.proofs.lemmas.List.Splits.{slice_split_first, slice_split_none}
use Rattle.std.proofs.lemmas.List.Sums.{fails_before_first, prefix_len-le-length}
use Rattle.std.proofs.lemmas.Bool.{and_parts, cases_lt, le-leb, ltb-false}
use Rattle.std.proofs.lemmas.Str.Pattern.{split_once_first, IsSplitOnceResult}
use denote.Ref.{Bor}
use Rattle.ap_text.specs.Paths.{segments, is_segment, is_long_segment, is_no_entry, is_path_byte, is_safe_path}
use Rattle.package_core.specs.Fields.{without_dots, last_of, last_segment}

begins : (a b : ℕ) (rest : List ℕ) (t : Bool) → (t ≡ true → (a ≡ 46) × (b ≡ 47)) → ((more : List ℕ) → a ∷ b ∷ rest ≡ 46 ∷ 47 ∷ more → ⊥) → cond t (without_dots rest) (a ∷ b ∷ rest) ≡ a ∷ b ∷ rest
begins a b rest true is h = let e = is refl in absurd (h rest ((λ i. e.0 i ∷ e.1 i ∷ rest)))
begins a b rest false is h = refl

are_dots : (a b : ℕ) → (a == 46 && b == 47) ≡ true → (a ≡ 46) × (b ≡ 47)
are_dots a b h = grind (arith, nat_tests)

pub no_dots : (text : List ℕ) → ((more : List ℕ) → text ≡ 46 ∷ 47 ∷ more → ⊥) → without_dots text ≡ text
no_dots [] h = refl
no_dots (a ∷ []) h = refl
no_dots (a ∷ b ∷ rest) h = begins a b rest (a == 46 && b == 47) (are_dots a b) h

-- what is stripped of `./`
pub dots_stripped : (text : List ℕ) (r : Option (Bor (List ℕ))) → MatchOption r (FindsTextPrefix (46 ∷ 47 ∷ []) text None) (λ x. StripsPrefix (FindsTextPrefix (46 ∷ 47 ∷ [])) text x.now) → MatchOption r (without_dots text ≡ text) (λ x. (without_dots x.now ≡ without_dots text) × (length x.now < length text))
dots_stripped text None h = no_dots text h
dots_stripped text (Some x) (k, found, e, n) =
    let at : drop k text ≡ x.now = sym e in
    let whole : text ≡ 46 ∷ 47 ∷ x.now = found.1 ∙ ap (λ (l : List ℕ). 46 ∷ 47 ∷ l) at in
    (sym (ap without_dots whole), omega arith)

pub last_past : (s : List ℕ) (ss : List (List ℕ)) → (ss ≡ [] → ⊥) → last_of (s ∷ ss) ≡ last_of ss
last_past s [] h = absurd (h refl)
last_past s (t ∷ ss) h = refl

abbrev slash_at : List ℕ → ℕ
slash_at rest = position_or_len (λ b. b == 47) rest

one_segment : (rest : List ℕ) → slash_at rest ≡ length rest → segments rest ≡ rest ∷ []
one_segment rest e = slice_split_none (λ b. b == 47) rest (λ k d lt. fails_before_first (λ b. b == 47) rest k d (omega arith))

some_segment : (text : List ℕ) → segments text ≡ [] → ⊥
some_segment text h =
    let most = prefix_len-le-length (λ b. not (b == 47)) text in
    elim (cases_lt (slash_at text) (length text)) [ inl lt ↦ (let e = slice_split_first (λ b. b == 47) text 0 lt in cc) | inr ge ↦ (let e = one_segment text (omega arith) in cc) ]

-- behind the first slash the last segment is the same, and without a slash there is no other
pub slash_split : (rest : List ℕ) (r : Option (Bor (List ℕ) × Bor (List ℕ))) → IsSplitOnceResult 47 rest r → MatchOption r (segments rest ≡ rest ∷ []) (λ x. (last_segment x.1.now ≡ last_segment rest) × (length x.1.now < length rest))
slash_split rest r h = cut rest r (split_once_first 47 rest r h (omega arith))
  where
    cut : (rest : List ℕ) (r : Option (Bor (List ℕ) × Bor (List ℕ))) → MatchOption r (slash_at rest ≡ length rest) (λ x. (slash_at rest < length rest) × (x.0.now ≡ before_first (λ b. b == 47) rest) × (x.1.now ≡ after_first (λ b. b == 47) rest)) → MatchOption r (segments rest ≡ rest ∷ []) (λ x. (last_segment x.1.now ≡ last_segment rest) × (length x.1.now < length rest))
    cut rest None h = one_segment rest h
    cut rest (Some x) (lt, front, behind) =
        let e = slice_split_first (λ b. b == 47) rest 0 lt in
        let later : last_of (segments rest) ≡ last_of (segments (after_first (λ b. b == 47) rest)) = ap last_of e ∙ last_past _ _ (some_segment (after_first (λ b. b == 47) rest)) in
        let long = ap length behind ∙ length-drop (slash_at rest + 1) rest in
        (ap last_segment behind ∙ sym later, omega arith)

and_true : (a b : Bool) → a ≡ true → b ≡ true → (a && b) ≡ true
and_true a b e f = grind arith

second : (a b : Bool) → (a && b) ≡ true → b ≡ true
second true b h = h
second false b h = cc

not_long : (a b c : Bool) → (not a && not b && c) ≡ true → a ≡ false
not_long true b c h = cc
not_long false b c h = refl

pub segment_is_short : (s : List ℕ) → is_segment s ≡ true → length s ≤ 255
segment_is_short s h = ltb-false 255 (length s) (not_long (is_long_segment s) (is_no_entry s) (list_all is_path_byte s) h)

all_first : (s : List ℕ) (ss : List (List ℕ)) → list_all is_segment (s ∷ ss) ≡ true → (is_segment s ≡ true) × (list_all is_segment ss ≡ true)
all_first s ss h = both (is_segment s) (list_all is_segment ss) h
  where
    both : (a b : Bool) → (a && b) ≡ true → (a ≡ true) × (b ≡ true)
    both true b h = (refl, h)
    both false b h = cc

last_is_segment : (ss : List (List ℕ)) → (ss ≡ [] → ⊥) → list_all is_segment ss ≡ true → is_segment (last_of ss) ≡ true
last_is_segment [] some h = absurd (some refl)
last_is_segment (s ∷ []) some h = (all_first s [] h).0
last_is_segment (s ∷ t ∷ ss) some h = last_is_segment (t ∷ ss) (λ e. cc) (all_first s (t ∷ ss) h).1

pub short_and_safe : (name : List ℕ) → is_segment name ≡ true → segments name ≡ name ∷ [] → is_safe_path name ≡ true
short_and_safe name good one =
    let long = segment_is_short name good in
    let parts : list_all is_segment (segments name) ≡ true = rw one (rw good refl) in
    and_true (leb (length name) 1000) (list_all is_segment (segments name)) (le-leb (length name) 1000 (omega arith)) parts

-- the last segment of a safe path is one
pub last_is_safe : (path name : List ℕ) → is_safe_path path ≡ true → name ≡ last_segment path → segments name ≡ name ∷ [] → is_safe_path name ≡ true
last_is_safe path name safe last one =
    short_and_safe name (ap is_segment last ∙ last_is_segment (segments path) (some_segment path) (second (leb (length path) 1000) (list_all is_segment (segments path)) safe)) one

-- ---- safe paths
second_of : (a b c : Bool) → (a && b && c) ≡ true → c ≡ true
second_of a b c h = second (a && b) c h

visible_onto : (b : ℕ) (ss : List (List ℕ)) → (ss ≡ [] → ⊥) → list_all (list_all is_path_byte) (onto_first b ss) ≡ true → (is_path_byte b ≡ true) × (list_all (list_all is_path_byte) ss ≡ true)
visible_onto b [] some h = absurd (some refl)
visible_onto b (s ∷ ss) some h =
    let outer = and_parts (is_path_byte b && list_all is_path_byte s) (list_all (list_all is_path_byte) ss) h in
    let inner = and_parts (is_path_byte b) (list_all is_path_byte s) outer.0 in
    (inner.0, and_true (list_all is_path_byte s) (list_all (list_all is_path_byte) ss) inner.1 outer.1)

-- visible segments are those of a visible text
visible_from_segments : (text : List ℕ) → list_all (list_all is_path_byte) (segments text) ≡ true → list_all is_path_byte text ≡ true
visible_from_segments [] h = refl
visible_from_segments (b ∷ bs) h = by_test (b == 47) refl (visible_from_segments bs) h
  where
    slash_is : (b == 47) ≡ true → is_path_byte b ≡ true
    slash_is h = grind (arith, nat_tests)

    by_test : (t : Bool) → (b == 47) ≡ t → (list_all (list_all is_path_byte) (segments bs) ≡ true → list_all is_path_byte bs ≡ true) → list_all (list_all is_path_byte) (cond t ([] ∷ segments bs) (onto_first b (segments bs))) ≡ true → (is_path_byte b && list_all is_path_byte bs) ≡ true
    by_test true e more h = and_true (is_path_byte b) (list_all is_path_byte bs) (slash_is e) (more h)
    by_test false e more h =
        let parts = visible_onto b (segments bs) (some_segment bs) h in
        and_true (is_path_byte b) (list_all is_path_byte bs) parts.0 (more parts.1)

segments_visible : (ss : List (List ℕ)) → list_all is_segment ss ≡ true → list_all (list_all is_path_byte) ss ≡ true
segments_visible [] h = refl
segments_visible (s ∷ ss) h =
    let parts = all_first s ss h in
    and_true (list_all is_path_byte s) (list_all (list_all is_path_byte) ss) (second_of (not (is_long_segment s)) (not (is_no_entry s)) (list_all is_path_byte s) parts.0) (segments_visible ss parts.1)

safe_segments : (path : List ℕ) → is_safe_path path ≡ true → list_all is_segment (segments path) ≡ true
safe_segments path h = second (leb (length path) 1000) (list_all is_segment (segments path)) h

some_bytes : (path : List ℕ) → list_all is_segment (segments path) ≡ true → 0 < length path
some_bytes [] h = cc
some_bytes (b ∷ bs) h = omega arith

-- a safe path is one visible byte or more
pub safe_is_plain : (path : List ℕ) → is_safe_path path ≡ true → (0 < length path) × (list_all is_path_byte path ≡ true)
safe_is_plain path h = (some_bytes path (safe_segments path h), visible_from_segments path (segments_visible (segments path) (safe_segments path h)))

-- and has no `./` in front
pub undotted : (path : List ℕ) → is_safe_path path ≡ true → without_dots path ≡ path
undotted path h = no_dots path (λ more e. dotted more (subst (λ (t : List ℕ). list_all is_segment (segments t) ≡ true) e (safe_segments path h)))
  where
    dotted : (more : List ℕ) → list_all is_segment (segments (46 ∷ 47 ∷ more)) ≡ true → ⊥
    dotted more h = cc
