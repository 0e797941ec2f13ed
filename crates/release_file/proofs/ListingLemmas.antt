-- Lines that list files.
use Rattle.std.proofs.Common.{◌≡◌, ℕ, suc, ◌+◌, ◌<◌, ◌^◌, ◌==◌, Bool, true, false, cond, List, [], ◌∷◌, ◌++◌, map, filter, length, take, drop, get_or, Option, Some, refl, ap, sym, ◌∙◌, subst, arith}
use Rattle.std.specs.List.{slice_split, onto_first}
use Rattle.std.specs.Fmt.{decimal}
use Rattle.std.proofs.lemmas.Fmt.{decimal_injective}
use Rattle.control_stanza.specs.Lines.{begun}
use Rattle.control_stanza.specs.Fields.{value_lines}
use Rattle.package_core.specs.Fields.{digest}
use Rattle.release_file.specs.declared.listing.Listed.{Listed}
use Rattle.release_file.specs.Words.{words, has_word}
use Rattle.release_file.specs.Release.{IsFile, IsListing, AreListings, Lists, are_different, path_of}

-- ---- the lines of a value
begun_is : (c : ℕ) (ls : List (List ℕ)) → begun c ls ≡ onto_first c ls
begun_is c [] = refl
begun_is c (l ∷ ls) = refl

pub lines_are_parts : (value : List ℕ) → value_lines value ≡ slice_split (λ b. b == 10) value
lines_are_parts [] = refl
lines_are_parts (c ∷ cs) = by_test (c == 10) (lines_are_parts cs)
  where
    by_test : (b : Bool) → value_lines cs ≡ slice_split (λ b. b == 10) cs → cond b ([] ∷ value_lines cs) (begun c (value_lines cs)) ≡ cond b ([] ∷ slice_split (λ b. b == 10) cs) (onto_first c (slice_split (λ b. b == 10) cs))
    by_test true h = ap (λ ls. [] ∷ ls) h
    by_test false h = begun_is c (value_lines cs) ∙ ap (onto_first c) h

-- ---- one more line
skipped : (before : List (List ℕ)) (line : List ℕ) → has_word line ≡ false → filter has_word (before ++ line ∷ []) ≡ filter has_word before
skipped [] line e = ap (λ b. cond b (line ∷ []) []) e
skipped (x ∷ xs) line e = ap (λ ls. cond (has_word x) (x ∷ ls) ls) (skipped xs line e)

taken : (before : List (List ℕ)) (line : List ℕ) → has_word line ≡ true → filter has_word (before ++ line ∷ []) ≡ filter has_word before ++ line ∷ []
taken [] line e = ap (λ b. cond b (line ∷ []) []) e
taken (x ∷ xs) line e = ap (λ ls. cond (has_word x) (x ∷ ls) ls) (taken xs line e) ∙ by_test (has_word x)
  where
    by_test : (b : Bool) → cond b (x ∷ (filter has_word xs ++ line ∷ [])) (filter has_word xs ++ line ∷ []) ≡ cond b (x ∷ filter has_word xs) (filter has_word xs) ++ line ∷ []
    by_test true = refl
    by_test false = refl

listing_last : (lines : List (List ℕ)) (files : List Listed) (line : List ℕ) (file : Listed) → AreListings lines files → IsListing line file → AreListings (lines ++ line ∷ []) (files ++ file ∷ [])
listing_last [] [] line file h l = (l, tt)
listing_last (x ∷ xs) (f ∷ fs) line file h l = (h.0, listing_last xs fs line file h.1 l)
listing_last [] (f ∷ fs) line file h l = absurd h
listing_last (x ∷ xs) [] line file h l = absurd h

pub one_blank : (before : List (List ℕ)) (line : List ℕ) (files : List Listed) → has_word line ≡ false → AreListings (filter has_word before) files → AreListings (filter has_word (before ++ line ∷ [])) files
one_blank before line files e h = subst (λ ls. AreListings ls files) (sym (skipped before line e)) h

pub one_listing : (before : List (List ℕ)) (line : List ℕ) (files more : List Listed) (file : Listed) → has_word line ≡ true → more ≡ files ++ file ∷ [] → IsListing line file → AreListings (filter has_word before) files → AreListings (filter has_word (before ++ line ∷ [])) more
one_listing before line files more file e m l h =
    subst (λ ls. AreListings ls more) (sym (taken before line e)) (subst (AreListings (filter has_word before ++ line ∷ [])) (sym m) (listing_last (filter has_word before) files line file h l))

-- a line that isn't blank lists one of the files
pub listed_at : (before after : List (List ℕ)) (line : List ℕ) (files : List Listed) → has_word line ≡ true → AreListings (filter has_word (before ++ line ∷ after)) files → (file : Listed) × IsListing line file
listed_at [] after line files e h = first files (subst (λ b. AreListings (cond b (line ∷ filter has_word after) (filter has_word after)) files) e h)
  where
    first : (fs : List Listed) → AreListings (line ∷ filter has_word after) fs → (file : Listed) × IsListing line file
    first [] h = absurd h
    first (f ∷ fs) h = (f, h.0)
listed_at (x ∷ xs) after line files e h = by_test (has_word x) files h (λ fs. listed_at xs after line fs e)
  where
    by_test : (b : Bool) (fs : List Listed) → AreListings (cond b (x ∷ filter has_word (xs ++ line ∷ after)) (filter has_word (xs ++ line ∷ after))) fs → ((gs : List Listed) → AreListings (filter has_word (xs ++ line ∷ after)) gs → (file : Listed) × IsListing line file) → (file : Listed) × IsListing line file
    by_test true [] h more = absurd h
    by_test true (f ∷ fs) h more = more fs h.1
    by_test false fs h more = more fs h

-- ---- a line lists one file alone
one_of : {X : Type 0} (x y : X) → Some x ≡ Some y → x ≡ y
one_of x y e = cc

one_file : (line : List ℕ) (a b : Listed) → IsListing line a → IsListing line b → a ≡ b
one_file line a b h g =
    let ws : h.digits ∷ h.size ∷ h.path ∷ [] ≡ g.digits ∷ g.size ∷ g.path ∷ [] = sym h.words_are ∙ g.words_are in
    let digits : h.digits ≡ g.digits = cc in
    let size : h.size ≡ g.size = cc in
    let path : h.path ≡ g.path = cc in
    let sha : a.sha256 ≡ b.sha256 = one_of a.sha256 b.sha256 (sym h.is.sha256 ∙ ap (digest 32) digits ∙ g.is.sha256) in
    let n : a.size ≡ b.size = decimal_injective a.size b.size h.is.small g.is.small (sym h.is.size_is ∙ size ∙ g.is.size_is) in
    let p : a.path ≡ b.path = sym h.is.path_is ∙ path ∙ g.is.path_is in
    (λ i. record { path = p i; size = n i; sha256 = sha i })

pub one_list : (lines : List (List ℕ)) (xs ys : List Listed) → AreListings lines xs → AreListings lines ys → xs ≡ ys
one_list [] [] [] h g = refl
one_list [] (x ∷ xs) ys h g = absurd h
one_list [] [] (y ∷ ys) h g = absurd g
one_list (l ∷ ls) [] ys h g = absurd h
one_list (l ∷ ls) (x ∷ xs) [] h g = absurd g
one_list (l ∷ ls) (x ∷ xs) (y ∷ ys) h g = let e = one_file l x y h.0 g.0 in let r = one_list ls xs ys h.1 g.1 in (λ i. e i ∷ r i)

pub not_once : (value : List ℕ) (mine : List Listed) → AreListings (filter has_word (value_lines value)) mine → are_different (map path_of mine) ≡ false → (files : List Listed) → Lists value files → ⊥
not_once value mine h f files l =
    let e = one_list (filter has_word (value_lines value)) mine files h l.each in
    let no : false ≡ true = sym f ∙ ap (λ fs. are_different (map path_of fs)) e ∙ l.once in cc
