-- Names behind blanks, and paths.
use Rattle.std.proofs.Common.{◌≡◌, ◌⊎◌, inl, inr, ℕ, zero, suc, ◌<◌, Bool, true, false, List, [], ◌∷◌, ◌++◌, get_or, IsTrue, All, Less, refl, sym, ap, ◌∙◌, subst, arith, append-nil, append_assoc}
use Rattle.std.specs.Bool.{◌==◌}
use Rattle.std.specs.List.{list_all, list_any}
use Rattle.std.specs.Ordering.{nat_cmp}
use Rattle.std.specs.Cmp.Lexicographic.{slice_cmp}
use Rattle.std.specs.Str.{IsUtf8}
use Rattle.std.proofs.lemmas.Bool.{and_parts, or_parts, false_from_ne_true, true≢false}
use Rattle.std.proofs.lemmas.Bool.Decides.{nat_tests}
use Rattle.std.proofs.lemmas.List.Concat.{flat_map-append}
use Rattle.std.proofs.lemmas.Str.{IsUtf8-from_ascii}
use Rattle.ap_text.specs.Names.{is_name, is_name_byte, is_architecture}
use Rattle.ap_text.specs.Paths.{is_path_byte, is_safe_path}
use Rattle.package_core.proofs.PathLemmas.{safe_is_plain}
use Rattle.machine_state.specs.Texts.{AreNames, is_path}
use Rattle.catalogue_lines.specs.declared.shared_values.Listed.{Listed}
use Rattle.catalogue_lines.specs.declared.shared_values.Listed.TheVariants.{Components, Architectures}
use Rattle.machine_state.specs.Words.{names_behind}
use Rattle.catalogue_lines.specs.NameLines.{IsCut, IsNextName, listed_name}
use Rattle.catalogue_lines.proofs.ValidLemmas.{all_cons, all_none, all_tail}
use Rattle.catalogue_lines.proofs.NameLemmas.{names_before, names_push}

-- ---- paths
visible_small : (b : ℕ) → is_path_byte b ≡ true → b < 128
visible_small b e = grind (arith, nat_tests)

visible_ascii : (bs : List ℕ) → list_all is_path_byte bs ≡ true → (i : ℕ) → get_or bs i 0 < 128
visible_ascii [] e zero = omega arith
visible_ascii [] e (suc i) = omega arith
visible_ascii (b ∷ bs) e zero = visible_small b (and_parts (is_path_byte b) (list_all is_path_byte bs) e).0
visible_ascii (b ∷ bs) e (suc i) = visible_ascii bs (and_parts (is_path_byte b) (list_all is_path_byte bs) e).1 i

pub path_visible : (most : ℕ) (bs : List ℕ) → is_path most bs ≡ true → list_all is_path_byte bs ≡ true
path_visible most bs e = (safe_is_plain bs (and_parts (is_safe_path bs) _ e).0).1

-- what isn't UTF-8 is no path
pub no_path : (most : ℕ) (bs : List ℕ) → (IsUtf8 bs → ⊥) → is_path most bs ≡ false
no_path most bs h = false_from_ne_true (is_path most bs) (λ e. h (IsUtf8-from_ascii bs (visible_ascii bs (path_visible most bs e))))

-- ---- names behind blanks
abbrev pub NoBlank : List ℕ → Type 0
NoBlank name = list_any (λ b. b == 32) name ≡ false

abbrev pub AtBlank : List ℕ → Type 0
AtBlank text = (text ≡ []) ⊎ ((tail : List ℕ) × (text ≡ 32 ∷ tail))

pub listed_is_name : (listed : Listed) (name : List ℕ) → listed_name listed name ≡ true → is_name name ≡ true
listed_is_name Components name e = (and_parts (is_name name) _ e).0
listed_is_name Architectures name e = (and_parts (is_name name) _ (and_parts (is_architecture name) _ e).0).0

bytes_no_blank : (bs : List ℕ) → list_all is_name_byte bs ≡ true → NoBlank bs
bytes_no_blank [] e = refl
bytes_no_blank (b ∷ bs) e =
    let p = and_parts (is_name_byte b) (list_all is_name_byte bs) e in
    rw (apart b p.0) (bytes_no_blank bs p.1)
  where
    apart : (b : ℕ) → is_name_byte b ≡ true → (b == 32) ≡ false
    apart b h = grind (arith, nat_tests)

pub name_no_blank : (listed : Listed) (name : List ℕ) → listed_name listed name ≡ true → NoBlank name
name_no_blank listed name e = bytes_no_blank name (and_parts _ (list_all is_name_byte name) (listed_is_name listed name e)).1

no_blank_at : (y : ℕ) → (y == 32) ≡ false → 32 ≡ y → ⊥
no_blank_at y h e = let t : (32 == 32) ≡ false = ap (λ z. z == 32) e ∙ h in cc

blank_in : (y : ℕ) (ys r s : List ℕ) → NoBlank (y ∷ ys) → AtBlank r → r ≡ y ∷ (ys ++ s) → ⊥
blank_in y ys r s n (inl z) e = let t : [] ≡ y ∷ (ys ++ s) = sym z ∙ e in cc
blank_in y ys r s n (inr h) e =
    let t : 32 ∷ h.0 ≡ y ∷ (ys ++ s) = sym h.1 ∙ e in
    no_blank_at y (or_parts (y == 32) (list_any (λ b. b == 32) ys) n).0 cc

one_cut : (a b r s : List ℕ) → NoBlank a → NoBlank b → AtBlank r → AtBlank s → a ++ r ≡ b ++ s → (a ≡ b) × (r ≡ s)
one_cut [] [] r s n m p q e = (refl, e)
one_cut [] (y ∷ ys) r s n m p q e = absurd (blank_in y ys r s m p e)
one_cut (x ∷ xs) [] r s n m p q e = absurd (blank_in x xs s r n q (sym e))
one_cut (x ∷ xs) (y ∷ ys) r s n m p q e =
    let t = one_cut xs ys r s (or_parts (x == 32) (list_any (λ b. b == 32) xs) n).1 (or_parts (y == 32) (list_any (λ b. b == 32) ys) m).1 p q cc in
    let h : x ≡ y = cc in
    ((λ i. h i ∷ t.0 i), t.1)

pub cut_unique : (text a b r s : List ℕ) → IsCut text a r → IsCut text b s → (a ≡ b) × (r ≡ s)
cut_unique text a b r s h g =
    let e : 32 ∷ (a ++ r) ≡ 32 ∷ (b ++ s) = sym h.whole ∙ g.whole in
    one_cut a b r s h.front g.front h.next g.next cc

names_at_blank : (names : List (List ℕ)) → AtBlank (names_behind names)
names_at_blank [] = inl refl
names_at_blank (n ∷ ns) = inr (n ++ names_behind ns, refl)

abbrev NoBlanks : List (List ℕ) → Type 0
NoBlanks [] = Unit {0}
NoBlanks (n ∷ ns) = NoBlank n × NoBlanks ns

no_blanks : (listed : Listed) (names : List (List ℕ)) → All (λ name. IsTrue (listed_name listed name)) names → NoBlanks names
no_blanks listed [] a = tt
no_blanks listed (n ∷ ns) a = (name_no_blank listed n (a 0 n (omega arith)), no_blanks listed ns (all_tail (λ name. IsTrue (listed_name listed name)) n ns a))

abbrev GoesOn : List (List ℕ) → List (List ℕ) → List ℕ → Type 0
GoesOn done names rest = (more : List (List ℕ)) × (names ≡ done ++ more) × (rest ≡ names_behind more)

behind_at_blank : (names : List (List ℕ)) (rest : List ℕ) → AtBlank rest → AtBlank (names_behind names ++ rest)
behind_at_blank [] rest b = b
behind_at_blank (n ∷ ns) rest b = inr ((n ++ names_behind ns) ++ rest, refl)

-- names that are written by a text go on behind those at its front
names_front : (done names : List (List ℕ)) (rest : List ℕ) → NoBlanks done → NoBlanks names → AtBlank rest → names_behind names ≡ names_behind done ++ rest → GoesOn done names rest
names_front [] names rest d n b e = (names, refl, sym e)
names_front (d ∷ ds) [] rest p n b e = cc
names_front (d ∷ ds) (m ∷ ms) rest p n b e =
    let t : m ++ names_behind ms ≡ (d ++ names_behind ds) ++ rest = cc in
    let cut = one_cut m d (names_behind ms) (names_behind ds ++ rest) n.0 p.0 (names_at_blank ms) (behind_at_blank ds rest b) (t ∙ append_assoc d (names_behind ds) rest) in
    let on = names_front ds ms rest p.1 n.1 b cut.1 in
    (on.0, (λ i. cut.0 i ∷ on.1 i), on.2)

pub names_apart : (listed : Listed) (a b : List (List ℕ)) → AreNames (listed_name listed) a → AreNames (listed_name listed) b → names_behind a ≡ names_behind b → a ≡ b
names_apart listed a b g h e =
    let on = names_front b a [] (no_blanks listed b h.each) (no_blanks listed a g.each) (inl refl) (e ∙ sym (append-nil (names_behind b))) in
    on.1 ∙ ap (λ l. b ++ l) (none on.0 on.2) ∙ append-nil b
  where
    none : (more : List (List ℕ)) → [] ≡ names_behind more → more ≡ []
    none [] z = refl
    none (m ∷ ms) z = cc

all_middle : {X : Type 0} (P : X → Type 0) (xs : List X) (y : X) (ys : List X) → All P (xs ++ y ∷ ys) → P y
all_middle P [] y ys a = a 0 y (omega arith)
all_middle P (x ∷ xs) y ys a = all_middle P xs y ys (all_tail P x (xs ++ y ∷ ys) a)

module _ (listed : Listed) where
  abbrev pub Is : List ℕ → Bool
  Is = listed_name listed

  -- no names are written so where the next of them can't be
  pub names_stop : (text rest : List ℕ) (done : List (List ℕ)) → AreNames Is done → text ≡ names_behind done ++ rest → (AtBlank text → AtBlank rest) → (rest ≡ [] → ⊥)
      → ((name behind : List ℕ) → IsCut rest name behind → IsNextName Is done name → ⊥) → (names : List (List ℕ)) → AreNames Is names → text ≡ names_behind names → ⊥
  names_stop text rest done d w at some never names n e =
      let blank = at (subst AtBlank (sym e) (names_at_blank names)) in
      let on = names_front done names rest (no_blanks listed done d.each) (no_blanks listed names n.each) blank (sym e ∙ w) in
      of on.0 on.1 on.2
    where
      of : (more : List (List ℕ)) → names ≡ done ++ more → rest ≡ names_behind more → ⊥
      of [] h r = some r
      of (m ∷ ms) h r =
          let all = subst (λ (l : List (List ℕ)). AreNames Is l) h n in
          let good = all_middle (λ name. IsTrue (Is name)) done m ms all.each in
          never m (names_behind ms) (record { whole = r; front = name_no_blank listed m good; next = names_at_blank ms })
          (record { good = good; after = names_before (λ (x : List ℕ). x) done m ms all.sorted })

  all_push : {X : Type 0} (P : X → Type 0) (xs : List X) (x : X) → All P xs → P x → All P (xs ++ x ∷ [])
  all_push P [] x a h = all_cons P x [] h (all_none P)
  all_push P (y ∷ ys) x a h = all_cons P y (ys ++ x ∷ []) (a 0 y (omega arith)) (all_push P ys x (all_tail P y ys a) h)

  pub names_more : (text rest name behind : List ℕ) (done after : List (List ℕ)) → AreNames Is done → text ≡ names_behind done ++ rest → IsCut rest name behind → IsNextName Is done name → after ≡ done ++ name ∷ []
      → AreNames Is after × (text ≡ names_behind after ++ behind)
  names_more text rest name behind done after d w c n e = subst (λ (l : List (List ℕ)). AreNames Is l × (text ≡ names_behind l ++ behind)) (sym e) (
    record { each = all_push (λ x. IsTrue (Is x)) done name d.each n.good; sorted = names_push (λ (x : List ℕ). x) done name d.sorted n.after },
    w ∙ ap (λ r. names_behind done ++ r) c.whole ∙ sym (append_assoc (names_behind done) (32 ∷ name) behind)
        ∙ ap (λ l. l ++ behind) (sym (flat_map-append (λ (x : List ℕ). 32 ∷ x) done (name ∷ []) ∙ ap (λ l. names_behind done ++ l) (append-nil (32 ∷ name)))),
  )

  pub no_next_name : (text bytes rest : List ℕ) (done : List (List ℕ)) → IsCut text bytes rest → is_name bytes ≡ false → (name behind : List ℕ) → IsCut text name behind → IsNextName Is done name → ⊥
  no_next_name text bytes rest done c f name behind d n =
      true≢false (sym (listed_is_name listed name n.good) ∙ ap is_name (cut_unique text name bytes behind rest d c).0 ∙ f)

  pub no_other_name : (text bytes rest : List ℕ) (done : List (List ℕ)) → IsCut text bytes rest → (Is bytes ≡ false) ⊎ (All (λ one. slice_cmp nat_cmp one bytes ≡ Less) done → ⊥)
      → (name behind : List ℕ) → IsCut text name behind → IsNextName Is done name → ⊥
  no_other_name text bytes rest done c f name behind d n = of f
    where
      same : name ≡ bytes
      same = (cut_unique text name bytes behind rest d c).0

      of : (Is bytes ≡ false) ⊎ (All (λ one. slice_cmp nat_cmp one bytes ≡ Less) done → ⊥) → ⊥
      of (inl h) = true≢false (sym n.good ∙ ap Is same ∙ h)
      of (inr h) = h (subst (λ (x : List ℕ). All (λ one. slice_cmp nat_cmp one x ≡ Less) done) same n.after)
