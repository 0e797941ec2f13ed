-- What a line is, as the relation has it.
use Rattle.std.proofs.Common.{◌≡◌, ℕ, Bool, true, false, cond, not, List, [], ◌∷◌, ◌++◌, refl, sym, ap, ◌∙◌, subst, Result, Ok, Err, inl, inr, ◌⊎◌}
use Rattle.std.specs.Bool.{◌==◌}
use Rattle.std.specs.List.{list_any, list_all}
use Rattle.std.specs.Str.{is_utf8}
use Rattle.std.proofs.lemmas.Bool.{true≢false, or_parts, and_from, eqb-true, not-false, not_from_false}
use Rattle.control_stanza.specs.declared.fault.StanzaKind.{StanzaKind}
use Rattle.control_stanza.specs.declared.fault.StanzaKind.TheVariants.{CarriageReturn, NotUtf8, BadFieldName}
use Rattle.control_stanza.specs.Lines.{LineView, Blank, More, Start, is_blank, trim_start, trim_end, kept, before_colon, from_colon, starts_blank, ends_blank, has_return, has_line_end, is_field_name, field_of, shape_of, line_of}
use Rattle.control_stanza.specs.Fields.{is_further_line, is_value}
use Rattle.control_stanza.proofs.FieldLemmas.{any_parts, value_first}
use Rattle.control_stanza.specs.Spelled.{AllBlank, IsPlain, IsSeparator, Begins, GoesOn}

-- by a test
chosen : {A : Type 0} (b : Bool) (x y z : A) → cond b x y ≡ z → ((b ≡ true) × (x ≡ z)) ⊎ ((b ≡ false) × (y ≡ z))
chosen true x y z h = inl (refl, h)
chosen false x y z h = inr (refl, h)

pub colon_split : (l : List ℕ) → before_colon l ++ from_colon l ≡ l
colon_split [] = refl
colon_split (c ∷ cs) = by_test (c == 58) (colon_split cs)
  where
    by_test : (b : Bool) → before_colon cs ++ from_colon cs ≡ cs → cond b [] (c ∷ before_colon cs) ++ cond b (c ∷ cs) (from_colon cs) ≡ c ∷ cs
    by_test true h = refl
    by_test false h = ap (λ l. c ∷ l) h

pub colon_first : (l : List ℕ) (c : ℕ) (rest : List ℕ) → from_colon l ≡ c ∷ rest → c ≡ 58
colon_first [] c rest h = cc
colon_first (x ∷ xs) c rest h =
    elim (chosen (x == 58) (x ∷ xs) (from_colon xs) (c ∷ rest) h) [ inl p ↦ at x c xs rest p.1 (eqb-true x 58 p.0) | inr p ↦ colon_first xs c rest p.1 ]
  where
    at : (x c : ℕ) (xs rest : List ℕ) → x ∷ xs ≡ c ∷ rest → x ≡ 58 → c ≡ 58
    at x c xs rest e h = cc

-- l is blanks and t, which doesn't begin with one
pub record Front (l t : List ℕ) : Type 0 where
  pub before : List ℕ
  pub is : l ≡ before ++ t
  pub blank : AllBlank before
  pub starts : starts_blank t ≡ false

pub front_of : (l : List ℕ) → Front l (trim_start l)
front_of [] = record { before = []; is = refl; blank = refl; starts = refl }
front_of (c ∷ cs) = by_test (is_blank c) refl (front_of cs)
  where
    by_test : (b : Bool) → is_blank c ≡ b → Front cs (trim_start cs) → Front (c ∷ cs) (cond b (trim_start cs) (c ∷ cs))
    by_test true h f = record { before = c ∷ f.before; is = ap (λ l. c ∷ l) f.is; blank = rw h f.blank; starts = f.starts }
    by_test false h f = record { before = []; is = refl; blank = refl; starts = h }

-- l is t and blanks, and t doesn't end with one
pub record Back (l t : List ℕ) : Type 0 where
  pub after : List ℕ
  pub is : l ≡ t ++ after
  pub blank : AllBlank after
  pub ends : ends_blank t ≡ false

pub back_of : (l : List ℕ) → Back l (trim_end l)
back_of [] = record { after = []; is = refl; blank = refl; ends = refl }
back_of (c ∷ cs) = by_rest (trim_end cs) (back_of cs)
  where
    by_test : (b : Bool) → is_blank c ≡ b → Back cs [] → Back (c ∷ cs) (cond b [] (c ∷ []))
    by_test true h f = record { after = c ∷ cs; is = refl; blank = rw h (subst AllBlank (sym f.is) f.blank); ends = refl }
    by_test false h f = record { after = f.after; is = ap (λ l. c ∷ l) f.is; blank = f.blank; ends = h }

    by_rest : (t : List ℕ) → Back cs t → Back (c ∷ cs) (kept c t)
    by_rest [] f = by_test (is_blank c) refl f
    by_rest (d ∷ ds) f = record { after = f.after; is = ap (λ l. c ∷ l) f.is; blank = f.blank; ends = f.ends }

trim_end_keeps_start : (l : List ℕ) → starts_blank l ≡ false → starts_blank (trim_end l) ≡ false
trim_end_keeps_start [] h = refl
trim_end_keeps_start (c ∷ cs) h = by_rest (trim_end cs)
  where
    by_test : (b : Bool) → is_blank c ≡ b → is_blank c ≡ false → starts_blank (cond b [] (c ∷ [])) ≡ false
    by_test true g h = refl
    by_test false g h = h

    by_rest : (t : List ℕ) → starts_blank (kept c t) ≡ false
    by_rest [] = by_test (is_blank c) refl h
    by_rest (d ∷ ds) = h

-- a line that isn't all blank keeps its first blank
trim_end_starts : (l : List ℕ) → starts_blank l ≡ true → list_all is_blank l ≡ false → starts_blank (trim_end l) ≡ true
trim_end_starts [] h g = h
trim_end_starts (c ∷ cs) h g = by_rest (trim_end cs) (back_of cs)
  where
    by_rest : (t : List ℕ) → Back cs t → starts_blank (kept c t) ≡ true
    by_rest [] f = absurd (true≢false (sym (rw h (subst AllBlank (sym f.is) f.blank)) ∙ g))
    by_rest (d ∷ ds) f = h

ok_is : (r : Result LineView StanzaKind) (v w : LineView) → r ≡ Ok w → r ≡ Ok v → v ≡ w
ok_is r v w g h = cc

not_err : (r : Result LineView StanzaKind) (k : StanzaKind) (v : LineView) → r ≡ Err k → r ≡ Ok v → ⊥
not_err r k v g h = cc

-- the tests of a line, one after another
tests_of : (line : List ℕ) (v : LineView) → line_of line ≡ Ok v → IsPlain line × (shape_of line ≡ Ok v)
unfolding line_of
tests_of line v h =
    elim (chosen (has_return line) (Err CarriageReturn) _ (Ok v) h) [
      | inl p ↦ absurd (not_err _ CarriageReturn v refl p.1)
      | inr p ↦ elim (chosen (not (is_utf8 line)) (Err NotUtf8) _ (Ok v) p.1) [
        | inl q ↦ absurd (not_err _ NotUtf8 v refl q.1)
        | inr q ↦ (record { no_return = p.0; utf8 = not-false (is_utf8 line) q.0 }, q.1)
      ]
    ]

-- the tests of its shape
shapes_of : (line : List ℕ) (v : LineView) → shape_of line ≡ Ok v →
    (AllBlank line × (v ≡ Blank)) ⊎ ((list_all is_blank line ≡ false) × (((starts_blank line ≡ true) × (v ≡ More (trim_end line))) ⊎ (field_of (before_colon line) (from_colon line) ≡ Ok v)))
unfolding shape_of
shapes_of line v h =
    elim (chosen (list_all is_blank line) (Ok Blank) _ (Ok v) h) [
      | inl q ↦ inl (q.0, ok_is _ v Blank refl q.1)
      | inr q ↦ inr (
        q.0,
        elim (chosen (starts_blank line) (Ok (More (trim_end line))) _ (Ok v) q.1) [
          | inl r ↦ inl (r.0, ok_is _ v (More (trim_end line)) refl r.1)
          | inr r ↦ inr r.1
        ],
      )
    ]

-- what makes a field's first line
field_tests : (name from : List ℕ) (v : LineView) → field_of name from ≡ Ok v → (c : ℕ) × ((rest : List ℕ) × ((from ≡ c ∷ rest) × (is_field_name name ≡ true) × (v ≡ Start name (trim_end (trim_start rest)))))
field_tests name [] v h = absurd (not_err _ _ v refl h)
field_tests name (c ∷ rest) v h =
    elim (chosen (is_field_name name) (Ok (Start name (trim_end (trim_start rest)))) (Err BadFieldName) (Ok v) h) [
      | inl p ↦ (c, (rest, (refl, p.0, ok_is _ v _ refl p.1)))
      | inr p ↦ absurd (not_err _ _ v refl p.1)
    ]

pub separator_is : (line : List ℕ) → line_of line ≡ Ok Blank → IsSeparator line
separator_is line h =
    let t = tests_of line Blank h in
    elim (shapes_of line Blank t.1) [
      | inl p ↦ record { blank = p.0; plain = t.0 }
      | inr p ↦ elim p.1 [ inl q ↦ absurd (other _ q.1) | inr q ↦ absurd (named _ _ (field_tests _ _ Blank q).1.1.2) ]
    ]
  where
    other : (m : List ℕ) → Blank ≡ More m → ⊥
    other m h = cc

    named : (n v : List ℕ) → Blank ≡ Start n v → ⊥
    named n v h = cc

pub goes_on_is : (line more : List ℕ) → line_of line ≡ Ok (More more) → GoesOn line more
goes_on_is line more h =
    let t = tests_of line (More more) h in
    elim (shapes_of line (More more) t.1) [
      | inl p ↦ absurd (blank _ p.1)
      | inr p ↦ elim p.1 [
        | inl q ↦
            (let e : more ≡ trim_end line = same _ _ q.1 in
            let b = back_of line in
            subst (GoesOn line) (sym e) (record { after = b.after; is = b.is; blank_after = b.blank; starts = trim_end_starts line q.0 p.0; ends = b.ends; plain = t.0 }))
        | inr q ↦ absurd (named _ _ _ (field_tests _ _ (More more) q).1.1.2)
      ]
    ]
  where
    blank : (m : List ℕ) → More m ≡ Blank → ⊥
    blank m h = cc

    same : (m n : List ℕ) → More m ≡ More n → m ≡ n
    same m n h = cc

    named : (m n v : List ℕ) → More m ≡ Start n v → ⊥
    named m n v h = cc

pub begins_is : (line name value : List ℕ) → line_of line ≡ Ok (Start name value) → Begins line name value
begins_is line name value h =
    let t = tests_of line (Start name value) h in
    elim (shapes_of line (Start name value) t.1) [
      | inl p ↦ absurd (blank _ _ p.1)
      | inr p ↦ elim p.1 [
        | inl q ↦ absurd (other _ _ _ q.1)
        | inr q ↦ by_field t.0 (field_tests _ _ (Start name value) q)
      ]
    ]
  where
    blank : (n v : List ℕ) → Start n v ≡ Blank → ⊥
    blank n v h = cc

    other : (n v m : List ℕ) → Start n v ≡ More m → ⊥
    other n v m h = cc

    parts : (n v m w : List ℕ) → Start n v ≡ Start m w → (n ≡ m) × (v ≡ w)
    parts n v m w h = (cc, cc)

    by_field : IsPlain line → (c : ℕ) × ((rest : List ℕ) × ((from_colon line ≡ c ∷ rest) × (is_field_name (before_colon line) ≡ true) × (Start name value ≡ Start (before_colon line) (trim_end (trim_start rest))))) → Begins line name value
    by_field plain f =
        let c = f.0 in
        let rest = f.1.0 in
        let e = f.1.1.0 in
        let same = parts name value (before_colon line) (trim_end (trim_start rest)) f.1.1.2 in
        let front = front_of rest in
        let back = back_of (trim_start rest) in
        record {
          before = front.before;
          after = back.after;
          is = sym (colon_split line) ∙ (λ i. sym same.0 i ++ (e ∙ ap (λ x. x ∷ rest) (colon_first line c rest e) ∙ ap (λ l. 58 ∷ l) (front.is ∙ ap (λ l. front.before ++ l) (back.is ∙ ap (λ l. l ++ back.after) (sym same.1)))) i);
          blank_before = front.blank;
          blank_after = back.blank;
          starts = ap starts_blank same.1 ∙ trim_end_keeps_start (trim_start rest) front.starts;
          ends = ap ends_blank same.1 ∙ back.ends;
          name_is = ap is_field_name same.0 ∙ f.1.1.1;
          plain = plain;
        }

-- what the pieces of a line are
pub more_is : (line more : List ℕ) → line_of line ≡ Ok (More more) → has_line_end line ≡ false → (is_further_line more ≡ true) × (has_return more ≡ false) × (has_line_end more ≡ false)
more_is line more h e =
    let g = goes_on_is line more h in (
      and_from _ _ g.starts (not_from_false _ g.ends),
      (any_parts (λ c. c == 13) more g.after (ap has_return (sym g.is) ∙ g.plain.no_return)).0,
      (any_parts (λ c. c == 10) more g.after (ap has_line_end (sym g.is) ∙ e)).0,
    )

pub field_is : (line name value : List ℕ) → line_of line ≡ Ok (Start name value) → has_line_end line ≡ false → is_utf8 value ≡ true → (is_field_name name ≡ true) × (is_value value ≡ true)
field_is line name value h e u =
    let b = begins_is line name value h in
    let part : (p : ℕ → Bool) → list_any p line ≡ false → list_any p value ≡ false = λ p free. (any_parts p value b.after (any_parts p b.before (value ++ b.after) (or_parts (p 58) _ (any_parts p name (58 ∷ (b.before ++ (value ++ b.after))) (ap (list_any p) (sym b.is) ∙ free)).1).1).1).0 in
    (b.name_is, value_first value b.starts b.ends (part (λ c. c == 13) b.plain.no_return) (part (λ c. c == 10) e) u)
