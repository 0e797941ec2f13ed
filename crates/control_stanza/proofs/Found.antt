-- What is read is spelled so.
use Rattle.std.proofs.Common.{◌≡◌, ℕ, ◌+◌, ◌<◌, Bool, true, false, cond, ◌||◌, List, [], ◌∷◌, ◌++◌, length, map, refl, sym, ap, ◌∙◌, subst, arith, append_assoc, append-nil, Result, Ok, Err, Option, None, Some, inl, inr, ◌⊎◌}
use Rattle.control_stanza.specs.declared.fault.StanzaKind.{StanzaKind}
use Rattle.control_stanza.specs.declared.fault.StanzaKind.TheVariants.{RepeatedField, TooLong}
use Rattle.control_stanza.specs.declared.begun.Begun.{Begun}
use Rattle.control_stanza.specs.declared.stanza.Field.{Field}
use Rattle.control_stanza.specs.Spelled.{IsSeparator, Begins, GoesOn, SpellsMore, SpellsField, Spells, IsDistinct, IsParted, Stanzas, within}
use Rattle.control_stanza.proofs.Trims.{separator_is, goes_on_is, begins_is}
use Rattle.control_stanza.specs.Lines.{LineView, Blank, More, Start, line_of, bare, bytes_in}
use Rattle.control_stanza.specs.Fields.{same_name, has_name}
use Rattle.std.specs.List.{list_any}
use Rattle.std.proofs.lemmas.Bool.{or_parts}
use Rattle.std.proofs.lemmas.List.{length-append, length-map}
use Rattle.control_stanza.specs.Reading.{Fault, go_on, Step, ended_by, grown, added, continued, stepped, line_step, with_ended, after_step, stanzas_from}

-- ---- one line more
more_push : (lines : List (List ℕ)) (rest line more : List ℕ) → SpellsMore lines rest → GoesOn line more → SpellsMore (lines ++ line ∷ []) (rest ++ 10 ∷ more)
more_push [] rest line more h g = (more, [], ap (λ l. l ++ 10 ∷ more) h ∙ ap (λ l. 10 ∷ l) (sym (append-nil more)), g, refl)
more_push (l ∷ ls) rest line more h g = (h.0, h.1 ++ 10 ∷ more, ap (λ l. l ++ 10 ∷ more) h.2 ∙ ap (λ l. 10 ∷ l) (append_assoc h.0 h.1 (10 ∷ more)), h.3, more_push ls h.1 line more h.4 g)

field_push : (lines : List (List ℕ)) (f : Field) (line more : List ℕ) → SpellsField lines f → GoesOn line more → SpellsField (lines ++ line ∷ []) (record f { value = f.value ++ 10 ∷ more })
field_push lines f line more h g = record {
  line = h.line;
  others = h.others ++ line ∷ [];
  first = h.first;
  rest = h.rest ++ 10 ∷ more;
  lines_are = ap (λ l. l ++ line ∷ []) h.lines_are;
  value_is = ap (λ l. l ++ 10 ∷ more) h.value_is ∙ append_assoc h.first h.rest (10 ∷ more);
  begins = h.begins;
  goes_on = more_push h.others h.rest line more h.goes_on g;
}

pub spells_begin : (lines : List (List ℕ)) (fields : List Field) (line name value : List ℕ) → Spells lines fields → Begins line name value → Spells (lines ++ line ∷ []) (fields ++ record { name = name; value = value } ∷ [])
spells_begin lines [] line name value h b =
    (line ∷ [], [], ap (λ l. l ++ line ∷ []) h, record { line = line; others = []; first = value; rest = []; lines_are = refl; value_is = sym (append-nil value); begins = b; goes_on = refl }, refl)
spells_begin lines (f ∷ fs) line name value h b =
    (h.0, h.1 ++ line ∷ [], ap (λ l. l ++ line ∷ []) h.2 ∙ append_assoc h.0 h.1 (line ∷ []), h.3, spells_begin h.1 fs line name value h.4 b)

pub spells_go_on : (lines : List (List ℕ)) (fields : List Field) (line more : List ℕ) → Spells lines fields → 0 < length lines → GoesOn line more → Spells (lines ++ line ∷ []) (go_on fields more)
spells_go_on lines [] line more h some g = absurd (omega (arith, ap length h))
spells_go_on lines (f ∷ []) line more h some g =
    (h.0 ++ line ∷ [], [], ap (λ l. l ++ line ∷ []) (h.2 ∙ ap (λ l. h.0 ++ l) h.4 ∙ append-nil h.0) ∙ sym (append-nil (h.0 ++ line ∷ [])), field_push h.0 f line more h.3 g, refl)
spells_go_on lines (f ∷ e ∷ es) line more h some g =
    (h.0, h.1 ++ line ∷ [], ap (λ l. l ++ line ∷ []) h.2 ∙ append_assoc h.0 h.1 (line ∷ []), h.3, spells_go_on h.1 (e ∷ es) line more h.4 (some_of e es h.1 h.4) g)
  where
    some_of : (e : Field) (es : List Field) (lines : List (List ℕ)) → Spells lines (e ∷ es) → 0 < length lines
    some_of e es lines h = omega (arith, ap length h.2, ap length h.3.lines_are, length-append h.0 h.1)

other_push : (fields : List Field) (f : Field) (name : List ℕ) → list_any (λ g. same_name name g.name) fields ≡ false → same_name name f.name ≡ false → list_any (λ g. same_name name g.name) (fields ++ f ∷ []) ≡ false
other_push [] f name h g = rw g refl
other_push (e ∷ es) f name h g = let p = or_parts (same_name name e.name) (list_any (λ g. same_name name g.name) es) h in rw p.0 (other_push es f name p.1 g)

pub distinct_push : (fields : List Field) (f : Field) → IsDistinct fields → has_name fields f.name ≡ false → IsDistinct (fields ++ f ∷ [])
distinct_push [] f h g = (refl, tt)
distinct_push (e ∷ es) f h g =
    let p = or_parts (same_name e.name f.name) (has_name es f.name) g in
    (other_push es f e.name h.0 p.0, distinct_push es f h.1 p.1)

other_go_on : (fields : List Field) (more name : List ℕ) → list_any (λ g. same_name name g.name) (go_on fields more) ≡ list_any (λ g. same_name name g.name) fields
other_go_on [] more name = refl
other_go_on (f ∷ []) more name = refl
other_go_on (f ∷ e ∷ es) more name = ap (λ b. same_name name f.name || b) (other_go_on (e ∷ es) more name)

pub distinct_go_on : (fields : List Field) (more : List ℕ) → IsDistinct fields → IsDistinct (go_on fields more)
distinct_go_on [] more h = tt
distinct_go_on (f ∷ []) more h = (refl, tt)
distinct_go_on (f ∷ e ∷ es) more h = (other_go_on (e ∷ es) more f.name ∙ h.0, distinct_go_on (e ∷ es) more h.1)

-- ---- what one line makes
-- The stanza that is begun has these lines so far.
pub record IsBegun (bound : Option ℕ) (s : Begun) (lines : List (List ℕ)) : Type 0 where
  pub spells : Spells (map bare lines) s.stanza
  pub distinct : IsDistinct s.stanza
  pub some : 0 < length lines
  pub size : s.size ≡ bytes_in lines
  pub small : within bound s.size ≡ true

-- the lines of the stanza that is begun in front of line n; none where none is begun
abbrev pub Stands : Option ℕ → ℕ → Option Begun → List (List ℕ) → Type 0
Stands bound n None lines = lines ≡ []
Stands bound n (Some s) lines = IsBegun bound s lines × (s.number + length lines ≡ n)

bytes_push : (p : List (List ℕ)) (line : List ℕ) → bytes_in (p ++ line ∷ []) ≡ bytes_in p + length line
bytes_push [] line = omega arith
bytes_push (q ∷ qs) line = omega (arith, bytes_push qs line)

map_push : (p : List (List ℕ)) (line : List ℕ) → map bare (p ++ line ∷ []) ≡ map bare p ++ bare line ∷ []
map_push [] line = refl
map_push (q ∷ qs) line = ap (λ l. bare q ∷ l) (map_push qs line)

grown_ok : (bound : Option ℕ) (s : Begun) (step : Step) → grown bound s ≡ Ok step → (within bound s.size ≡ true) × (step ≡ record { ended = []; current = Some s })
grown_ok bound s step h = by_test (within bound s.size) h
  where
    by_test : (b : Bool) → cond b (Ok (record { ended = []; current = Some s })) (Err TooLong) ≡ Ok step → (b ≡ true) × (step ≡ record { ended = []; current = Some s })
    by_test true h = (refl, cc)
    by_test false h = cc

-- A line ends the stanza, or is one more of its lines.
abbrev pub Made : Option ℕ → ℕ → Option Begun → List ℕ → Step → Type 0
Made bound n current line step =
    (IsSeparator (bare line) × (step ≡ record { ended = ended_by current; current = None }))
    ⊎ ((s : Begun) × ((step ≡ record { ended = []; current = Some s }) × ((p : List (List ℕ)) → Stands bound n current p → Stands bound (n + 1) (Some s) (p ++ line ∷ []))))

made_continued : (bound : Option ℕ) (n : ℕ) (current : Option Begun) (line more : List ℕ) (step : Step) → GoesOn (bare line) more → continued bound (length line) more current ≡ Ok step → Made bound n current line step
made_continued bound n None line more step g h = cc
made_continued bound n (Some s) line more step g h =
    let t : Begun = record { number = s.number; size = s.size + length line; stanza = go_on s.stanza more } in
    let o = grown_ok bound t step h in
    inr (
      t,
      (
        o.1,
        λ p b. (
          record {
            spells = subst (λ (l : List (List ℕ)). Spells l (go_on s.stanza more)) (sym (map_push p line)) (spells_go_on (map bare p) s.stanza (bare line) more b.0.spells (omega (arith, length-map p bare, b.0.some)) g);
            distinct = distinct_go_on s.stanza more b.0.distinct;
            some = omega (arith, length-append p (line ∷ []));
            size = omega (arith, bytes_push p line, b.0.size);
            small = o.0;
          },
          omega (arith, length-append p (line ∷ []), b.1),
        ),
      ),
    )

made_added : (bound : Option ℕ) (n : ℕ) (current : Option Begun) (line name value : List ℕ) (step : Step) → Begins (bare line) name value → added bound n (length line) name value current ≡ Ok step → Made bound n current line step
made_added bound n None line name value step g h =
    let t : Begun = record { number = n; size = length line; stanza = record { name = name; value = value } ∷ [] } in
    let o = grown_ok bound t step h in
    inr (
      t,
      (
        o.1,
        λ p b. subst (λ (l : List (List ℕ)). Stands bound (n + 1) (Some t) (l ++ line ∷ [])) (sym b) (
          record {
            spells = spells_begin [] [] (bare line) name value refl g;
            distinct = (refl, tt);
            some = omega arith;
            size = omega arith;
            small = o.0;
          },
          omega arith,
        ),
      ),
    )
made_added bound n (Some s) line name value step g h = by_test (has_name s.stanza name) refl h
  where
    by_test : (b : Bool) → has_name s.stanza name ≡ b → cond b (Err RepeatedField) (grown bound (record { number = s.number; size = s.size + length line; stanza = s.stanza ++ record { name = name; value = value } ∷ [] })) ≡ Ok step → Made bound n (Some s) line step
    by_test true e h = cc
    by_test false e h =
        let field : Field = record { name = name; value = value } in
        let t : Begun = record { number = s.number; size = s.size + length line; stanza = s.stanza ++ field ∷ [] } in
        let o = grown_ok bound t step h in
        inr (
          t,
          (
            o.1,
            λ p b. (
              record {
                spells = subst (λ (l : List (List ℕ)). Spells l (s.stanza ++ field ∷ [])) (sym (map_push p line)) (spells_begin (map bare p) s.stanza (bare line) name value b.0.spells g);
                distinct = distinct_push s.stanza field b.0.distinct e;
                some = omega (arith, length-append p (line ∷ []));
                size = omega (arith, bytes_push p line, b.0.size);
                small = o.0;
              },
              omega (arith, length-append p (line ∷ []), b.1),
            ),
          ),
        )

pub made : (bound : Option ℕ) (n : ℕ) (current : Option Begun) (line : List ℕ) (step : Step) → line_step bound n current line ≡ Ok step → Made bound n current line step
made bound n current line step h = by_shape (line_of (bare line)) refl h
  where
    by_shape : (r : Result LineView StanzaKind) → line_of (bare line) ≡ r → stepped bound n (length line) current r ≡ Ok step → Made bound n current line step
    by_shape (Err kind) e h = cc
    by_shape (Ok Blank) e h = inl (separator_is (bare line) e, cc)
    by_shape (Ok (More more)) e h = made_continued bound n current line more step (goes_on_is (bare line) more e) h
    by_shape (Ok (Start name value)) e h = made_added bound n current line name value step (begins_is (bare line) name value e) h

-- ---- all lines
separator_front : (bound : Option ℕ) (line : List ℕ) (lines : List (List ℕ)) (n : ℕ) (out : List (ℕ × List Field)) → IsSeparator (bare line) → Stanzas bound (n + 1) lines out → Stanzas bound n (line ∷ lines) out
separator_front bound line lines n [] s h = (s, h)
separator_front bound line lines n (o ∷ os) s h = record {
  parting = line ∷ h.parting;
  body = h.body;
  tail = h.tail;
  lines_are = ap (λ l. line ∷ l) h.lines_are;
  separators = (s, h.separators);
  number = omega (arith, h.number);
  spells = h.spells;
  distinct = h.distinct;
  some = h.some;
  small = h.small;
  parted = h.parted;
  behind = h.behind;
}

-- a stanza is begun, and these lines, its own in front, go on to spell what is read
pub record Opened (bound : Option ℕ) (m : ℕ) (lines : List (List ℕ)) (out : List (ℕ × List Field)) : Type 0 where
  pub fields : List Field
  pub others : List (ℕ × List Field)
  pub out_is : out ≡ (m, fields) ∷ others
  pub body : List (List ℕ)
  pub tail : List (List ℕ)
  pub lines_are : lines ≡ body ++ tail
  pub spells : Spells (map bare body) fields
  pub distinct : IsDistinct fields
  pub some : 0 < length body
  pub small : within bound (bytes_in body) ≡ true
  pub parted : IsParted tail
  pub behind : Stanzas bound (m + length body) tail others

abbrev Wanted : Option ℕ → ℕ → Option Begun → List (List ℕ) → List (ℕ × List Field) → Type 0
Wanted bound n None lines out = Stanzas bound n lines out
Wanted bound n (Some s) lines out = (p : List (List ℕ)) → Stands bound n (Some s) p → Opened bound s.number (p ++ lines) out

from_opened : (bound : Option ℕ) (n : ℕ) (lines : List (List ℕ)) (out : List (ℕ × List Field)) → Opened bound n lines out → Stanzas bound n lines out
from_opened bound n lines out h = subst (Stanzas bound n lines) (sym h.out_is) (record {
  parting = [];
  body = h.body;
  tail = h.tail;
  lines_are = h.lines_are;
  separators = tt;
  number = omega arith;
  spells = h.spells;
  distinct = h.distinct;
  some = h.some;
  small = h.small;
  parted = h.parted;
  behind = h.behind;
})

ended_ok : (ended : List (ℕ × List Field)) (r : Result (List (ℕ × List Field)) Fault) (out : List (ℕ × List Field)) → with_ended ended r ≡ Ok out → (rest : List (ℕ × List Field)) × ((r ≡ Ok rest) × (out ≡ ended ++ rest))
ended_ok ended (Ok x) out h = (x, (refl, cc))
ended_ok ended (Err e) out h = cc

ok_same : (r : Result (List (ℕ × List Field)) Fault) (a b : List (ℕ × List Field)) → r ≡ Ok a → r ≡ Ok b → b ≡ a
ok_same r a b g h = cc

closed_by : (bound : Option ℕ) (s : Begun) (p tail : List (List ℕ)) (n : ℕ) (others : List (ℕ × List Field)) → IsBegun bound s p → s.number + length p ≡ n → IsParted tail → Stanzas bound n tail others → Opened bound s.number (p ++ tail) ((s.number, s.stanza) ∷ others)
closed_by bound s p tail n others b nu parted behind = record {
  fields = s.stanza;
  others = others;
  out_is = refl;
  body = p;
  tail = tail;
  lines_are = refl;
  spells = b.spells;
  distinct = b.distinct;
  some = b.some;
  small = subst (λ (k : ℕ). within bound k ≡ true) b.size b.small;
  parted = parted;
  behind = subst (λ (k : ℕ). Stanzas bound k tail others) (sym nu) behind;
}

-- a line and what is found behind it
found_line : (bound : Option ℕ) (n : ℕ) (current : Option Begun) (line : List ℕ) (lines : List (List ℕ)) (out : List (ℕ × List Field)) (step : Step) → Made bound n current line step → with_ended step.ended (stanzas_from bound (n + 1) step.current lines) ≡ Ok out
    → ((c : Option Begun) (o : List (ℕ × List Field)) → stanzas_from bound (n + 1) c lines ≡ Ok o → Wanted bound (n + 1) c lines o) → Wanted bound n current (line ∷ lines) out
found_line bound n None line lines out step (inl m) h more =
    let r = ended_ok [] (stanzas_from bound (n + 1) None lines) out (ap (λ (s : Step). with_ended s.ended (stanzas_from bound (n + 1) s.current lines)) (sym m.1) ∙ h) in
    subst (Stanzas bound n (line ∷ lines)) (sym r.1.1) (separator_front bound line lines n r.0 m.0 (more None r.0 r.1.0))
found_line bound n None line lines out step (inr m) h more =
    let s = m.0 in
    let r = ended_ok [] (stanzas_from bound (n + 1) (Some s) lines) out (ap (λ (s : Step). with_ended s.ended (stanzas_from bound (n + 1) s.current lines)) (sym m.1.0) ∙ h) in
    let st = m.1.1 [] refl in
    let o = more (Some s) r.0 r.1.0 (line ∷ []) st in
    let at : s.number ≡ n = omega (arith, st.1) in
    subst (Stanzas bound n (line ∷ lines)) (sym r.1.1) (from_opened bound n (line ∷ lines) r.0 (subst (λ (k : ℕ). Opened bound k (line ∷ lines) r.0) at o))
found_line bound n (Some c) line lines out step (inl m) h more = λ p b.
    (let r = ended_ok ((c.number, c.stanza) ∷ []) (stanzas_from bound (n + 1) None lines) out (ap (λ (s : Step). with_ended s.ended (stanzas_from bound (n + 1) s.current lines)) (sym m.1) ∙ h) in
    subst (Opened bound c.number (p ++ line ∷ lines)) (sym r.1.1) (closed_by bound c p (line ∷ lines) n r.0 b.0 b.1 m.0 (separator_front bound line lines n r.0 m.0 (more None r.0 r.1.0))))
found_line bound n (Some c) line lines out step (inr m) h more = λ p b.
    (let s = m.0 in
    let r = ended_ok [] (stanzas_from bound (n + 1) (Some s) lines) out (ap (λ (s : Step). with_ended s.ended (stanzas_from bound (n + 1) s.current lines)) (sym m.1.0) ∙ h) in
    let st = m.1.1 p b in
    let o = more (Some s) r.0 r.1.0 (p ++ line ∷ []) st in
    let at : s.number ≡ c.number = omega (arith, st.1, b.1, length-append p (line ∷ [])) in
    subst (Opened bound c.number (p ++ line ∷ lines)) (sym r.1.1)
    (subst (λ (l : List (List ℕ)). Opened bound c.number l r.0) (append_assoc p (line ∷ []) lines)
    (subst (λ (k : ℕ). Opened bound k ((p ++ line ∷ []) ++ lines) r.0) at o)))

pub found : (bound : Option ℕ) (lines : List (List ℕ)) (n : ℕ) (current : Option Begun) (out : List (ℕ × List Field)) → stanzas_from bound n current lines ≡ Ok out → Wanted bound n current lines out
found bound [] n None out h = subst (Stanzas bound n []) (sym (ok_same _ [] out refl h)) tt
found bound [] n (Some s) out h = λ p b. subst (Opened bound s.number (p ++ [])) (sym (ok_same _ ((s.number, s.stanza) ∷ []) out refl h)) (closed_by bound s p [] n [] b.0 b.1 tt tt)
found bound (line ∷ lines) n current out h = by_step (line_step bound n current line) refl h (λ c o g. found bound lines (n + 1) c o g)
  where
    by_step : (r : Result Step StanzaKind) → line_step bound n current line ≡ r → after_step n r (λ c. stanzas_from bound (n + 1) c lines) ≡ Ok out → ((c : Option Begun) (o : List (ℕ × List Field)) → stanzas_from bound (n + 1) c lines ≡ Ok o → Wanted bound (n + 1) c lines o) → Wanted bound n current (line ∷ lines) out
    by_step (Err kind) e h more = absurd (not_ok _ out refl h)
      where
        not_ok : (r : Result (List (ℕ × List Field)) Fault) (b : List (ℕ × List Field)) → r ≡ Err (record { line = n; kind = kind }) → r ≡ Ok b → ⊥
        not_ok r b g h = cc
    by_step (Ok step) e h more = found_line bound n current line lines out step (made bound n current line step e) h more

-- what is read is spelled so
pub found_all : (bound : Option ℕ) (lines : List (List ℕ)) (out : List (ℕ × List Field)) → stanzas_from bound 1 None lines ≡ Ok out → Stanzas bound 1 lines out
found_all bound lines out h = found bound lines 1 None out h
