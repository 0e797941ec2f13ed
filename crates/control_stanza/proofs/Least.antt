-- The fault is at the first line that can't stand there, and its kind the first that this line shows.
use Rattle.std.proofs.Common.{◌≡◌, ℕ, ◌+◌, ◌<◌, Bool, true, false, cond, not, ◌||◌, List, [], ◌∷◌, ◌++◌, length, map, refl, sym, ap, ◌∙◌, subst, arith, append_assoc, append-nil, zero-add, Result, Ok, Err, Option, None, Some, inl, inr, ◌⊎◌}
use Rattle.std.specs.Bool.{◌==◌}
use Rattle.std.specs.List.{list_all, find}
use Rattle.std.specs.Str.{is_utf8}
use Rattle.control_stanza.specs.declared.fault.StanzaKind.{StanzaKind}
use Rattle.control_stanza.specs.declared.fault.StanzaKind.TheVariants.{CarriageReturn, NotUtf8, StrayContinuation, NoColon, BadFieldName, RepeatedField, TooLong}
use Rattle.control_stanza.specs.declared.begun.Begun.{Begun}
use Rattle.control_stanza.specs.declared.stanza.Field.{Field}
use Rattle.control_stanza.specs.Lines.{Blank, More, Start, bare, bytes_in, is_blank, starts_blank, has_return, trim_start, trim_end, before_colon, from_colon, is_field_name, field_of, shape_of, line_of}
use Rattle.control_stanza.specs.Fields.{has_name}
use Rattle.control_stanza.specs.Spelled.{IsSeparator, Spells, within}
use Rattle.control_stanza.specs.Reading.{Fault, Step, ended_by, grown, added, continued, stepped, line_step, with_ended, after_step, stanzas_from, begun_size}
use Rattle.control_stanza.specs.Faults.{has_colon, is_nil, shows, kinds, IsClosed, IsFirstFault}
use Rattle.control_stanza.proofs.Found.{Stands, Made, made, found_all}
use Rattle.control_stanza.proofs.Only.{only}

-- ---- the kind
-- the fields above
abbrev above_of : Option Begun → List Field
above_of None = []
above_of (Some s) = s.stanza

by : {A : Type 0} (b : Bool) (x y z : A) → cond b x y ≡ z → ((b ≡ true) × (x ≡ z)) ⊎ ((b ≡ false) × (y ≡ z))
by true x y z h = inl (refl, h)
by false x y z h = inr (refl, h)

ok_err : {A : Type 0} (r : Result A StanzaKind) (v : A) (k : StanzaKind) → r ≡ Ok v → r ≡ Err k → ⊥
ok_err r v k g h = cc

err_same : {A : Type 0} (r : Result A StanzaKind) (j k : StanzaKind) → r ≡ Err j → r ≡ Err k → j ≡ k
err_same r j k g h = cc

grown_err : (bound : Option ℕ) (s : Begun) (kind : StanzaKind) → grown bound s ≡ Err kind → (within bound s.size ≡ false) × (kind ≡ TooLong)
grown_err bound s kind h =
    elim (by (within bound s.size) (Ok (record { ended = []; current = Some s })) (Err TooLong) (Err kind) h) [
      | inl p ↦ absurd (ok_err _ _ kind refl p.1)
      | inr p ↦ (p.0, err_same _ kind TooLong p.1 refl)
    ]

colon_none : (l : List ℕ) → from_colon l ≡ [] → has_colon l ≡ false
colon_none [] h = refl
colon_none (c ∷ cs) h = by_test (c == 58) h (colon_none cs)
  where
    by_test : (b : Bool) → cond b (c ∷ cs) (from_colon cs) ≡ [] → (from_colon cs ≡ [] → has_colon cs ≡ false) → (b || has_colon cs) ≡ false
    by_test true h more = cc
    by_test false h more = more h

colon_some : (l : List ℕ) (c : ℕ) (rest : List ℕ) → from_colon l ≡ c ∷ rest → has_colon l ≡ true
colon_some [] c rest h = cc
colon_some (x ∷ xs) c rest h = by_test (x == 58) h (colon_some xs c rest)
  where
    by_test : (b : Bool) → cond b (x ∷ xs) (from_colon xs) ≡ c ∷ rest → (from_colon xs ≡ c ∷ rest → has_colon xs ≡ true) → (b || has_colon xs) ≡ true
    by_test true h more = refl
    by_test false h more = more h

-- a stanza that is begun has a field
abbrev Filled : Option Begun → Type 0
Filled None = Unit {0}
Filled (Some s) = is_nil s.stanza ≡ false

abbrev First : Option ℕ → Option Begun → List ℕ → StanzaKind → Type 0
First bound last line kind = find (shows bound (above_of last) (begun_size last) line) kinds ≡ Some kind

shown_more : (bound : Option ℕ) (last : Option Begun) (line : List ℕ) (kind : StanzaKind) → Filled last → has_return (bare line) ≡ false → is_utf8 (bare line) ≡ true → list_all is_blank (bare line) ≡ false → starts_blank (bare line) ≡ true → (more : List ℕ) → continued bound (length line) more last ≡ Err kind → First bound last line kind
shown_more bound None line kind f r u b s more h = rw (r, u, s, b) (ap Some (err_same _ StrayContinuation kind refl h))
shown_more bound (Some c) line kind f r u b s more h =
    let g = grown_err bound _ kind h in
    rw (r, u, s, b, f, g.0) (ap Some (sym g.1))

shown_added : (bound : Option ℕ) (n : ℕ) (last : Option Begun) (line : List ℕ) (kind : StanzaKind) → has_return (bare line) ≡ false → is_utf8 (bare line) ≡ true → list_all is_blank (bare line) ≡ false → starts_blank (bare line) ≡ false → has_colon (bare line) ≡ true → is_field_name (before_colon (bare line)) ≡ true → (value : List ℕ) → added bound n (length line) (before_colon (bare line)) value last ≡ Err kind → First bound last line kind
shown_added bound n None line kind r u b s c m value h =
    let g = grown_err bound _ kind h in
    let long : within bound (0 + length line) ≡ false = ap (within bound) (zero-add (length line)) ∙ g.0 in
    rw (r, u, s, b, c, m, long) (ap Some (sym g.1))
shown_added bound n (Some d) line kind r u b s c m value h = by_test (has_name d.stanza (before_colon (bare line))) refl h
  where
    by_test : (x : Bool) → has_name d.stanza (before_colon (bare line)) ≡ x → cond x (Err RepeatedField) (grown bound (record { number = d.number; size = d.size + length line; stanza = d.stanza ++ record { name = before_colon (bare line); value = value } ∷ [] })) ≡ Err kind → First bound (Some d) line kind
    by_test true e h = rw (r, u, s, b, c, m, e) (ap Some (err_same _ RepeatedField kind refl h))
    by_test false e h =
        let g = grown_err bound _ kind h in
        rw (r, u, s, b, c, m, e, g.0) (ap Some (sym g.1))

shown_field : (bound : Option ℕ) (n : ℕ) (last : Option Begun) (line : List ℕ) (kind : StanzaKind) → has_return (bare line) ≡ false → is_utf8 (bare line) ≡ true → list_all is_blank (bare line) ≡ false → starts_blank (bare line) ≡ false → stepped bound n (length line) last (field_of (before_colon (bare line)) (from_colon (bare line))) ≡ Err kind → First bound last line kind
shown_field bound n last line kind r u b s h = by_rest (from_colon (bare line)) refl h
  where
    by_rest : (rest : List ℕ) → from_colon (bare line) ≡ rest → stepped bound n (length line) last (field_of (before_colon (bare line)) rest) ≡ Err kind → First bound last line kind
    by_rest [] e h = rw (r, u, s, b, colon_none (bare line) e) (ap Some (err_same {A = Step} _ NoColon kind refl h))
    by_rest (c ∷ cs) e h = by_name (is_field_name (before_colon (bare line))) refl h
      where
        by_name : (x : Bool) → is_field_name (before_colon (bare line)) ≡ x → stepped bound n (length line) last (cond x (Ok (Start (before_colon (bare line)) (trim_end (trim_start cs)))) (Err BadFieldName)) ≡ Err kind → First bound last line kind
        by_name true m h = shown_added bound n last line kind r u b s (colon_some (bare line) c cs e) m (trim_end (trim_start cs)) h
        by_name false m h = rw (r, u, s, b, colon_some (bare line) c cs e, m) (ap Some (err_same {A = Step} _ BadFieldName kind refl h))

shown_shape : (bound : Option ℕ) (n : ℕ) (last : Option Begun) (line : List ℕ) (kind : StanzaKind) → Filled last → has_return (bare line) ≡ false → is_utf8 (bare line) ≡ true → stepped bound n (length line) last (shape_of (bare line)) ≡ Err kind → First bound last line kind
unfolding shape_of
shown_shape bound n last line kind f r u h = by_blank (list_all is_blank (bare line)) refl h
  where
    by_blank : (x : Bool) → list_all is_blank (bare line) ≡ x → stepped bound n (length line) last (cond x (Ok Blank) (cond (starts_blank (bare line)) (Ok (More (trim_end (bare line)))) (field_of (before_colon (bare line)) (from_colon (bare line))))) ≡ Err kind → First bound last line kind
    by_blank true b h = absurd (ok_err {A = Step} _ _ kind refl h)
    by_blank false b h = by_start (starts_blank (bare line)) refl h
      where
        by_start : (x : Bool) → starts_blank (bare line) ≡ x → stepped bound n (length line) last (cond x (Ok (More (trim_end (bare line)))) (field_of (before_colon (bare line)) (from_colon (bare line)))) ≡ Err kind → First bound last line kind
        by_start true s h = shown_more bound last line kind f r u b s (trim_end (bare line)) h
        by_start false s h = shown_field bound n last line kind r u b s h

shown_first : (bound : Option ℕ) (n : ℕ) (last : Option Begun) (line : List ℕ) (kind : StanzaKind) → Filled last → line_step bound n last line ≡ Err kind → First bound last line kind
unfolding line_of
shown_first bound n last line kind f h = by_return (has_return (bare line)) refl h
  where
    by_return : (x : Bool) → has_return (bare line) ≡ x → stepped bound n (length line) last (cond x (Err CarriageReturn) (cond (not (is_utf8 (bare line))) (Err NotUtf8) (shape_of (bare line)))) ≡ Err kind → First bound last line kind
    by_return true r h = rw r (ap Some (err_same {A = Step} _ CarriageReturn kind refl h))
    by_return false r h = by_utf8 (is_utf8 (bare line)) refl h
      where
        by_utf8 : (x : Bool) → is_utf8 (bare line) ≡ x → stepped bound n (length line) last (cond (not x) (Err NotUtf8) (shape_of (bare line))) ≡ Err kind → First bound last line kind
        by_utf8 true u h = shown_shape bound n last line kind f r u h
        by_utf8 false u h = rw (r, u) (ap Some (err_same {A = Step} _ NotUtf8 kind refl h))

-- ---- the line
-- the lines in front: parted stanzas, and the lines of the stanza that is begun
pub record Reached (bound : Option ℕ) (before : List (List ℕ)) (n : ℕ) (current : Option Begun) : Type 0 where
  pub parting : List (List ℕ)
  pub body : List (List ℕ)
  pub is : before ≡ parting ++ body
  pub closed : IsClosed parting
  pub stands : Stands bound n current body

closed_push : (lines : List (List ℕ)) (line : List ℕ) → IsSeparator (bare line) → IsClosed (lines ++ line ∷ [])
closed_push [] line s = s
closed_push (l ∷ []) line s = s
closed_push (l ∷ m ∷ ms) line s = closed_push (m ∷ ms) line s

reached_step : (bound : Option ℕ) (before : List (List ℕ)) (n : ℕ) (current : Option Begun) (line : List ℕ) (step : Step) → Reached bound before n current → Made bound n current line step → Reached bound (before ++ line ∷ []) (n + 1) step.current
reached_step bound before n current line step r (inl m) =
    subst (λ (s : Step). Reached bound (before ++ line ∷ []) (n + 1) s.current) (sym m.1) (record { parting = before ++ line ∷ []; body = []; is = sym (append-nil (before ++ line ∷ [])); closed = closed_push before line m.0; stands = refl })
reached_step bound before n current line step r (inr m) =
    subst (λ (s : Step). Reached bound (before ++ line ∷ []) (n + 1) s.current) (sym m.1.0) (record { parting = r.parting; body = r.body ++ line ∷ []; is = ap (λ l. l ++ line ∷ []) r.is ∙ append_assoc r.parting r.body (line ∷ []); closed = r.closed; stands = m.1.1 r.body r.stands })

-- the first line that can't stand there, behind what stands there
pub record FaultAt (bound : Option ℕ) (before : List (List ℕ)) (n : ℕ) (current : Option Begun) (lines : List (List ℕ)) (fault : Fault) : Type 0 where
  pub good : List (List ℕ)
  pub line : List ℕ
  pub behind : List (List ℕ)
  pub lines_are : lines ≡ good ++ line ∷ behind
  pub number : fault.line ≡ n + length good
  pub found : List (ℕ × List Field)
  pub readable : stanzas_from bound n current good ≡ Ok found
  pub unreadable : (more : List (List ℕ)) → stanzas_from bound n current (good ++ line ∷ more) ≡ Err fault
  pub at : ℕ
  pub last : Option Begun
  pub reached : Reached bound (before ++ good) at last
  pub shown : line_step bound at last line ≡ Err fault.kind

ended_err : (ended : List (ℕ × List Field)) (r : Result (List (ℕ × List Field)) Fault) (fault : Fault) → with_ended ended r ≡ Err fault → r ≡ Err fault
ended_err ended (Ok x) fault h = cc
ended_err ended (Err e) fault h = h

fault_least : (bound : Option ℕ) (lines before : List (List ℕ)) (n : ℕ) (current : Option Begun) (fault : Fault) → Reached bound before n current → stanzas_from bound n current lines ≡ Err fault → FaultAt bound before n current lines fault
fault_least bound [] before n current fault reached h = cc
fault_least bound (line ∷ lines) before n current fault reached h = by_step (line_step bound n current line) refl h (λ c r g. fault_least bound lines (before ++ line ∷ []) (n + 1) c fault r g)
  where
    by_step : (r : Result Step StanzaKind) → line_step bound n current line ≡ r → after_step n r (λ c. stanzas_from bound (n + 1) c lines) ≡ Err fault → ((c : Option Begun) → Reached bound (before ++ line ∷ []) (n + 1) c → stanzas_from bound (n + 1) c lines ≡ Err fault → FaultAt bound (before ++ line ∷ []) (n + 1) c lines fault) → FaultAt bound before n current (line ∷ lines) fault
    by_step (Err kind) e g more =
        let mine : Fault = record { line = n; kind = kind } in
        let same : mine ≡ fault = same_of _ mine refl g in
        record {
          good = [];
          line = line;
          behind = lines;
          lines_are = refl;
          number = omega (arith, ap (λ (f : Fault). f.line) same);
          found = ended_by current;
          readable = refl;
          unreadable = λ rest. ap (λ r. after_step n r (λ c. stanzas_from bound (n + 1) c rest)) e ∙ g;
          at = n;
          last = current;
          reached = subst (λ (l : List (List ℕ)). Reached bound l n current) (sym (append-nil before)) reached;
          shown = e ∙ ap (λ (f : Fault). Err f.kind) same;
        }
      where
        same_of : (r : Result (List (ℕ × List Field)) Fault) (f : Fault) → r ≡ Err f → r ≡ Err fault → f ≡ fault
        same_of r f g h = cc
    by_step (Ok step) e g more =
        let f = more step.current (reached_step bound before n current line step reached (made bound n current line step e)) (ended_err step.ended _ fault g) in
        record {
          good = line ∷ f.good;
          line = f.line;
          behind = f.behind;
          lines_are = ap (λ l. line ∷ l) f.lines_are;
          number = omega (arith, f.number);
          found = step.ended ++ f.found;
          readable = ap (λ r. after_step n r (λ c. stanzas_from bound (n + 1) c f.good)) e ∙ ap (with_ended step.ended) f.readable;
          unreadable = λ rest. ap (λ r. after_step n r (λ c. stanzas_from bound (n + 1) c (f.good ++ f.line ∷ rest))) e ∙ ap (with_ended step.ended) (f.unreadable rest);
          at = f.at;
          last = f.last;
          reached = subst (λ (l : List (List ℕ)). Reached bound l f.at f.last) (append_assoc before (line ∷ []) f.good) f.reached;
          shown = f.shown;
        }

filled : (bound : Option ℕ) (n : ℕ) (last : Option Begun) (body : List (List ℕ)) → Stands bound n last body → Filled last
filled bound n None body s = tt
filled bound n (Some c) body s = some c.stanza body s.0.spells s.0.some
  where
    some : (fs : List Field) (body : List (List ℕ)) → Spells (map bare body) fs → 0 < length body → is_nil fs ≡ false
    some [] [] h l = absurd (omega arith)
    some [] (b ∷ bs) h l = cc
    some (f ∷ fs) body h l = refl

spelled : (bound : Option ℕ) (n : ℕ) (last : Option Begun) (body : List (List ℕ)) → Stands bound n last body → Spells (map bare body) (above_of last) × (begun_size last ≡ bytes_in body)
spelled bound n None body s = (ap (map bare) s, sym (ap bytes_in s))
spelled bound n (Some c) body s = (s.0.spells, s.0.size)

pub first_fault : (bound : Option ℕ) (lines : List (List ℕ)) (fault : Fault) → stanzas_from bound 1 None lines ≡ Err fault → IsFirstFault bound lines fault
first_fault bound lines fault h =
    let f = fault_least bound lines [] 1 None fault (record { parting = []; body = []; is = refl; closed = tt; stands = refl }) h in
    let r = f.reached in
    let s = spelled bound f.at f.last r.body r.stands in
    let first = shown_first bound f.at f.last f.line fault.kind (filled bound f.at f.last r.body r.stands) f.shown in
    record {
      before = f.good;
      line = f.line;
      behind = f.behind;
      lines_are = f.lines_are;
      number = f.number;
      found = f.found;
      readable = found_all bound f.good f.found f.readable;
      unreadable = λ more out g. apart _ out (f.unreadable more) (only bound out 1 (f.good ++ f.line ∷ more) g);
      parting = r.parting;
      body = r.body;
      before_is = r.is;
      closed = r.closed;
      above = above_of f.last;
      spells = s.0;
      kind = subst (λ (k : ℕ). find (shows bound (above_of f.last) k f.line) kinds ≡ Some fault.kind) s.1 first;
    }
  where
    apart : (r : Result (List (ℕ × List Field)) Fault) (out : List (ℕ × List Field)) → r ≡ Err fault → r ≡ Ok out → ⊥
    apart r out g h = cc
