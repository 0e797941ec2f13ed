-- What is spelled so is read.
use Rattle.std.proofs.Common.{◌≡◌, ℕ, suc, ◌+◌, ◌<◌, ◌≤◌, Bool, true, false, cond, List, [], ◌∷◌, ◌++◌, length, map, nat_le, refl, sym, ap, ◌∙◌, subst, arith, append_assoc, append-nil, Result, Ok, Err, Option, None, Some}
use Rattle.std.specs.Bool.{◌==◌}
use Rattle.std.specs.List.{list_any, list_all}
use Rattle.std.proofs.lemmas.Bool.{or_parts, and_parts, false≢true, false_from_ne_true, leb-true}
use Rattle.std.proofs.lemmas.Bool.Decides.{nat_tests}
use Rattle.std.proofs.lemmas.List.{length-append}
use Rattle.control_stanza.specs.declared.fault.StanzaKind.TheVariants.{RepeatedField}
use Rattle.control_stanza.specs.declared.begun.Begun.{Begun}
use Rattle.control_stanza.specs.declared.stanza.Field.{Field}
use Rattle.control_stanza.specs.Spelled.{AllBlank, IsPlain, AllSeparators, IsSeparator, Begins, GoesOn, SpellsMore, SpellsField, Spells, IsDistinct, IsParted, Stanzas, within}
use Rattle.control_stanza.specs.Lines.{Blank, More, Start, is_blank, trim_start, trim_end, kept, before_colon, from_colon, starts_blank, ends_blank, bare, bytes_in, is_name_byte, is_first_byte, is_field_name, field_of, shape_of, line_of}
use Rattle.control_stanza.specs.Fields.{same_name, has_name}
use Rattle.control_stanza.specs.Reading.{Fault, go_on, grown, ended_by, stepped, with_ended, after_step, stanzas_from}

all_left : (p : ℕ → Bool) (xs ys : List ℕ) → list_all p (xs ++ ys) ≡ true → list_all p xs ≡ true
all_left p [] ys h = refl
all_left p (x ∷ xs) ys h = let q = and_parts (p x) (list_all p (xs ++ ys)) h in rw q.0 (all_left p xs ys q.1)

trim_end_blank : (a : List ℕ) → AllBlank a → trim_end a ≡ []
trim_end_blank [] h = refl
trim_end_blank (c ∷ cs) h = let p = and_parts (is_blank c) (list_all is_blank cs) h in ap (kept c) (trim_end_blank cs p.1) ∙ rw p.0 refl

trim_start_blank : (a : List ℕ) → AllBlank a → trim_start a ≡ []
trim_start_blank [] h = refl
trim_start_blank (c ∷ cs) h = let p = and_parts (is_blank c) (list_all is_blank cs) h in rw p.0 (trim_start_blank cs p.1)

trim_end_append : (xs a : List ℕ) → AllBlank a → trim_end (xs ++ a) ≡ trim_end xs
trim_end_append [] a h = trim_end_blank a h
trim_end_append (x ∷ xs) a h = ap (kept x) (trim_end_append xs a h)

trim_end_id : (xs : List ℕ) → ends_blank xs ≡ false → trim_end xs ≡ xs
trim_end_id [] h = refl
trim_end_id (c ∷ []) h = rw h refl
trim_end_id (c ∷ d ∷ ds) h = ap (kept c) (trim_end_id (d ∷ ds) h)

trim_start_append : (b xs : List ℕ) → AllBlank b → trim_start (b ++ xs) ≡ trim_start xs
trim_start_append [] xs h = refl
trim_start_append (c ∷ cs) xs h = let p = and_parts (is_blank c) (list_all is_blank cs) h in rw p.0 (trim_start_append cs xs p.1)

trim_start_id : (c : ℕ) (xs : List ℕ) → is_blank c ≡ false → trim_start (c ∷ xs) ≡ c ∷ xs
trim_start_id c xs h = rw h refl

value_trimmed : (before value after : List ℕ) → AllBlank before → AllBlank after → starts_blank value ≡ false → ends_blank value ≡ false → trim_end (trim_start (before ++ (value ++ after))) ≡ value
value_trimmed before [] after b a s e = ap trim_end (trim_start_append before after b ∙ trim_start_blank after a)
value_trimmed before (v ∷ vs) after b a s e =
    ap trim_end (trim_start_append before (v ∷ (vs ++ after)) b ∙ trim_start_id v (vs ++ after) s) ∙ trim_end_append (v ∷ vs) after a ∙ trim_end_id (v ∷ vs) e

not_colon : (c : ℕ) → is_name_byte c ≡ true → (c == 58) ≡ false
unfolding is_name_byte
not_colon c h = grind (arith, nat_tests)

not_blank : (c : ℕ) → is_name_byte c ≡ true → is_blank c ≡ false
unfolding is_name_byte is_blank
not_blank c h = grind (arith, nat_tests)

colon_of : (name r : List ℕ) → list_all is_name_byte name ≡ true → (before_colon (name ++ 58 ∷ r) ≡ name) × (from_colon (name ++ 58 ∷ r) ≡ 58 ∷ r)
colon_of [] r h = (refl, refl)
colon_of (c ∷ cs) r h =
    let p = and_parts (is_name_byte c) (list_all is_name_byte cs) h in
    let e = not_colon c p.0 in
    let more = colon_of cs r p.1 in
    (rw e (ap (λ l. c ∷ l) more.0), rw e more.1)

name_bytes : (name : List ℕ) → is_field_name name ≡ true → (list_all is_name_byte name ≡ true) × ((c : ℕ) × ((cs : List ℕ) × ((name ≡ c ∷ cs) × (is_name_byte c ≡ true))))
unfolding is_field_name
name_bytes [] h = absurd (false≢true h)
name_bytes (c ∷ cs) h =
    let p = and_parts (is_first_byte c) (list_all is_name_byte (c ∷ cs)) h in
    (p.1, (c, (cs, (refl, (and_parts (is_name_byte c) (list_all is_name_byte cs) p.1).0))))

plain_shape : (line : List ℕ) → IsPlain line → line_of line ≡ shape_of line
unfolding line_of
plain_shape line h = rw (h.no_return, h.utf8) refl

blank_shape : (line : List ℕ) → AllBlank line → shape_of line ≡ Ok Blank
unfolding shape_of
blank_shape line h = rw h refl

pub of_separator : (line : List ℕ) → IsSeparator line → line_of line ≡ Ok Blank
of_separator line h = plain_shape line h.plain ∙ blank_shape line h.blank

not_all_blank : (more after : List ℕ) → starts_blank more ≡ true → ends_blank more ≡ false → list_all is_blank (more ++ after) ≡ false
not_all_blank more after s e = false_from_ne_true _ (λ h. false≢true (ap starts_blank (sym (trim_end_blank more (all_left is_blank more after h)) ∙ trim_end_id more e) ∙ s))

starts_append : (more after : List ℕ) → starts_blank more ≡ true → starts_blank (more ++ after) ≡ true
starts_append [] after h = absurd (false≢true h)
starts_append (c ∷ cs) after h = h

more_shape : (line : List ℕ) → list_all is_blank line ≡ false → starts_blank line ≡ true → shape_of line ≡ Ok (More (trim_end line))
unfolding shape_of
more_shape line b c = rw (b, c) refl

line_more : (line : List ℕ) → IsPlain line → list_all is_blank line ≡ false → starts_blank line ≡ true → line_of line ≡ Ok (More (trim_end line))
line_more line a b c = plain_shape line a ∙ more_shape line b c

start_shape : (line : List ℕ) → list_all is_blank line ≡ false → starts_blank line ≡ false → shape_of line ≡ field_of (before_colon line) (from_colon line)
unfolding shape_of
start_shape line b c = rw (b, c) refl

line_start : (line : List ℕ) → IsPlain line → list_all is_blank line ≡ false → starts_blank line ≡ false → line_of line ≡ field_of (before_colon line) (from_colon line)
line_start line a b c = plain_shape line a ∙ start_shape line b c

of_goes_on : (line more : List ℕ) → GoesOn line more → line_of line ≡ Ok (More more)
of_goes_on line more h =
    line_more line h.plain (ap (list_all is_blank) h.is ∙ not_all_blank more h.after h.starts h.ends) (ap starts_blank h.is ∙ starts_append more h.after h.starts)
    ∙ ap (λ m. Ok (More m)) (ap trim_end h.is ∙ trim_end_append more h.after h.blank_after ∙ trim_end_id more h.ends)

first_not_blank : (name r : List ℕ) → is_field_name name ≡ true → (list_all is_blank (name ++ 58 ∷ r) ≡ false) × (starts_blank (name ++ 58 ∷ r) ≡ false)
first_not_blank name r h =
    let p = name_bytes name h in
    let c = p.1.0 in
    let e : is_blank c ≡ false = not_blank c p.1.1.1.1 in
    (ap (λ l. list_all is_blank (l ++ 58 ∷ r)) p.1.1.1.0 ∙ rw e refl, ap (λ l. starts_blank (l ++ 58 ∷ r)) p.1.1.1.0 ∙ e)

of_begins : (line name value : List ℕ) → Begins line name value → line_of line ≡ Ok (Start name value)
of_begins line name value h =
    let r = h.before ++ (value ++ h.after) in
    let first = first_not_blank name r h.name_is in
    let parts = colon_of name r (name_bytes name h.name_is).0 in
    line_start line h.plain (ap (list_all is_blank) h.is ∙ first.0) (ap starts_blank h.is ∙ first.1)
    ∙ ap (λ l. field_of (before_colon l) (from_colon l)) h.is ∙ (λ i. field_of (parts.0 i) (parts.1 i)) ∙ rw h.name_is (ap (λ v. Ok (Start name v)) (value_trimmed h.before value h.after h.blank_before h.blank_after h.starts h.ends))

-- ---- lines of a stanza
extend : List Field → List ℕ → List Field
extend [] more = []
extend (f ∷ []) more = record f { value = f.value ++ more } ∷ []
extend (f ∷ g ∷ gs) more = f ∷ extend (g ∷ gs) more

extend_none : (fs : List Field) → extend fs [] ≡ fs
unfolding extend
extend_none [] = refl
extend_none (f ∷ []) = ap (λ v. record f { value = v } ∷ []) (append-nil f.value)
extend_none (f ∷ g ∷ gs) = ap (λ l. f ∷ l) (extend_none (g ∷ gs))

extend_go_on : (fs : List Field) (more rest : List ℕ) → extend (go_on fs more) rest ≡ extend fs (10 ∷ (more ++ rest))
unfolding extend
extend_go_on [] more rest = refl
extend_go_on (f ∷ []) more rest = ap (λ v. record f { value = v } ∷ []) (append_assoc f.value (10 ∷ more) rest)
extend_go_on (f ∷ g ∷ []) more rest = ap (λ l. f ∷ l) (extend_go_on (g ∷ []) more rest)
extend_go_on (f ∷ g ∷ h ∷ hs) more rest = ap (λ l. f ∷ l) (extend_go_on (g ∷ h ∷ hs) more rest)

extend_last : (fs : List Field) (f : Field) (rest : List ℕ) → extend (fs ++ f ∷ []) rest ≡ fs ++ record f { value = f.value ++ rest } ∷ []
unfolding extend
extend_last [] f rest = refl
extend_last (e ∷ []) f rest = refl
extend_last (e ∷ g ∷ gs) f rest = ap (λ l. e ∷ l) (extend_last (g ∷ gs) f rest)

ended_none : (r : Result (List (ℕ × List Field)) Fault) → with_ended [] r ≡ r
ended_none (Ok x) = refl
ended_none (Err e) = refl

counted : (n k : ℕ) → n + 1 + k ≡ n + suc k
counted n k = omega arith

-- lines whose bare lines are parts have parts themselves
pub record Parts (lines : List (List ℕ)) (a b : List (List ℕ)) : Type 0 where
  pub front : List (List ℕ)
  pub back : List (List ℕ)
  pub is : lines ≡ front ++ back
  pub front_is : map bare front ≡ a
  pub back_is : map bare back ≡ b

parts_of : (a b lines : List (List ℕ)) → map bare lines ≡ a ++ b → Parts lines a b
parts_of [] b lines h = record { front = []; back = lines; is = refl; front_is = refl; back_is = h }
parts_of (x ∷ xs) b [] h = cc
parts_of (x ∷ xs) b (l ∷ ls) h =
    let p = parts_of xs b ls cc in
    let e : bare l ≡ x = cc in
    record { front = l ∷ p.front; back = p.back; is = ap (λ k. l ∷ k) p.is; front_is = (λ i. e i ∷ p.front_is i); back_is = p.back_is }

pub record First (lines : List (List ℕ)) (x : List ℕ) (xs : List (List ℕ)) : Type 0 where
  pub line : List ℕ
  pub others : List (List ℕ)
  pub is : lines ≡ line ∷ others
  pub line_is : bare line ≡ x
  pub others_are : map bare others ≡ xs

first_of : (lines : List (List ℕ)) (x : List ℕ) (xs : List (List ℕ)) → map bare lines ≡ x ∷ xs → First lines x xs
first_of [] x xs h = cc
first_of (l ∷ ls) x xs h = record { line = l; others = ls; is = refl; line_is = cc; others_are = cc }

bytes_append : (a b : List (List ℕ)) → bytes_in (a ++ b) ≡ bytes_in a + bytes_in b
bytes_append [] b = omega arith
bytes_append (l ∷ ls) b = omega (arith, bytes_append ls b)

within_less : (bound : Option ℕ) (m n : ℕ) → m ≤ n → within bound n ≡ true → within bound m ≡ true
within_less None m n l h = refl
within_less (Some most) m n l h = le_true m most (≤_trans l (leb-true n most h))
  where
    ≤_trans : {a b c : ℕ} → a ≤ b → b ≤ c → a ≤ c
    ≤_trans p q = omega arith

    le_true : (a b : ℕ) → a ≤ b → nat_le a b ≡ true
    le_true a b h = grind (arith, nat_tests)

grown_at : (bound : Option ℕ) (s : Begun) → within bound s.size ≡ true → grown bound s ≡ Ok (record { ended = []; current = Some s })
grown_at bound s h = rw h refl

-- the stanza that is begun, with more lines
behind : Begun → ℕ → List Field → Begun
behind s size fields = record { number = s.number; size = s.size + size; stanza = fields }

-- one line that goes on with a value
run_line : (bound : Option ℕ) (l more : List ℕ) → GoesOn (bare l) more → (s : Begun) (n : ℕ) (tail : List (List ℕ)) → within bound (s.size + length l) ≡ true → stanzas_from bound n (Some s) (l ∷ tail) ≡ stanzas_from bound (n + 1) (Some (behind s (length l) (go_on s.stanza more))) tail
unfolding behind
run_line bound l more g s n tail w =
    let t : Begun = record { number = s.number; size = s.size + length l; stanza = go_on s.stanza more } in
    ap (λ r. after_step n (stepped bound n (length l) (Some s) r) (λ c. stanzas_from bound (n + 1) c tail)) (of_goes_on (bare l) more g)
    ∙ ap (λ r. after_step n r (λ c. stanzas_from bound (n + 1) c tail)) (grown_at bound t w)
    ∙ ended_none _

run_more : (bound : Option ℕ) (others : List (List ℕ)) (rest : List ℕ) → SpellsMore (map bare others) rest → (s : Begun) (n : ℕ) (tail : List (List ℕ)) → within bound (s.size + bytes_in others) ≡ true → stanzas_from bound n (Some s) (others ++ tail) ≡ stanzas_from bound (n + length others) (Some (behind s (bytes_in others) (extend s.stanza rest))) tail
unfolding behind
run_more bound [] rest h s n tail w = (λ i. stanzas_from bound (plus_none n i) (Some (record { number = s.number; size = plus_none s.size i; stanza = (sym (extend_none s.stanza) ∙ ap (extend s.stanza) (sym h)) i })) tail)
  where
    plus_none : (n : ℕ) → n ≡ n + 0
    plus_none n = omega arith
run_more bound (l ∷ ls) rest h s n tail w =
    let t : Begun = behind s (length l) (go_on s.stanza h.0) in
    let small : within bound (s.size + length l + bytes_in ls) ≡ true = subst (λ (k : ℕ). within bound k ≡ true) (omega arith) w in
    run_line bound l h.0 h.3 s n (ls ++ tail) (within_less bound (s.size + length l) (s.size + length l + bytes_in ls) (omega arith) small)
    ∙ run_more bound ls h.1 h.4 t (n + 1) tail small
    ∙ (λ i. stanzas_from bound (counted n (length ls) i) (Some (record { number = s.number; size = added_up s.size (length l) (bytes_in ls) i; stanza = (extend_go_on s.stanza h.0 h.1 ∙ ap (extend s.stanza) (sym h.2)) i })) tail)
  where
    added_up : (a b c : ℕ) → a + b + c ≡ a + (b + c)
    added_up a b c = omega arith

-- the first line of a field, of a new stanza and of one that is begun
run_begin : (bound : Option ℕ) (l name value : List ℕ) → Begins (bare l) name value → (n : ℕ) (tail : List (List ℕ)) → within bound (length l) ≡ true → stanzas_from bound n None (l ∷ tail) ≡ stanzas_from bound (n + 1) (Some (record { number = n; size = length l; stanza = record { name = name; value = value } ∷ [] })) tail
run_begin bound l name value g n tail w =
    ap (λ r. after_step n (stepped bound n (length l) None r) (λ c. stanzas_from bound (n + 1) c tail)) (of_begins (bare l) name value g)
    ∙ ap (λ r. after_step n r (λ c. stanzas_from bound (n + 1) c tail)) (grown_at bound (record { number = n; size = length l; stanza = record { name = name; value = value } ∷ [] }) w)
    ∙ ended_none _

run_add : (bound : Option ℕ) (l name value : List ℕ) → Begins (bare l) name value → (s : Begun) (n : ℕ) (tail : List (List ℕ)) → has_name s.stanza name ≡ false → within bound (s.size + length l) ≡ true → stanzas_from bound n (Some s) (l ∷ tail) ≡ stanzas_from bound (n + 1) (Some (behind s (length l) (s.stanza ++ record { name = name; value = value } ∷ []))) tail
unfolding behind
run_add bound l name value g s n tail fresh w =
    let t : Begun = record { number = s.number; size = s.size + length l; stanza = s.stanza ++ record { name = name; value = value } ∷ [] } in
    ap (λ r. after_step n (stepped bound n (length l) (Some s) r) (λ c. stanzas_from bound (n + 1) c tail)) (of_begins (bare l) name value g)
    ∙ ap (λ b. after_step n (cond b (Err RepeatedField) (grown bound t)) (λ c. stanzas_from bound (n + 1) c tail)) fresh
    ∙ ap (λ r. after_step n r (λ c. stanzas_from bound (n + 1) c tail)) (grown_at bound t w)
    ∙ ended_none _

run_field : (bound : Option ℕ) (a : List (List ℕ)) (f : Field) → SpellsField (map bare a) f → (s : Begun) (n : ℕ) (tail : List (List ℕ)) → has_name s.stanza f.name ≡ false → within bound (s.size + bytes_in a) ≡ true → stanzas_from bound n (Some s) (a ++ tail) ≡ stanzas_from bound (n + length a) (Some (behind s (bytes_in a) (s.stanza ++ f ∷ []))) tail
unfolding behind
run_field bound a f h s n tail fresh w =
    let p = first_of a h.line h.others h.lines_are in
    let first : Field = record { name = f.name; value = h.first } in
    let t : Begun = behind s (length p.line) (s.stanza ++ first ∷ []) in
    let all : bytes_in a ≡ length p.line + bytes_in p.others = ap bytes_in p.is in
    let small : within bound (s.size + length p.line + bytes_in p.others) ≡ true = subst (λ (k : ℕ). within bound k ≡ true) (omega (arith, all)) w in
    let begins : Begins (bare p.line) f.name h.first = subst (λ (l : List ℕ). Begins l f.name h.first) (sym p.line_is) h.begins in
    let more : SpellsMore (map bare p.others) h.rest = subst (λ (l : List (List ℕ)). SpellsMore l h.rest) (sym p.others_are) h.goes_on in
    ap (λ l. stanzas_from bound n (Some s) (l ++ tail)) p.is
    ∙ run_add bound p.line f.name h.first begins s n (p.others ++ tail) fresh (within_less bound (s.size + length p.line) (s.size + length p.line + bytes_in p.others) (omega arith) small)
    ∙ run_more bound p.others h.rest more t (n + 1) tail small
    ∙ (λ i. stanzas_from bound ((counted n (length p.others) ∙ ap (λ l. n + length l) (sym p.is)) i) (Some (record { number = s.number; size = sizes s.size (length p.line) (bytes_in p.others) (bytes_in a) all i; stanza = (extend_last s.stanza first h.rest ∙ ap (λ v. s.stanza ++ record f { value = v } ∷ []) (sym h.value_is)) i })) tail)
  where
    sizes : (a b c d : ℕ) → d ≡ b + c → a + b + c ≡ a + d
    sizes a b c d e = omega arith

run_first : (bound : Option ℕ) (a : List (List ℕ)) (f : Field) → SpellsField (map bare a) f → (n : ℕ) (tail : List (List ℕ)) → within bound (bytes_in a) ≡ true → stanzas_from bound n None (a ++ tail) ≡ stanzas_from bound (n + length a) (Some (record { number = n; size = bytes_in a; stanza = f ∷ [] })) tail
unfolding behind
run_first bound a f h n tail w =
    let p = first_of a h.line h.others h.lines_are in
    let first : Field = record { name = f.name; value = h.first } in
    let t : Begun = record { number = n; size = length p.line; stanza = first ∷ [] } in
    let all : bytes_in a ≡ length p.line + bytes_in p.others = ap bytes_in p.is in
    let small : within bound (length p.line + bytes_in p.others) ≡ true = subst (λ (k : ℕ). within bound k ≡ true) all w in
    let begins : Begins (bare p.line) f.name h.first = subst (λ (l : List ℕ). Begins l f.name h.first) (sym p.line_is) h.begins in
    let more : SpellsMore (map bare p.others) h.rest = subst (λ (l : List (List ℕ)). SpellsMore l h.rest) (sym p.others_are) h.goes_on in
    ap (λ l. stanzas_from bound n None (l ++ tail)) p.is
    ∙ run_begin bound p.line f.name h.first begins n (p.others ++ tail) (within_less bound (length p.line) (length p.line + bytes_in p.others) (omega arith) small)
    ∙ run_more bound p.others h.rest more t (n + 1) tail small
    ∙ (λ i. stanzas_from bound ((counted n (length p.others) ∙ ap (λ l. n + length l) (sym p.is)) i) (Some (record { number = n; size = sym all i; stanza = (extend_last [] first h.rest ∙ ap (λ v. record f { value = v } ∷ []) (sym h.value_is)) i })) tail)

any_at : (name : List ℕ) (es : List Field) (f : Field) (s : List Field) → list_any (λ g. same_name name g.name) (es ++ f ∷ s) ≡ false → same_name name f.name ≡ false
any_at name [] f s h = (or_parts (same_name name f.name) (list_any (λ g. same_name name g.name) s) h).0
any_at name (e ∷ es) f s h = any_at name es f s (or_parts (same_name name e.name) (list_any (λ g. same_name name g.name) (es ++ f ∷ s)) h).1

fresh_at : (fs : List Field) (f : Field) (s : List Field) → IsDistinct (fs ++ f ∷ s) → has_name fs f.name ≡ false
fresh_at [] f s h = refl
fresh_at (e ∷ es) f s h = rw (any_at e.name es f s h.0) (fresh_at es f s h.1)

run_fields : (bound : Option ℕ) (fs : List Field) (body : List (List ℕ)) → Spells (map bare body) fs → (s : Begun) (n : ℕ) (tail : List (List ℕ)) → IsDistinct (s.stanza ++ fs) → within bound (s.size + bytes_in body) ≡ true → stanzas_from bound n (Some s) (body ++ tail) ≡ stanzas_from bound (n + length body) (Some (behind s (bytes_in body) (s.stanza ++ fs))) tail
unfolding behind
run_fields bound [] [] h s n tail d w = (λ i. stanzas_from bound (plus_none n i) (Some (record { number = s.number; size = plus_none s.size i; stanza = sym (append-nil s.stanza) i })) tail)
  where
    plus_none : (n : ℕ) → n ≡ n + 0
    plus_none n = omega arith
run_fields bound [] (l ∷ ls) h s n tail d w = cc
run_fields bound (f ∷ fs) body h s n tail d w =
    let p = parts_of h.0 h.1 body h.2 in
    let bytes : bytes_in body ≡ bytes_in p.front + bytes_in p.back = ap bytes_in p.is ∙ bytes_append p.front p.back in
    let small : within bound (s.size + bytes_in p.front + bytes_in p.back) ≡ true = subst (λ (k : ℕ). within bound k ≡ true) (omega (arith, bytes)) w in
    let field : SpellsField (map bare p.front) f = subst (λ (l : List (List ℕ)). SpellsField l f) (sym p.front_is) h.3 in
    let rest : Spells (map bare p.back) fs = subst (λ (l : List (List ℕ)). Spells l fs) (sym p.back_is) h.4 in
    ap (λ l. stanzas_from bound n (Some s) l) (ap (λ l. l ++ tail) p.is ∙ append_assoc p.front p.back tail)
    ∙ run_field bound p.front f field s n (p.back ++ tail) (fresh_at s.stanza f fs d) (within_less bound (s.size + bytes_in p.front) (s.size + bytes_in p.front + bytes_in p.back) (omega arith) small)
    ∙ run_fields bound fs p.back rest (behind s (bytes_in p.front) (s.stanza ++ f ∷ [])) (n + length p.front) tail (subst IsDistinct (sym (append_assoc s.stanza (f ∷ []) fs)) d) small
    ∙ (λ i. stanzas_from bound (counts n p.front p.back body p.is i) (Some (record { number = s.number; size = sizes s.size (bytes_in p.front) (bytes_in p.back) (bytes_in body) bytes i; stanza = append_assoc s.stanza (f ∷ []) fs i })) tail)
  where
    counts : (n : ℕ) (a b body : List (List ℕ)) → body ≡ a ++ b → n + length a + length b ≡ n + length body
    counts n a b body e = omega (arith, ap length e, length-append a b)

    sizes : (a b c d : ℕ) → d ≡ b + c → a + b + c ≡ a + d
    sizes a b c d e = omega arith

run_stanza : (bound : Option ℕ) (fs : List Field) (body : List (List ℕ)) (n : ℕ) (tail : List (List ℕ)) → Spells (map bare body) fs → IsDistinct fs → 0 < length body → within bound (bytes_in body) ≡ true → (size : ℕ) × (stanzas_from bound n None (body ++ tail) ≡ stanzas_from bound (n + length body) (Some (record { number = n; size = size; stanza = fs })) tail)
unfolding behind
run_stanza bound [] [] n tail h d some w = absurd (omega arith)
run_stanza bound [] (l ∷ ls) n tail h d some w = cc
run_stanza bound (f ∷ fs) body n tail h d some w =
    let p = parts_of h.0 h.1 body h.2 in
    let bytes : bytes_in body ≡ bytes_in p.front + bytes_in p.back = ap bytes_in p.is ∙ bytes_append p.front p.back in
    let small : within bound (bytes_in p.front + bytes_in p.back) ≡ true = subst (λ (k : ℕ). within bound k ≡ true) bytes w in
    let field : SpellsField (map bare p.front) f = subst (λ (l : List (List ℕ)). SpellsField l f) (sym p.front_is) h.3 in
    let rest : Spells (map bare p.back) fs = subst (λ (l : List (List ℕ)). Spells l fs) (sym p.back_is) h.4 in
    let s : Begun = record { number = n; size = bytes_in p.front; stanza = f ∷ [] } in (
      bytes_in p.front + bytes_in p.back,
      ap (λ l. stanzas_from bound n None l) (ap (λ l. l ++ tail) p.is ∙ append_assoc p.front p.back tail)
          ∙ run_first bound p.front f field n (p.back ++ tail) (within_less bound (bytes_in p.front) (bytes_in p.front + bytes_in p.back) (omega arith) small)
          ∙ run_fields bound fs p.back rest s (n + length p.front) tail d small
          ∙ ap (λ k. stanzas_from bound k (Some (record { number = n; size = bytes_in p.front + bytes_in p.back; stanza = f ∷ fs })) tail) (counts n p.front p.back body p.is),
    )
  where
    counts : (n : ℕ) (a b body : List (List ℕ)) → body ≡ a ++ b → n + length a + length b ≡ n + length body
    counts n a b body e = omega (arith, ap length e, length-append a b)

run_separator : (bound : Option ℕ) (line : List ℕ) → IsSeparator (bare line) → (n : ℕ) (current : Option Begun) (lines : List (List ℕ)) → stanzas_from bound n current (line ∷ lines) ≡ with_ended (ended_by current) (stanzas_from bound (n + 1) None lines)
run_separator bound line h n current lines = ap (λ r. after_step n (stepped bound n (length line) current r) (λ c. stanzas_from bound (n + 1) c lines)) (of_separator (bare line) h)

run_parting : (bound : Option ℕ) (parting : List (List ℕ)) → AllSeparators parting → (n : ℕ) (lines : List (List ℕ)) → stanzas_from bound n None (parting ++ lines) ≡ stanzas_from bound (n + length parting) None lines
run_parting bound [] h n lines = ap (λ k. stanzas_from bound k None lines) (plus_none n)
  where
    plus_none : (n : ℕ) → n ≡ n + 0
    plus_none n = omega arith
run_parting bound (l ∷ ls) h n lines = run_separator bound l h.0 n None (ls ++ lines) ∙ ended_none _ ∙ run_parting bound ls h.1 (n + 1) lines ∙ ap (λ k. stanzas_from bound k None lines) (counted n (length ls))

-- a stanza is begun, and what follows is parted from it
close : (bound : Option ℕ) (s : Begun) (n : ℕ) (tail : List (List ℕ)) (out : List (ℕ × List Field)) → IsParted tail → stanzas_from bound n None tail ≡ Ok out → stanzas_from bound n (Some s) tail ≡ Ok ((s.number, s.stanza) ∷ out)
close bound s n [] out p h = ap (with_ended ((s.number, s.stanza) ∷ [])) h
close bound s n (t ∷ ts) out p h = run_separator bound t p n (Some s) ts ∙ ap (with_ended ((s.number, s.stanza) ∷ [])) (sym (run_separator bound t p n None ts ∙ ended_none _) ∙ h)

-- what is spelled so is read
pub only : (bound : Option ℕ) (out : List (ℕ × List Field)) (n : ℕ) (lines : List (List ℕ)) → Stanzas bound n lines out → stanzas_from bound n None lines ≡ Ok out
only bound [] n lines h = ap (stanzas_from bound n None) (sym (append-nil lines)) ∙ run_parting bound lines h n []
only bound (s ∷ out) n lines h =
    let run = run_stanza bound s.1 h.body s.0 h.tail h.spells h.distinct h.some h.small in
    ap (stanzas_from bound n None) h.lines_are ∙ run_parting bound h.parting h.separators n (h.body ++ h.tail)
    ∙ ap (λ k. stanzas_from bound k None (h.body ++ h.tail)) (sym h.number)
    ∙ run.1
    ∙ close bound (record { number = s.0; size = run.0; stanza = s.1 }) (s.0 + length h.body) h.tail out h.parted (only bound out (s.0 + length h.body) h.tail h.behind)
