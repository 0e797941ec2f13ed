-- What can be the first of a command is completed to one by some words.
use Rattle.std.proofs.Common.{◌≡◌, ℕ, ◌+◌, ◌-◌, ◌≤◌, ◌<◌, suc, zero, eqb, eqb-true, eq-eqb, leb, leb-true, le-leb, Bool, true, false, ◌&&◌, ◌||◌, not, cond, List, [], ◌∷◌, ◌++◌, length, take, drop, refl, sym, ap, ◌∙◌, subst, arith, Option, Some, None, is_some, length-append}
use Rattle.std.proofs.Math.Seq.{take-append_seam, drop-append_seam}
use Rattle.std.proofs.lemmas.Bool.{and_parts, and_from, false≢true, not-true}
use Rattle.std.proofs.lemmas.List.{take_all, drop_all, take-append-le, drop-append-le, length-drop}
use Rattle.std.proofs.lemmas.List.Folds.{prefix_len-append}
use Rattle.std.proofs.lemmas.List.Sums.{prefix_len-le-length}
use Rattle.std.proofs.lemmas.Slice.Eq.{bytes_eq-Decides}
use Rattle.std.specs.List.{find, list_any, list_all, prefix_len}
use Rattle.std.specs.Prelude.{codes}
use Rattle.std.specs.Str.{bytes_eq}
use Rattle.command_table.specs.declared.table.Arguments.{Arguments}
use Rattle.command_table.specs.declared.table.Arguments.TheVariants.{Between, AtLeast, Apart, Origin, Sources, Switched}
use Rattle.command_table.specs.Arguments.{arguments_begin, arguments_end, is_onto_itself, begins_origin}
use Rattle.command_words.specs.Commands.{Begins}
use Rattle.command_table.specs.Flags.{is_flag, flags_stand}
use Rattle.command_value.specs.Plain.{Word, Words, PlainCommand}
use Rattle.command_words.specs.Spelled.{command_of, components_len, flags_of, after_flags, mark_len, arguments_of, row_begins, row_ends, spelled_by, begun_by, begins, is_command}
use Rattle.command_table.specs.Table.{RowRule, table, has_key}
use Rattle.command_words.proofs.Fronts.{arguments_begin-nil, mark_len-le}
use Rattle.command_words.proofs.Closed.{row_parts}

-- ---- arguments

-- a word that is no flag and no mark
is_plain : Word → Bool
is_plain word = not (is_flag word) && not (bytes_eq word (codes "--"))

abbrev x : Word
x = codes "x"

abbrev y : Word
y = codes "y"

abbrev many : ℕ → Words
many zero = []
many (suc n) = x ∷ many n

length-many : (n : ℕ) → length (many n) ≡ n
length-many zero = refl
length-many (suc n) = ap suc (length-many n)

plain-many : (n : ℕ) → list_all is_plain (many n) ≡ true
unfolding is_plain
plain-many zero = refl
plain-many (suc n) = plain-many n

abbrev IsCompletion : Arguments → ℕ → Words → Words → Type 0
IsCompletion form n words rest = (arguments_begin form n (words ++ rest) ≡ true) × (arguments_end form n (words ++ rest) ≡ true) × (list_all is_plain rest ≡ true)

-- a row's least number of arguments isn't above its greatest
abbrev is_fillable : Arguments → Bool
is_fillable (Between low high) = leb low high
is_fillable _ = true

filled : (low high : ℕ) (words : Words) → low ≤ high → leb (length words) high ≡ true → (leb (length (words ++ many (low - length words))) high ≡ true) × (leb low (length (words ++ many (low - length words))) ≡ true)
filled low high words h e =
    let k = low - length words in
    (le-leb _ _ (omega (arith, length-append words (many k), length-many k, leb-true (length words) high e)), le-leb _ _ (omega (arith, length-append words (many k), length-many k)))

different : (a : Word) (b : Bool) → bytes_eq a x ≡ b → not (bytes_eq a (cond b y x)) ≡ true
different a true e =
    let same = (bytes_eq-Decides a x).0 e in
    let P : Word → Type 0 = λ w. not (bytes_eq w y) ≡ true in
    subst P (sym same) refl
different a false e = ap not e

plain-either : (b : Bool) → list_all is_plain (cond b y x ∷ x ∷ []) ≡ true
unfolding is_plain
plain-either true = refl
plain-either false = refl

complete_apart : (n : ℕ) (words : Words) → not (is_onto_itself words) ≡ true → (rest : Words) × IsCompletion Apart n words rest
unfolding is_plain
complete_apart n [] h = (x ∷ y ∷ x ∷ [], (refl, refl, refl))
complete_apart n (a ∷ []) h = (cond (bytes_eq a x) y x ∷ x ∷ [], (different a (bytes_eq a x) refl, refl, plain-either (bytes_eq a x)))
complete_apart n (a ∷ b ∷ words) h = (x ∷ [], (h, le-leb 3 _ (omega (arith, length-append words (x ∷ []))), refl))

from_mirror : (b c : Bool) → (b || c) ≡ true → c ≡ false → b ≡ true
from_mirror true c h e = refl
from_mirror false c h e = absurd (false≢true (sym e ∙ h))

complete_origin : (n : ℕ) (words : Words) → begins_origin words ≡ true → (rest : Words) × IsCompletion Origin n words rest
unfolding is_plain
complete_origin n [] h = (x ∷ codes "empty" ∷ [], (refl, refl, refl))
complete_origin n (a ∷ []) h = (codes "empty" ∷ [], (refl, refl, refl))
complete_origin n (a ∷ b ∷ []) h = chosen (bytes_eq b (codes "empty")) refl where
  chosen : (e : Bool) → bytes_eq b (codes "empty") ≡ e → (rest : Words) × IsCompletion Origin n (a ∷ b ∷ []) rest
  chosen true e = ([], (h, e, refl))
  chosen false e = (codes "mirror" ∷ x ∷ [], (and_from (bytes_eq b (codes "from")) true (from_mirror (bytes_eq b (codes "from")) (bytes_eq b (codes "empty")) h e) refl, refl, refl))
complete_origin n (a ∷ b ∷ c ∷ []) h = (x ∷ [], (h, refl, refl))
complete_origin n (a ∷ b ∷ c ∷ d ∷ []) h = ([], (h, refl, refl))
complete_origin n (a ∷ b ∷ c ∷ d ∷ e ∷ words) h = absurd (false≢true h)

complete_arguments : (form : Arguments) (n : ℕ) (words : Words) → is_fillable form ≡ true → arguments_begin form n words ≡ true → (rest : Words) × IsCompletion form n words rest
complete_arguments (Between low high) n words f h = let e = filled low high words (leb-true low high f) h in (many (low - length words), (e.0, e.1, plain-many (low - length words)))
complete_arguments (AtLeast low) n words f h =
    let k = low - length words in
    (many k, (refl, le-leb low _ (omega (arith, length-append words (many k), length-many k)), plain-many k))
complete_arguments Apart n words f h = complete_apart n words h
complete_arguments Origin n words f h = complete_origin n words h
complete_arguments Sources n words f h = let e = filled n (n + 1) words (omega arith) h in (many (n - length words), (e.0, e.1, plain-many (n - length words)))
complete_arguments Switched n words f h = let e = filled (n + 1) (n + 2) words (omega arith) h in (many (n + 1 - length words), (e.0, e.1, plain-many (n + 1 - length words)))

-- ---- the words after a verb

no_flags : (rest : Words) → list_all is_plain rest ≡ true → (prefix_len is_flag rest ≡ 0) × (mark_len rest ≡ 0)
unfolding is_plain
no_flags [] h = (refl, refl)
no_flags (word ∷ rest) h =
    let plain = and_parts (not (is_flag word)) (not (bytes_eq word (codes "--"))) (and_parts (is_plain word) (list_all is_plain rest) h).0 in
    (ap (λ b. cond b (1 + prefix_len is_flag rest) 0) (not-true (is_flag word) plain.0), ap (λ b. cond b 1 0) (not-true (bytes_eq word (codes "--")) plain.1))

mark_len-append : (ws rest : Words) → 0 < length ws → mark_len (ws ++ rest) ≡ mark_len ws
mark_len-append [] rest h = absurd (omega arith)
mark_len-append (word ∷ ws) rest h = refl

abbrev KeepsParts : Words → Words → Type 0
KeepsParts ws rest = (flags_of (ws ++ rest) ≡ flags_of ws) × (arguments_of (ws ++ rest) ≡ arguments_of ws ++ rest)

all_flags : (ws rest : Words) → prefix_len is_flag ws ≡ length ws → prefix_len is_flag (ws ++ rest) ≡ length ws → mark_len rest ≡ 0 → KeepsParts ws rest
all_flags ws rest e p m =
    let after = ap (λ n. drop n (ws ++ rest)) p ∙ drop-append_seam ws rest in
    let none = drop_all (prefix_len is_flag ws) ws (omega arith) in (
      ap (λ n. take n (ws ++ rest)) p ∙ take-append_seam ws rest ∙ sym (take_all (prefix_len is_flag ws) ws (omega arith)),
      ap (λ z. drop (mark_len z) z) after ∙ ap (λ n. drop n rest) m ∙ ap (λ z. drop (mark_len z) z ++ rest) (sym none),
    )

some_others : (ws rest : Words) → prefix_len is_flag ws < length ws → prefix_len is_flag (ws ++ rest) ≡ prefix_len is_flag ws → KeepsParts ws rest
some_others ws rest h p =
    let k = prefix_len is_flag ws in
    let z = after_flags ws in
    let after = ap (λ n. drop n (ws ++ rest)) p ∙ drop-append-le k ws rest (omega arith) in (
      ap (λ n. take n (ws ++ rest)) p ∙ take-append-le k ws rest (omega arith),
      ap (λ u. drop (mark_len u) u) after ∙ ap (λ n. drop n (z ++ rest)) (mark_len-append z rest (omega (arith, length-drop k ws))) ∙ drop-append-le (mark_len z) z rest (mark_len-le z),
    )

unequal : (m n : ℕ) → eqb m n ≡ false → m ≡ n → ⊥
unequal m n e same = false≢true (sym e ∙ eq-eqb m n same)

keeps_parts : (ws rest : Words) → list_all is_plain rest ≡ true → KeepsParts ws rest
keeps_parts ws rest plain = chosen (eqb (prefix_len is_flag ws) (length ws)) refl where
  chosen : (b : Bool) → eqb (prefix_len is_flag ws) (length ws) ≡ b → KeepsParts ws rest
  chosen true e =
      let none = no_flags rest plain in
      let same = eqb-true (prefix_len is_flag ws) (length ws) e in
      let zero_more : length ws + prefix_len is_flag rest ≡ length ws = omega (arith, none.0) in
      all_flags ws rest same (prefix_len-append is_flag ws rest ∙ ap (λ b. cond b (length ws + prefix_len is_flag rest) (prefix_len is_flag ws)) e ∙ zero_more) none.1
  chosen false e =
      let differ = unequal (prefix_len is_flag ws) (length ws) e in
      some_others ws rest (omega (arith, prefix_len-le-length is_flag ws)) (prefix_len-append is_flag ws rest ∙ ap (λ b. cond b (length ws + prefix_len is_flag rest) (prefix_len is_flag ws)) e)

completed : (row : RowRule) (ws rest : Words) → flags_stand row.flags (flags_of ws) ≡ true → IsCompletion row.arguments (components_len (flags_of ws)) (arguments_of ws) rest → (row_begins row (ws ++ rest) ≡ true) × (row_ends row (ws ++ rest) ≡ true)
unfolding row_begins row_ends
completed row ws rest stand done =
    let n = components_len (flags_of ws) in
    let kept = keeps_parts ws rest done.2 in
    let P : Words → Type 0 = λ w. (flags_stand row.flags w && arguments_begin row.arguments (components_len w) (arguments_of (ws ++ rest))) ≡ true in
    let Q : Words → Type 0 = λ w. (flags_stand row.flags (flags_of ws) && arguments_begin row.arguments n w) ≡ true in
    let R : Words → Type 0 = λ w. arguments_end row.arguments (components_len w) (arguments_of (ws ++ rest)) ≡ true in
    let S : Words → Type 0 = λ w. arguments_end row.arguments n w ≡ true in
    (subst P (sym kept.0) (subst Q (sym kept.1) (and_from _ _ stand done.0)), subst R (sym kept.0) (subst S (sym kept.1) done.1))

complete_row : (row : RowRule) (ws : Words) → is_fillable row.arguments ≡ true → row_begins row ws ≡ true → (rest : Words) × (row_begins row (ws ++ rest) ≡ true) × (row_ends row (ws ++ rest) ≡ true)
complete_row row ws f h =
    let parts = row_parts row ws h in
    let done = complete_arguments row.arguments (components_len (flags_of ws)) (arguments_of ws) f parts.1 in
    let all = completed row ws done.0 parts.0 done.1 in
    (done.0, all.0, all.1)

-- ---- the whole command

complete : (b c : Bool) (command : PlainCommand) → b ≡ true → c ≡ true → is_some (cond (b && c) (Some command) None) ≡ true
complete b c command e f = ap (λ d. is_some (cond d (Some command) None)) (and_from b c e f)

fillable_step : (b : Bool) (r row : RowRule) (o : Option RowRule) → is_fillable r.arguments ≡ true → (o ≡ Some row → is_fillable row.arguments ≡ true) → cond b (Some r) o ≡ Some row → is_fillable row.arguments ≡ true
fillable_step true r row o f ih h = let same : r ≡ row = cc in ap (λ z. is_fillable z.arguments) (sym same) ∙ f
fillable_step false r row o f ih h = ih h

fillable_found : (group verb : Word) (row : RowRule) (rows : List RowRule) → list_all (λ r. is_fillable r.arguments) rows ≡ true → find (has_key group verb) rows ≡ Some row → is_fillable row.arguments ≡ true
fillable_found group verb row [] f h = cc
fillable_found group verb row (r ∷ rows) f h =
    let parts = and_parts (is_fillable r.arguments) (list_all (λ r. is_fillable r.arguments) rows) f in
    fillable_step (has_key group verb r) r row (find (has_key group verb) rows) parts.0 (fillable_found group verb row rows parts.1) h

table_fillable : list_all (λ r. is_fillable r.arguments) table ≡ true
unfolding table
table_fillable = refl

complete_verb : (ws : Words) (group verb : Word) (o : Option RowRule) → find (has_key group verb) table ≡ o → begun_by o ws ≡ true → (rest : Words) × (is_some (spelled_by o (ws ++ rest)) ≡ true)
complete_verb ws group verb None e h = absurd (false≢true h)
complete_verb ws group verb (Some row) e h =
    let done = complete_row row ws (fillable_found group verb row table table_fillable e) h in
    (done.0, complete (row_begins row (ws ++ done.0)) (row_ends row (ws ++ done.0)) (command_of row.kind (flags_of (ws ++ done.0)) (arguments_of (ws ++ done.0))) done.1 done.2)

own_verb : (b : Bool) (r : RowRule) (o : Option RowRule) → b ≡ true → cond (b && bytes_eq r.verb r.verb) (Some r) o ≡ Some r
own_verb b r o e = ap (λ c. cond c (Some r) o) (and_from b (bytes_eq r.verb r.verb) e ((bytes_eq-Decides r.verb r.verb).1 refl))

abbrev HasVerb : Word → List RowRule → Type 0
HasVerb group rows = (verb : Word) × (row : RowRule) × (find (has_key group verb) rows ≡ Some row)

verb_step : (group : Word) (r : RowRule) (rows : List RowRule) (b : Bool) → bytes_eq r.group group ≡ b → (list_any (λ r. bytes_eq r.group group) rows ≡ true → HasVerb group rows) → (b || list_any (λ r. bytes_eq r.group group) rows) ≡ true → HasVerb group (r ∷ rows)
verb_step group r rows true e ih h = (r.verb, r, own_verb (bytes_eq r.group group) r (find (has_key group r.verb) rows) e)
verb_step group r rows false e ih h =
    let more = ih h in
    (more.0, more.1, ap (λ c. cond (c && bytes_eq r.verb more.0) (Some r) (find (has_key group more.0) rows)) e ∙ more.2)

has_verb : (group : Word) (rows : List RowRule) → list_any (λ r. bytes_eq r.group group) rows ≡ true → HasVerb group rows
has_verb group [] h = absurd (false≢true h)
has_verb group (r ∷ rows) h = verb_step group r rows (bytes_eq r.group group) refl (has_verb group rows) h

nothing_begun : (row : RowRule) → row_begins row [] ≡ true
unfolding row_begins
nothing_begun row = arguments_begin-nil row.arguments 1

complete_group : (group : Word) → list_any (λ r. bytes_eq r.group group) table ≡ true → (rest : Words) × (is_command (group ∷ rest) ≡ true)
complete_group group h =
    let found = has_verb group table h in
    let done = complete_verb [] group found.0 (Some found.1) found.2 (nothing_begun found.1) in
    (found.0 ∷ done.0, ap (λ o. is_some (spelled_by o done.0)) found.2 ∙ done.1)

some_command : is_command (codes "db" ∷ codes "cleanup" ∷ []) ≡ true
unfolding table row_begins row_ends
some_command = refl

-- some words complete it to a command
pub command_from_begins : (front : Words) → begins front ≡ true → Begins is_command front
command_from_begins [] h = (codes "db" ∷ codes "cleanup" ∷ [], some_command)
command_from_begins (group ∷ []) h = complete_group group h
command_from_begins (group ∷ verb ∷ ws) h = complete_verb ws group verb (find (has_key group verb) table) refl h
