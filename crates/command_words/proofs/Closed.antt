-- What begins a command: each front of it does too.
use Rattle.std.proofs.Common.{◌≡◌, ℕ, ◌+◌, ◌-◌, suc, zero, leb, leb-true, leb-false, le-leb, Bool, true, false, ◌&&◌, ◌||◌, not, cond, List, [], ◌∷◌, ◌++◌, length, take, drop, refl, sym, ap, ◌∙◌, arith, Option, Some, None, is_some}
use Rattle.std.proofs.Math.Seq.{take-append_seam}
use Rattle.std.proofs.lemmas.Bool.{and_parts, false≢true}
use Rattle.std.proofs.lemmas.List.{take-append-drop, length-take}
use Rattle.std.specs.List.{find, list_any, prefix_len}
use Rattle.std.specs.Prelude.{codes}
use Rattle.std.specs.Str.{bytes_eq}
use Rattle.command_table.specs.declared.table.Arguments.{Arguments}
use Rattle.command_table.specs.declared.table.Arguments.TheVariants.{Between, AtLeast, Apart, Origin, Sources, Switched}
use Rattle.command_table.specs.Arguments.{arguments_begin, is_onto_itself, begins_origin, is_source_kind}
use Rattle.command_table.specs.Flags.{is_flag, flags_stand, flags_stand_after}
use Rattle.command_value.specs.Plain.{Word, Words, PlainCommand}
use Rattle.command_words.specs.Spelled.{command_of, components_len, flags_of, after_flags, mark_len, arguments_of, row_begins, row_ends, spelled_by, begun_by, begins, is_command}
use Rattle.command_table.specs.Table.{FlagRule, RowRule, table, has_key}
use Rattle.command_table.proofs.Standing.{flags_stand_after-append, both}
use Rattle.command_words.proofs.Fronts.{row_begins-flags, row_begins-past, mark_len-small}

-- ---- flags and arguments

pub flags-closed : (rules : List FlagRule) (flags : Words) (n : ℕ) → flags_stand rules flags ≡ true → flags_stand rules (take n flags) ≡ true
flags-closed rules flags n h =
    let e = sym (flags_stand_after-append rules [] (take n flags) (drop n flags)) ∙ ap (flags_stand rules) (take-append-drop n flags) ∙ h in
    (and_parts (flags_stand rules (take n flags)) (flags_stand_after rules (take n flags) (drop n flags)) e).0

shorter : (n p : ℕ) (words : Words) → leb (length words) n ≡ true → leb (length (take p words)) n ≡ true
shorter n p words h = le-leb (length (take p words)) n (omega (arith, length-take p words, leb-true (length words) n h))

apart-closed : (words : Words) (p : ℕ) → not (is_onto_itself words) ≡ true → not (is_onto_itself (take p words)) ≡ true
apart-closed [] zero h = refl
apart-closed [] (suc p) h = refl
apart-closed (a ∷ words) zero h = refl
apart-closed (a ∷ []) (suc p) h = apart-closed-one a p where
  apart-closed-one : (a : Word) (p : ℕ) → not (is_onto_itself (a ∷ take p [])) ≡ true
  apart-closed-one a zero = refl
  apart-closed-one a (suc p) = refl
apart-closed (a ∷ b ∷ words) (suc zero) h = refl
apart-closed (a ∷ b ∷ words) (suc (suc p)) h = h

from_alone : (a b c : Bool) → (a && c) ≡ true → (a || b) ≡ true
from_alone true b c h = refl
from_alone false b c h = absurd (false≢true h)

origin-closed : (words : Words) (p : ℕ) → begins_origin words ≡ true → begins_origin (take p words) ≡ true
origin-closed words zero h = refl
origin-closed [] (suc p) h = refl
origin-closed (a ∷ words) (suc zero) h = refl
origin-closed (a ∷ []) (suc (suc p)) h = refl
origin-closed (a ∷ b ∷ []) (suc (suc zero)) h = h
origin-closed (a ∷ b ∷ []) (suc (suc (suc p))) h = h
origin-closed (a ∷ b ∷ c ∷ []) (suc (suc zero)) h = from_alone (bytes_eq b (codes "from")) (bytes_eq b (codes "empty")) (is_source_kind c) h
origin-closed (a ∷ b ∷ c ∷ []) (suc (suc (suc zero))) h = h
origin-closed (a ∷ b ∷ c ∷ []) (suc (suc (suc (suc p)))) h = h
origin-closed (a ∷ b ∷ c ∷ d ∷ []) (suc (suc zero)) h = from_alone (bytes_eq b (codes "from")) (bytes_eq b (codes "empty")) (is_source_kind c) h
origin-closed (a ∷ b ∷ c ∷ d ∷ []) (suc (suc (suc zero))) h = h
origin-closed (a ∷ b ∷ c ∷ d ∷ []) (suc (suc (suc (suc zero)))) h = h
origin-closed (a ∷ b ∷ c ∷ d ∷ []) (suc (suc (suc (suc (suc p))))) h = h
origin-closed (a ∷ b ∷ c ∷ d ∷ e ∷ words) (suc (suc p)) h = absurd (false≢true h)

pub arguments-closed : (form : Arguments) (n : ℕ) (words : Words) (p : ℕ) → arguments_begin form n words ≡ true → arguments_begin form n (take p words) ≡ true
arguments-closed (Between low high) n words p h = shorter high p words h
arguments-closed (AtLeast low) n words p h = refl
arguments-closed Apart n words p h = apart-closed words p h
arguments-closed Origin n words p h = origin-closed words p h
arguments-closed Sources n words p h = shorter (n + 1) p words h
arguments-closed Switched n words p h = shorter (n + 2) p words h

-- ---- the words after a verb

pub row_parts : (row : RowRule) (ws : Words) → row_begins row ws ≡ true → (flags_stand row.flags (flags_of ws) ≡ true) × (arguments_begin row.arguments (components_len (flags_of ws)) (arguments_of ws) ≡ true)
unfolding row_begins
row_parts row ws h = and_parts _ _ h

pub row-closed : (row : RowRule) (ws : Words) (n : ℕ) → row_begins row ws ≡ true → row_begins row (take n ws) ≡ true
row-closed row ws n h = chosen (leb n (prefix_len is_flag ws)) refl where
  chosen : (b : Bool) → leb n (prefix_len is_flag ws) ≡ b → row_begins row (take n ws) ≡ true
  chosen true e = row_begins-flags row n ws (leb-true n (prefix_len is_flag ws) e) ∙ flags-closed row.flags (flags_of ws) n (row_parts row ws h).0
  chosen false e =
      let p = n - prefix_len is_flag ws - mark_len (after_flags ws) in
      let same : n ≡ prefix_len is_flag ws + (mark_len (after_flags ws) + p) = omega (arith, leb-false n (prefix_len is_flag ws) e, mark_len-small (after_flags ws)) in
      ap (λ k. row_begins row (take k ws)) same ∙ both _ _ (row_begins-past row p ws) (row_parts row ws h).0 (arguments-closed row.arguments (components_len (flags_of ws)) (arguments_of ws) p (row_parts row ws h).1)

-- ---- the whole command

some_parts : (b c : Bool) (command : PlainCommand) → is_some (cond (b && c) (Some command) None) ≡ true → b ≡ true
some_parts true c command h = refl
some_parts false c command h = absurd (false≢true h)

found_group : (group verb : Word) (row : RowRule) (rows : List RowRule) → find (has_key group verb) rows ≡ Some row → list_any (λ r. bytes_eq r.group group) rows ≡ true
found_group group verb row [] h = cc
found_group group verb row (r ∷ rows) h = chosen (bytes_eq r.group group) (bytes_eq r.verb verb) (find (has_key group verb) rows) h (found_group group verb row rows) where
  chosen : (b c : Bool) (o : Option RowRule) → cond (b && c) (Some r) o ≡ Some row → (o ≡ Some row → list_any (λ r. bytes_eq r.group group) rows ≡ true) → (b || list_any (λ r. bytes_eq r.group group) rows) ≡ true
  chosen true c o h ih = refl
  chosen false c o h ih = ih h

group_begins : (group verb : Word) (ws : Words) (o : Option RowRule) → find (has_key group verb) table ≡ o → is_some (spelled_by o ws) ≡ true → list_any (λ r. bytes_eq r.group group) table ≡ true
group_begins group verb ws None e h = absurd (false≢true h)
group_begins group verb ws (Some row) e h = found_group group verb row table e

verb_begins : (ws rest : Words) (o : Option RowRule) → is_some (spelled_by o (ws ++ rest)) ≡ true → begun_by o ws ≡ true
verb_begins ws rest None h = h
verb_begins ws rest (Some row) h =
    let all = some_parts (row_begins row (ws ++ rest)) (row_ends row (ws ++ rest)) (command_of row.kind (flags_of (ws ++ rest)) (arguments_of (ws ++ rest))) h in
    ap (row_begins row) (sym (take-append_seam ws rest)) ∙ row-closed row (ws ++ rest) (length ws) all

-- what some words complete to a command can be the first of one
pub begins-from_command : (front rest : Words) → is_command (front ++ rest) ≡ true → begins front ≡ true
begins-from_command [] rest h = refl
begins-from_command (group ∷ []) [] h = absurd (false≢true h)
begins-from_command (group ∷ []) (verb ∷ ws) h = group_begins group verb ws (find (has_key group verb) table) refl h
begins-from_command (group ∷ verb ∷ ws) rest h = verb_begins ws rest (find (has_key group verb) table) h
