-- A fault behind a group and a verb is a fault of the command.
use Rattle.std.proofs.Common.{◌≡◌, ℕ, ◌+◌, ◌-◌, ◌≤◌, ◌<◌, suc, Bool, true, false, ◌&&◌, cond, [], ◌∷◌, length, take, drop, get_or, refl, sym, ap, ◌∙◌, subst, arith, Option, Some, None, is_some, Result, nat_lt, ltb-true, ltb-false}
use Rattle.std.proofs.lemmas.Bool.{false≢true}
use Rattle.std.proofs.lemmas.List.{take_all, take-append-drop}
use Rattle.std.proofs.lemmas.Result.{IfErr-weaker}
use Rattle.std.specs.List.{find}
use Rattle.std.specs.Result.{IfErr}
use Rattle.command_words.specs.declared.fault.WordFault.{WordFault}
use Rattle.command_words.specs.declared.fault.WordFault.TheVariants.{At, OutOfMemory}
use Rattle.command_words.specs.Commands.{IsLongestFront}
use Rattle.command_words.specs.Fault.{IsAt, IsRowFault, IsCommandFault}
use Rattle.command_value.specs.Plain.{Word, Words, PlainCommand}
use Rattle.command_words.specs.Spelled.{command_of, flags_of, arguments_of, row_begins, row_ends, row_spells, begun_by, spelled, spelled_by, begins, is_command}
use Rattle.command_table.specs.Table.{RowRule, table, has_key}
use Rattle.command_words.proofs.Closed.{begins-from_command}
use Rattle.command_words.proofs.Completed.{command_from_begins}

-- a list of two words or more
pub two_words : (ws : Words) (group verb : Word) → 2 ≤ length ws → group ≡ get_or ws 0 group → verb ≡ get_or ws 1 verb → ws ≡ group ∷ verb ∷ take (length ws - 2) (drop 2 ws)
two_words [] group verb h g v = absurd (omega arith)
two_words (w ∷ []) group verb h g v = absurd (omega arith)
two_words (w ∷ u ∷ ws) group verb h g v = ap (λ x. x ∷ u ∷ ws) (sym g) ∙ ap (λ x. group ∷ x ∷ ws) (sym v) ∙ ap (λ x. group ∷ verb ∷ x) (sym (take_all (length (w ∷ u ∷ ws) - 2) ws (omega arith)))

incomplete : (b c : Bool) (command : PlainCommand) → c ≡ false → is_some (cond (b && c) (Some command) None) ≡ false
incomplete true c command e = ap (λ x. is_some (cond x (Some command) None)) e
incomplete false c command e = refl

pub row_incomplete : (row : RowRule) (ws : Words) → row_ends row ws ≡ false → is_some (row_spells row ws) ≡ false
row_incomplete row ws e = incomplete (row_begins row ws) (row_ends row ws) (command_of row.kind (flags_of ws) (arguments_of ws)) e

front : (p : ℕ) (group verb : Word) (ws : Words) → take (p + 2) (group ∷ verb ∷ ws) ≡ group ∷ verb ∷ take p ws
front p group verb ws = let e : p + 2 ≡ suc (suc p) = omega arith in ap (λ n. take n (group ∷ verb ∷ ws)) e

begins_at : (p : ℕ) (group verb : Word) (ws : Words) (row : RowRule) → find (has_key group verb) table ≡ Some row → begins (take (p + 2) (group ∷ verb ∷ ws)) ≡ row_begins row (take p ws)
begins_at p group verb ws row e = ap begins (front p group verb ws) ∙ ap (λ o. begun_by o (take p ws)) e

pub row_to_command : (group verb : Word) (ws : Words) (row : RowRule) (place : ℕ) → find (has_key group verb) table ≡ Some row → IsRowFault row ws place → IsCommandFault (group ∷ verb ∷ ws) place
row_to_command group verb ws row place e (p, at, fault) =
    let P : ℕ → Type 0 = λ n. IsCommandFault (group ∷ verb ∷ ws) n in
    let next : p + 2 + 1 ≡ (p + 1) + 2 = omega arith in
    subst P (sym at) (omega (arith, fault.0), begins_at p group verb ws row e ∙ fault.1, λ h. ap (λ n. begins (take n (group ∷ verb ∷ ws))) next ∙ begins_at (p + 1) group verb ws row e ∙ fault.2 (omega arith), λ h. ap (λ o. is_some (spelled_by o ws)) e ∙ row_incomplete row ws (fault.3 (omega arith)))

lifted : (group verb : Word) (ws : Words) (row : RowRule) → find (has_key group verb) table ≡ Some row → (y : WordFault) → IsAt (IsRowFault row ws) y → IsAt (IsCommandFault (group ∷ verb ∷ ws)) y
lifted group verb ws row e (At place) h = row_to_command group verb ws row place e h
lifted group verb ws row e OutOfMemory h = tt

pub fault_to_command : {T : Type 0} (ws others : Words) (group verb : Word) (row : RowRule) (r : Result T WordFault) → ws ≡ group ∷ verb ∷ others → Some row ≡ find (has_key group verb) table → IfErr r (IsAt (IsRowFault row others)) → IfErr r (IsAt (IsCommandFault ws))
fault_to_command ws others group verb row r same e h =
    let P : Words → Type 0 = λ w. IfErr r (IsAt (IsCommandFault w)) in
    subst P (sym same) (IfErr-weaker r (IsAt (IsRowFault row others)) (IsAt (IsCommandFault (group ∷ verb ∷ others))) (lifted group verb others row (sym e)) h)

-- ---- the place of a command's fault, in the words of the fronts

pub longest_front : (ws : Words) (place : ℕ) → IsCommandFault ws place → IsLongestFront is_command ws place
longest_front ws place fault =
    (fault.0, command_from_begins (take place ws) fault.1, λ h more. false≢true (sym (fault.2 h) ∙ begins-from_command (take (place + 1) ws) more.0 more.1))

none_from : (o : Option PlainCommand) → is_some o ≡ false → o ≡ None
none_from None h = refl
none_from (Some command) h = cc

unreadable_before : (ws : Words) (place : ℕ) → place < length ws → IsCommandFault ws place → (b : Bool) → is_command ws ≡ b → b ≡ false
unreadable_before ws place h fault false e = refl
unreadable_before ws place h fault true e =
    absurd (false≢true (sym (fault.2 h) ∙ begins-from_command (take (place + 1) ws) (drop (place + 1) ws) (ap is_command (take-append-drop (place + 1) ws) ∙ e)))

pub unreadable : (ws : Words) (place : ℕ) → IsCommandFault ws place → spelled ws ≡ None
unreadable ws place fault = none_from (spelled ws) (chosen (nat_lt place (length ws)) refl) where
  chosen : (b : Bool) → nat_lt place (length ws) ≡ b → is_command ws ≡ false
  chosen true e = unreadable_before ws place (ltb-true place (length ws) e) fault (is_command ws) refl
  chosen false e = fault.3 (omega (arith, ltb-false place (length ws) e, fault.0))
