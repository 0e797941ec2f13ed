-- Flags that can stand, from the front on.
use Rattle.std.proofs.Common.{◌≡◌, ℕ, ◌+◌, ◌<◌, Bool, true, false, ◌&&◌, List, [], ◌∷◌, ◌++◌, length, take, get_or, sym, ap, ◌∙◌, append_assoc, append-nil}
use Rattle.std.proofs.Math.Bool.{and_assoc, and-true}
use Rattle.std.proofs.lemmas.List.{take_more}
use Rattle.command_value.specs.Plain.{Word, Words}
use Rattle.command_table.specs.Table.{FlagRule}
use Rattle.command_table.specs.Flags.{flag_stands, flags_stand_after, flags_stand}

-- flags in two parts: the second stands after the first
pub flags_stand_after-append : (rules : List FlagRule) (before xs ys : Words) → flags_stand_after rules before (xs ++ ys) ≡ (flags_stand_after rules before xs && flags_stand_after rules (before ++ xs) ys)
flags_stand_after-append rules before [] ys = ap (λ b. flags_stand_after rules b ys) (sym (append-nil before))
flags_stand_after-append rules before (x ∷ xs) ys =
    ap (λ b. flag_stands rules before x && b) (flags_stand_after-append rules (before ++ x ∷ []) xs ys ∙ ap (λ b. flags_stand_after rules (before ++ x ∷ []) xs && flags_stand_after rules b ys) (append_assoc before (x ∷ []) xs))
    ∙ sym (and_assoc (flag_stands rules before x) (flags_stand_after rules (before ++ x ∷ []) xs) (flags_stand_after rules (before ++ (x ∷ xs)) ys))

-- one flag more
pub flags_stand-more : (rules : List FlagRule) (flags : Words) (i : ℕ) (word : Word) → i < length flags → word ≡ get_or flags i word → flags_stand rules (take (i + 1) flags) ≡ (flags_stand rules (take i flags) && flag_stands rules (take i flags) word)
flags_stand-more rules flags i word h e =
    ap (flags_stand rules) (take_more flags i word h ∙ ap (λ w. take i flags ++ w ∷ []) (sym e))
    ∙ flags_stand_after-append rules [] (take i flags) (word ∷ [])
    ∙ ap (λ b. flags_stand rules (take i flags) && b) (and-true (flag_stands rules (take i flags) word))

-- what a conjunction is, from its parts
pub both : {a : Bool} (b c : Bool) → a ≡ (b && c) → b ≡ true → c ≡ true → a ≡ true
both b c e f g = e ∙ ap (λ d. d && c) f ∙ g

pub second_fails : {a : Bool} (b c : Bool) → a ≡ (b && c) → b ≡ true → c ≡ false → a ≡ false
second_fails b c e f g = e ∙ ap (λ d. d && c) f ∙ g
