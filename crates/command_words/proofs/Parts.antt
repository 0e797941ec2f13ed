-- A list of commands, cut word by word.
use Rattle.std.proofs.Common.{◌≡◌, ℕ, ◌+◌, ◌<◌, ◌≤◌, Bool, true, false, cond, List, [], ◌∷◌, ◌++◌, length, drop, get_or, refl, sym, ap, ◌∙◌, arith, append_assoc, append-nil, drop-cons, add-one}
use Rattle.std.proofs.lemmas.List.{drop_all}
use Rattle.std.specs.Prelude.{codes}
use Rattle.std.specs.Str.{bytes_eq}
use Rattle.command_words.specs.Commands.{Part, cut, ends_with_comma, without_last, put_before}
use Rattle.command_words.specs.Cutting.{Cutting, ended, with_word, one_word_more}
use Rattle.command_value.specs.Plain.{Word, Words}

-- the parts that have ended, and those of the rest, which the open one begins
abbrev pub whole : Cutting → List Part → List Part
whole c ps = c.done ++ put_before c.open_part.start c.open_part.words ps

put_before-twice : (start k : ℕ) (xs ys : Words) (ps : List Part) → put_before start (xs ++ ys) ps ≡ put_before start xs (put_before k ys ps)
put_before-twice start k xs ys [] = refl
put_before-twice start k xs ys (p ∷ ps) = ap (λ w. record { start = start; words = w } ∷ ps) (append_assoc xs ys p.words)

put_nothing : (k : ℕ) (ps : List Part) (start j : ℕ) (ws : Words) → put_before k [] (put_before k ws ps) ≡ put_before k ws ps
put_nothing k [] start j ws = refl
put_nothing k (p ∷ ps) start j ws = refl

nothing_chosen : (b d : Bool) (k : ℕ) (v : Word) (ws : Words) (ps : List Part) → put_before k [] (cond b (record { start = k; words = [] } ∷ ps) (cond d (record { start = k; words = v ∷ [] } ∷ ps) (put_before k ws ps))) ≡ cond b (record { start = k; words = [] } ∷ ps) (cond d (record { start = k; words = v ∷ [] } ∷ ps) (put_before k ws ps))
nothing_chosen true d k v ws ps = refl
nothing_chosen false true k v ws ps = refl
nothing_chosen false false k v ws ps = put_nothing k ps k k ws

-- the first part of a list begins where the list does
pub cut-start : (k : ℕ) (ws : Words) → put_before k [] (cut k ws) ≡ cut k ws
cut-start k [] = refl
cut-start k (word ∷ ws) = nothing_chosen (bytes_eq word (codes ",")) (ends_with_comma word) k (without_last word) (word ∷ []) (cut (k + 1) ws)

ended_whole : (c : Cutting) (p : Part) (k : ℕ) (ws : Words) → whole (ended c p k) (cut k ws) ≡ c.done ++ p ∷ cut k ws
ended_whole c p k ws = ap (λ ps. (c.done ++ p ∷ []) ++ ps) (cut-start k ws) ∙ append_assoc c.done (p ∷ []) (cut k ws)

step_chosen : (b d : Bool) (c : Cutting) (k : ℕ) (word : Word) (ws : Words) →
    whole (cond b (ended c c.open_part (k + 1)) (cond d (ended c (with_word c.open_part (without_last word)) (k + 1)) (record { done = c.done; open_part = with_word c.open_part word }))) (cut (k + 1) ws)
    ≡ whole c (cond b (record { start = k; words = [] } ∷ cut (k + 1) ws) (cond d (record { start = k; words = without_last word ∷ [] } ∷ cut (k + 1) ws) (put_before k (word ∷ []) (cut (k + 1) ws))))
step_chosen true d c k word ws = ended_whole c c.open_part (k + 1) ws ∙ ap (λ w. c.done ++ record { start = c.open_part.start; words = w } ∷ cut (k + 1) ws) (sym (append-nil c.open_part.words))
step_chosen false true c k word ws = ended_whole c (with_word c.open_part (without_last word)) (k + 1) ws
step_chosen false false c k word ws = ap (λ ps. c.done ++ ps) (put_before-twice c.open_part.start k c.open_part.words (word ∷ []) (cut (k + 1) ws))

step : (c : Cutting) (k : ℕ) (word : Word) (ws : Words) → whole (one_word_more c word (k + 1)) (cut (k + 1) ws) ≡ whole c (cut k (word ∷ ws))
step c k word ws = step_chosen (bytes_eq word (codes ",")) (ends_with_comma word) c k word ws

-- one turn of the loop
pub turn : (c c' : Cutting) (i : ℕ) (word : Word) (ws : Words) → i < length ws → word ≡ get_or ws i word → c' ≡ one_word_more c word (i + 3) → whole c' (cut (2 + (i + 1)) (drop (i + 1) ws)) ≡ whole c (cut (2 + i) (drop i ws))
turn c c' i word ws h e same =
    let next : i + 3 ≡ (2 + i) + 1 = omega arith in
    let after : 2 + (i + 1) ≡ (2 + i) + 1 = omega arith in
    ap (λ d. whole d (cut (2 + (i + 1)) (drop (i + 1) ws))) (same ∙ ap (one_word_more c word) next)
    ∙ ap (λ n. whole (one_word_more c word ((2 + i) + 1)) (cut n (drop (i + 1) ws))) after
    ∙ step c (2 + i) word (drop (i + 1) ws)
    ∙ ap (λ v. whole c (cut (2 + i) v)) (ap (λ w. w ∷ drop (i + 1) ws) e ∙ ap (λ n. get_or ws i word ∷ drop n ws) (add-one i) ∙ sym (drop-cons ws i word h))

-- the end of the loop
pub all_cut : (c : Cutting) (i : ℕ) (ws : Words) → length ws ≤ i → whole c (cut (2 + i) (drop i ws)) ≡ c.done ++ c.open_part ∷ []
all_cut c i ws h =
    ap (λ v. whole c (cut (2 + i) v)) (drop_all i ws h) ∙ ap (λ w. c.done ++ record { start = c.open_part.start; words = w } ∷ []) (append-nil c.open_part.words)

-- the start of the loop
pub none_cut : (c : Cutting) (ws : Words) → c.done ≡ [] → c.open_part ≡ record { start = 2; words = [] } → whole c (cut 2 ws) ≡ cut 2 ws
none_cut c ws d o = ap (λ done. done ++ put_before c.open_part.start c.open_part.words (cut 2 ws)) d ∙ ap (λ (p : Part). put_before p.start p.words (cut 2 ws)) o ∙ cut-start 2 ws
