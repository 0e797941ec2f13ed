-- A list of commands, read part by part.
use Rattle.std.proofs.Common.{◌≡◌, ℕ, ◌+◌, ◌≤◌, ◌<◌, ◌^◌, suc, le-leb, Bool, true, false, cond, List, [], ◌∷◌, ◌++◌, map, length, take, drop, get_or, refl, sym, ap, ◌∙◌, subst, arith, inr, Option, Some, None, is_some, All, drop-cons}
use Rattle.std.proofs.lemmas.List.{take_more, take_all, length-take-le, take-append-drop, length-map, map-append, get_or-map}
use Rattle.std.proofs.lemmas.List.Elements.{All-cons, All-nil, All-head, All-tail, All-weaker}
use Rattle.std.specs.Prelude.{codes, option_map}
use Rattle.command_words.specs.declared.fault.WordFault.{WordFault}
use Rattle.command_words.specs.declared.fault.WordFault.TheVariants.{At, OutOfMemory}
use Rattle.std.specs.Str.{bytes_eq}
use Rattle.command_words.specs.declared.piece.Piece.{Piece}
use Rattle.command_words.specs.Commands.{Part, part, cut, put_before, ends_with_comma, without_last, with_first, each_spelled, listed, IsPlaceIn, IsPartFault, IsListFault}
use Rattle.command_words.specs.Fault.{IsAt, IsCommandFault}
use Rattle.command_value.specs.Plain.{Word, Words, PlainCommand}
use Rattle.command_words.specs.Spelled.{spelled, is_command}
use Rattle.command_words.proofs.Lifted.{longest_front, unreadable}
use Rattle.command_words.proofs.Parts.{cut-start}

pub place_in : (p : Part) (ws : Words) (place : ℕ) → ws ≡ p.words → IsCommandFault ws place → IsPlaceIn p (p.start + place)
place_in p ws place e fault =
    let P : Words → Type 0 = λ w. IsCommandFault w place in
    let f = subst P e fault in
    (unreadable p.words place f, (place, refl, longest_front p.words place f))

-- ---- one part more

some_first : (command : PlainCommand) (commands : List PlainCommand) (o : Option PlainCommand) (rest : Option (List PlainCommand)) → o ≡ Some command → rest ≡ Some commands → with_first o rest ≡ Some (command ∷ commands)
some_first command commands o rest e f = ap (λ p. with_first p rest) e ∙ ap (λ r. with_first (Some command) r) f

each-append : (xs ys : List Part) (done : List PlainCommand) → each_spelled xs ≡ Some done → each_spelled (xs ++ ys) ≡ option_map (λ more. done ++ more) (each_spelled ys)
each-append [] ys done h = nothing_before (each_spelled ys) done h where
  same : (o : Option (List PlainCommand)) → o ≡ option_map (λ more. more) o
  same None = refl
  same (Some commands) = refl

  nothing_before : (o : Option (List PlainCommand)) (done : List PlainCommand) → Some [] ≡ Some done → o ≡ option_map (λ more. done ++ more) o
  nothing_before o done e = let none : [] ≡ done = cc in same o ∙ ap (λ d. option_map (λ more. d ++ more) o) none
each-append (p ∷ xs) ys done h = chosen (spelled p.words) (each_spelled xs) refl h (each-append xs ys) where
  chosen : (o : Option PlainCommand) (rest : Option (List PlainCommand)) → each_spelled xs ≡ rest → with_first o rest ≡ Some done → ((d : List PlainCommand) → each_spelled xs ≡ Some d → each_spelled (xs ++ ys) ≡ option_map (λ more. d ++ more) (each_spelled ys)) → with_first o (each_spelled (xs ++ ys)) ≡ option_map (λ more. done ++ more) (each_spelled ys)
  chosen None rest e h ih = cc
  chosen (Some command) None e h ih = cc
  chosen (Some command) (Some d) e h ih =
      let whole : command ∷ d ≡ done = cc in
      ap (λ r. with_first (Some command) r) (ih d e) ∙ front (each_spelled ys) ∙ ap (λ w. option_map (λ more. w ++ more) (each_spelled ys)) whole
    where
      front : (o : Option (List PlainCommand)) → with_first (Some command) (option_map (λ more. d ++ more) o) ≡ option_map (λ more. (command ∷ d) ++ more) o
      front None = refl
      front (Some more) = refl

pub one_more : (pieces : List Piece) (i : ℕ) (piece : Piece) (done : List PlainCommand) (command : PlainCommand) → i < length pieces → piece ≡ get_or pieces i piece → each_spelled (map part (take i pieces)) ≡ Some done → spelled piece.words.items ≡ Some command → each_spelled (map part (take (i + 1) pieces)) ≡ Some (done ++ command ∷ [])
one_more pieces i piece done command h e before here =
    ap (λ ps. each_spelled (map part ps)) (take_more pieces i piece h ∙ ap (λ p. take i pieces ++ p ∷ []) (sym e))
    ∙ ap each_spelled (map-append part (take i pieces) (piece ∷ []))
    ∙ each-append (map part (take i pieces)) (part piece ∷ []) done before
    ∙ ap (option_map (λ more. done ++ more)) (some_first command [] (spelled piece.words.items) (Some []) here refl)

-- ---- the end

pub all_listed : (pieces : List Piece) (i : ℕ) (done : List PlainCommand) → length pieces ≤ i → i ≤ 1000 → i ≤ length pieces → each_spelled (map part (take i pieces)) ≡ Some done → listed (map part pieces) ≡ Some done
all_listed pieces i done h small within e =
    ap (λ b. cond b (each_spelled (map part pieces)) None) (le-leb (length (map part pieces)) 1000 (omega (arith, length-map pieces part)))
    ∙ ap (λ ps. each_spelled (map part ps)) (sym (take_all i pieces h)) ∙ e

-- ---- a fault

readable_each : (ps : List Part) (done : List PlainCommand) → each_spelled ps ≡ Some done → All (λ p. is_command p.words ≡ true) ps
readable_each [] done h = All-nil (λ p. is_command p.words ≡ true)
readable_each (p ∷ ps) done h = chosen (spelled p.words) (each_spelled ps) refl refl h (readable_each ps) where
  chosen : (o : Option PlainCommand) (rest : Option (List PlainCommand)) → spelled p.words ≡ o → each_spelled ps ≡ rest → with_first o rest ≡ Some done → ((d : List PlainCommand) → each_spelled ps ≡ Some d → All (λ p. is_command p.words ≡ true) ps) → All (λ p. is_command p.words ≡ true) (p ∷ ps)
  chosen None rest e f h ih = cc
  chosen (Some command) None e f h ih = cc
  chosen (Some command) (Some d) e f h ih = All-cons (λ p. is_command p.words ≡ true) p ps (ap is_some e) (ih d f)

pub list_fault : (pieces : List Piece) (i : ℕ) (piece : Piece) (done : List PlainCommand) (place : ℕ) → i < length pieces → piece ≡ get_or pieces i piece → each_spelled (map part (take i pieces)) ≡ Some done → IsPartFault i (part piece) place → IsListFault (map part pieces) place
list_fault pieces i piece done place h e before fault =
    let split = ap (map part) (sym (take-append-drop i pieces) ∙ ap (λ d. take i pieces ++ d) (drop-cons pieces i piece h ∙ ap (λ q. q ∷ drop (suc i) pieces) (sym e))) ∙ map-append part (take i pieces) (piece ∷ drop (suc i) pieces) in
    let len : i ≡ length (map part (take i pieces)) = omega (arith, length-map (take i pieces) part, length-take-le i pieces (omega arith)) in
    let P : ℕ → Type 0 = λ n. IsPartFault n (part piece) place in
    (map part (take i pieces), part piece, map part (drop (suc i) pieces), split, readable_each (map part (take i pieces)) done before, subst P len fault)

pub piece_fault : (pieces : List Piece) (i : ℕ) (piece : Piece) (done : List PlainCommand) → i < length pieces → piece ≡ get_or pieces i piece → i < 1000 → each_spelled (map part (take i pieces)) ≡ Some done → (y : WordFault) → IsAt (IsPlaceIn (part piece)) y → IsAt (IsListFault (map part pieces)) y
piece_fault pieces i piece done h e few before (At place) fault = list_fault pieces i piece done place h e before (inr (few, fault))
piece_fault pieces i piece done h e few before OutOfMemory fault = tt

pub at_piece : (P : Part → Type 0) (pieces : List Piece) (i : ℕ) (piece : Piece) → i < length pieces → piece ≡ get_or pieces i piece → All P (map part pieces) → P (part piece)
at_piece P pieces i piece h e all =
    subst P (get_or-map part pieces i piece (part piece) h ∙ ap part (sym e)) (all i (part piece) (omega (arith, length-map pieces part)))

-- ---- how far the parts reach

abbrev Reaches : ℕ → Part → Type 0
Reaches n p = p.start + length p.words ≤ n

start_of : List Part → ℕ
start_of [] = 0
start_of (p ∷ ps) = p.start

reaches_put : (k n : ℕ) (word : Word) (ps : List Part) → k + 1 ≤ n → put_before (k + 1) [] ps ≡ ps → All (Reaches n) ps → All (Reaches n) (put_before k (word ∷ []) ps)
unfolding start_of
reaches_put k n word [] small e h = h
reaches_put k n word (p ∷ ps) small e h =
    let begins : k + 1 ≡ p.start = ap start_of e in
    let first : Reaches n p = All-head (Reaches n) p ps h in
    All-cons (Reaches n) _ ps (omega arith) (All-tail (Reaches n) p ps h)

reaches_chosen : (b d : Bool) (k n : ℕ) (last word : Word) (ps : List Part) → k + 1 ≤ n → put_before (k + 1) [] ps ≡ ps → All (Reaches n) ps → All (Reaches n) (cond b (record { start = k; words = [] } ∷ ps) (cond d (record { start = k; words = last ∷ [] } ∷ ps) (put_before k (word ∷ []) ps)))
reaches_chosen true d k n last word ps small e h = All-cons (Reaches n) _ ps (omega arith) h
reaches_chosen false true k n last word ps small e h = All-cons (Reaches n) _ ps (omega arith) h
reaches_chosen false false k n last word ps small e h = reaches_put k n word ps small e h

reaches : (k n : ℕ) (ws : Words) → k + length ws ≤ n → All (Reaches n) (cut k ws)
reaches k n [] h = All-cons (Reaches n) _ [] (omega arith) (All-nil (Reaches n))
reaches k n (word ∷ ws) h =
    reaches_chosen (bytes_eq word (codes ",")) (ends_with_comma word) k n (without_last word) word (cut (k + 1) ws) (omega arith) (cut-start (k + 1) ws) (reaches (k + 1) n ws (omega arith))

pub parts_fit : (ws : Words) (pieces : List Piece) → length ws < 2 ^ 62 → map part pieces ≡ cut 2 ws → All (λ p. p.start + length p.words < 2 ^ 63) (map part pieces)
parts_fit ws pieces small e =
    let P : List Part → Type 0 = λ ps. All (λ p. p.start + length p.words < 2 ^ 63) ps in
    let all = reaches 2 (2 + length ws) ws (omega arith) in
    subst P (sym e) (All-weaker (Reaches (2 + length ws)) (λ p. p.start + length p.words < 2 ^ 63) (λ p h. omega arith) (cut 2 ws) all)
