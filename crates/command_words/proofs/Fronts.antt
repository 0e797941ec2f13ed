-- The fronts of the words after a verb: the flags and the arguments in them.
use Rattle.std.proofs.Common.{◌≡◌, ℕ, ◌+◌, ◌-◌, ◌<◌, ◌≤◌, suc, zero, Bool, true, false, ◌&&◌, cond, List, [], ◌∷◌, length, take, drop, refl, sym, ap, ◌∙◌, subst, arith, rules, min, le-leb}
use Rattle.std.proofs.Math.Bool.{and-true}
use Rattle.std.proofs.lemmas.List.{take-take, take_all, drop_all, drop-take, length-take, length-drop}
use Rattle.std.proofs.lemmas.List.Sums.{prefix_len-le-length}
use Rattle.std.proofs.lemmas.List.Folds.{length-prefix_len}
use Rattle.std.specs.List.{prefix_len}
use Rattle.std.specs.Prelude.{codes, Option}
use Rattle.std.specs.Str.{bytes_eq}
use Rattle.command_table.specs.declared.table.Arguments.{Arguments}
use Rattle.command_table.specs.declared.table.Arguments.TheVariants.{Between, AtLeast, Apart, Origin, Sources, Switched}
use Rattle.command_value.specs.Plain.{Words}
use Rattle.command_table.specs.Table.{RowRule}
use Rattle.command_table.specs.Flags.{is_flag, flags_stand, IsLongestStanding}
use Rattle.command_table.specs.Arguments.{arguments_begin, arguments_end, IsFirstFault, Judges}
use Rattle.command_words.specs.Spelled.{components_len, flags_of, after_flags, mark_len, arguments_of, row_begins, row_ends}

min-suc : (m n : ℕ) → min m n ≡ n → min (suc m) n ≡ n
min-suc m n h = omega arith

-- how far a test passes in a front
passed : (b : Bool) (n m k : ℕ) → m ≡ min n k → cond b (1 + m) 0 ≡ min (suc n) (cond b (1 + k) 0)
passed true n m k h = omega arith
passed false n m k h = omega arith

pub prefix_len-take : {X : Type 0} (p : X → Bool) (n : ℕ) (xs : List X) → prefix_len p (take n xs) ≡ min n (prefix_len p xs)
prefix_len-take p zero xs = omega arith
prefix_len-take p (suc n) [] = omega arith
prefix_len-take p (suc n) (x ∷ xs) = passed (p x) n (prefix_len p (take n xs)) (prefix_len p xs) (prefix_len-take p n xs)

pub arguments_begin-nil : (form : Arguments) (n : ℕ) → arguments_begin form n [] ≡ true
arguments_begin-nil (Between low high) n = le-leb 0 high (omega arith)
arguments_begin-nil (AtLeast low) n = refl
arguments_begin-nil Apart n = refl
arguments_begin-nil Origin n = refl
arguments_begin-nil Sources n = le-leb 0 (n + 1) (omega arith)
arguments_begin-nil Switched n = le-leb 0 (n + 2) (omega arith)

-- ---- a front in the flags

taken : (n m : ℕ) (ws : Words) → m ≡ n → take m (take n ws) ≡ take n ws
taken n m ws e = ap (λ k. take k (take n ws)) e ∙ take-take n n ws (omega arith)

pub flags_of-take : (n : ℕ) (ws : Words) → n ≤ prefix_len is_flag ws → flags_of (take n ws) ≡ take n (flags_of ws)
flags_of-take n ws h =
    let e : prefix_len is_flag (take n ws) ≡ n = omega (arith, prefix_len-take is_flag n ws) in
    taken n (prefix_len is_flag (take n ws)) ws e ∙ sym (take-take n (prefix_len is_flag ws) ws h)

pub after_flags-take : (n : ℕ) (ws : Words) → n ≤ prefix_len is_flag ws → after_flags (take n ws) ≡ []
after_flags-take n ws h = drop_all (prefix_len is_flag (take n ws)) (take n ws) (omega (arith, prefix_len-take is_flag n ws, length-take n ws))

joined : (row : RowRule) (flags flags' words : Words) → flags ≡ flags' → words ≡ [] → (flags_stand row.flags flags && arguments_begin row.arguments (components_len flags) words) ≡ flags_stand row.flags flags'
joined row flags flags' words e x =
    ap (λ f. flags_stand row.flags f && arguments_begin row.arguments (components_len f) words) e
    ∙ ap (λ y. flags_stand row.flags flags' && arguments_begin row.arguments (components_len flags') y) x
    ∙ ap (λ b. flags_stand row.flags flags' && b) (arguments_begin-nil row.arguments (components_len flags'))
    ∙ and-true (flags_stand row.flags flags')

pub row_begins-flags : (row : RowRule) (n : ℕ) (ws : Words) → n ≤ prefix_len is_flag ws → row_begins row (take n ws) ≡ flags_stand row.flags (take n (flags_of ws))
unfolding row_begins
row_begins-flags row n ws h =
    joined row (flags_of (take n ws)) (take n (flags_of ws)) (arguments_of (take n ws)) (flags_of-take n ws h) (ap (λ x. drop (mark_len x) x) (after_flags-take n ws h))

pub flags_fault : (row : RowRule) (ws : Words) (n : ℕ) → n < length (flags_of ws) → IsLongestStanding row.flags (flags_of ws) n → IsFirstFault (row_begins row) (row_ends row) ws n
flags_fault row ws n h standing =
    let len = length-prefix_len is_flag ws in
    let all = prefix_len-le-length is_flag ws in
    (omega arith, row_begins-flags row n ws (omega arith) ∙ standing.1, λ _. row_begins-flags row (n + 1) ws (omega arith) ∙ standing.2 h, λ e. absurd (omega arith))

-- ---- a front in the arguments

mark_at : (b : Bool) (p : ℕ) (word : List ℕ) (ws : Words) → bytes_eq word (codes "--") ≡ b → mark_len (take (cond b 1 0 + p) (word ∷ ws)) ≡ cond b 1 0
mark_at true p word ws e = let s : 1 + p ≡ suc p = omega arith in ap (λ n. mark_len (take n (word ∷ ws))) s ∙ ap (λ b. cond b 1 0) e
mark_at false zero word ws e = refl
mark_at false (suc p) word ws e = let s : 0 + suc p ≡ suc p = omega arith in ap (λ n. mark_len (take n (word ∷ ws))) s ∙ ap (λ b. cond b 1 0) e

pub mark_len-take : (p : ℕ) (ws : Words) → mark_len (take (mark_len ws + p) ws) ≡ mark_len ws
mark_len-take p [] = let s : 0 + p ≡ p = omega arith in ap (λ n. mark_len (take n [])) s ∙ nothing p where
  nothing : (n : ℕ) → mark_len (take n []) ≡ 0
  nothing zero = refl
  nothing (suc n) = refl
mark_len-take p (word ∷ ws) = mark_at (bytes_eq word (codes "--")) p word ws refl

pub mark_len-le : (ws : Words) → mark_len ws ≤ length ws
mark_len-le [] = omega arith
mark_len-le (word ∷ ws) = small (bytes_eq word (codes "--")) where
  small : (b : Bool) → cond b 1 0 ≤ suc (length ws)
  small true = omega arith
  small false = omega arith

pub flags_of-past : (n : ℕ) (ws : Words) → flags_of (take (prefix_len is_flag ws + n) ws) ≡ flags_of ws
flags_of-past n ws =
    let k = prefix_len is_flag ws in
    let e : prefix_len is_flag (take (k + n) ws) ≡ k = omega (arith, prefix_len-take is_flag (k + n) ws) in
    ap (λ m. take m (take (k + n) ws)) e ∙ take-take k (k + n) ws (omega arith)

pub after_flags-past : (n : ℕ) (ws : Words) → after_flags (take (prefix_len is_flag ws + n) ws) ≡ take n (after_flags ws)
after_flags-past n ws =
    let k = prefix_len is_flag ws in
    let e : prefix_len is_flag (take (k + n) ws) ≡ k = omega (arith, prefix_len-take is_flag (k + n) ws) in
    ap (λ m. drop m (take (k + n) ws)) e ∙ drop-take k n ws

pub arguments_of-past : (p : ℕ) (ws : Words) → arguments_of (take (prefix_len is_flag ws + (mark_len (after_flags ws) + p)) ws) ≡ take p (arguments_of ws)
arguments_of-past p ws =
    let x = after_flags ws in
    ap (λ y. drop (mark_len y) y) (after_flags-past (mark_len x + p) ws)
    ∙ ap (λ m. drop m (take (mark_len x + p) x)) (mark_len-take p x)
    ∙ drop-take (mark_len x) p x

pub row_begins-past : (row : RowRule) (p : ℕ) (ws : Words) → row_begins row (take (prefix_len is_flag ws + (mark_len (after_flags ws) + p)) ws) ≡ (flags_stand row.flags (flags_of ws) && arguments_begin row.arguments (components_len (flags_of ws)) (take p (arguments_of ws)))
unfolding row_begins
row_begins-past row p ws =
    let front = take (prefix_len is_flag ws + (mark_len (after_flags ws) + p)) ws in
    ap (λ f. flags_stand row.flags f && arguments_begin row.arguments (components_len f) (arguments_of front)) (flags_of-past (mark_len (after_flags ws) + p) ws)
    ∙ ap (λ a. flags_stand row.flags (flags_of ws) && arguments_begin row.arguments (components_len (flags_of ws)) a) (arguments_of-past p ws)

-- how many words the flags and the mark are
pub length-arguments_of : (ws : Words) → prefix_len is_flag ws + (mark_len (after_flags ws) + length (arguments_of ws)) ≡ length ws
length-arguments_of ws =
    let x = after_flags ws in
    omega (arith, length-drop (mark_len x) x, length-drop (prefix_len is_flag ws) ws, mark_len-le x, prefix_len-le-length is_flag ws)

pub row_begins-arguments : (row : RowRule) (ws : Words) (place p : ℕ) → flags_stand row.flags (flags_of ws) ≡ true → place ≡ length ws - length (arguments_of ws) + p → row_begins row (take place ws) ≡ arguments_begin row.arguments (components_len (flags_of ws)) (take p (arguments_of ws))
row_begins-arguments row ws place p stand e =
    let same : place ≡ prefix_len is_flag ws + (mark_len (after_flags ws) + p) = omega (arith, length-arguments_of ws) in
    ap (λ n. row_begins row (take n ws)) same ∙ row_begins-past row p ws ∙ ap (λ b. b && arguments_begin row.arguments (components_len (flags_of ws)) (take p (arguments_of ws))) stand

pub arguments_fault : (row : RowRule) (ws : Words) (p : ℕ) → flags_stand row.flags (flags_of ws) ≡ true → IsFirstFault (arguments_begin row.arguments (components_len (flags_of ws))) (arguments_end row.arguments (components_len (flags_of ws))) (arguments_of ws) p → IsFirstFault (row_begins row) (row_ends row) ws (length ws - length (arguments_of ws) + p)
unfolding row_ends
arguments_fault row ws p stand fault =
    let len = length-arguments_of ws in
    (omega (arith, fault.0), row_begins-arguments row ws _ p stand refl ∙ fault.1, λ h. row_begins-arguments row ws _ (p + 1) stand (omega arith) ∙ fault.2 (omega arith), λ e. fault.3 (omega (arith, fault.0)))

pub nothing_wrong : (row : RowRule) (ws : Words) → flags_stand row.flags (flags_of ws) ≡ true → arguments_begin row.arguments (components_len (flags_of ws)) (arguments_of ws) ≡ true → row_begins row ws ≡ true
unfolding row_begins
nothing_wrong row ws stand begins = ap (λ b. b && arguments_begin row.arguments (components_len (flags_of ws)) (arguments_of ws)) stand ∙ begins

pub all_stand : (rules : _) (flags : Words) (n : ℕ) → length flags ≤ n → IsLongestStanding rules flags n → flags_stand rules flags ≡ true
all_stand rules flags n h standing = ap (flags_stand rules) (sym (take_all n flags h)) ∙ standing.1

-- ---- the same for flags, arguments and a count that are equal to those of the words

pub flags_fault_at : (row : RowRule) (ws flags : Words) (n : ℕ) → flags ≡ flags_of ws → n < length flags → IsLongestStanding row.flags flags n → IsFirstFault (row_begins row) (row_ends row) ws n
flags_fault_at row ws flags n e =
    let P : Words → Type 0 = λ f. n < length f → IsLongestStanding row.flags f n → IsFirstFault (row_begins row) (row_ends row) ws n in
    subst P (sym e) (flags_fault row ws n)

pub all_stand_at : (row : RowRule) (ws flags : Words) (n : ℕ) → flags ≡ flags_of ws → length flags ≤ n → IsLongestStanding row.flags flags n → flags_stand row.flags (flags_of ws) ≡ true
all_stand_at row ws flags n e =
    let P : Words → Type 0 = λ f. length f ≤ n → IsLongestStanding row.flags f n → flags_stand row.flags (flags_of ws) ≡ true in
    subst P (sym e) (all_stand row.flags (flags_of ws) n)

pub judged : (row : RowRule) (ws flags words : Words) (n : ℕ) (r : Option ℕ) → flags ≡ flags_of ws → words ≡ arguments_of ws → n ≡ components_len flags → Judges (arguments_begin row.arguments n) (arguments_end row.arguments n) words r → Judges (arguments_begin row.arguments (components_len (flags_of ws))) (arguments_end row.arguments (components_len (flags_of ws))) (arguments_of ws) r
judged row ws flags words n r e x m h =
    let P : ℕ → Type 0 = λ k. Judges (arguments_begin row.arguments k) (arguments_end row.arguments k) (arguments_of ws) r in
    let Q : Words → Type 0 = λ w. Judges (arguments_begin row.arguments n) (arguments_end row.arguments n) w r in
    subst P (m ∙ ap components_len e) (subst Q x h)

pub arguments_fault_at : (row : RowRule) (ws words : Words) (p : ℕ) → words ≡ arguments_of ws → flags_stand row.flags (flags_of ws) ≡ true → IsFirstFault (arguments_begin row.arguments (components_len (flags_of ws))) (arguments_end row.arguments (components_len (flags_of ws))) (arguments_of ws) p → IsFirstFault (row_begins row) (row_ends row) ws (length ws - length words + p)
arguments_fault_at row ws words p x stand fault =
    let P : Words → Type 0 = λ w. IsFirstFault (row_begins row) (row_ends row) ws (length ws - length w + p) in
    subst P (sym x) (arguments_fault row ws p stand fault)

pub row_ends_at : (row : RowRule) (ws : Words) → arguments_end row.arguments (components_len (flags_of ws)) (arguments_of ws) ≡ true → row_ends row ws ≡ true
unfolding row_ends
row_ends_at row ws h = h

pub mark_len-small : (ws : Words) → mark_len ws ≤ 1
mark_len-small [] = omega arith
mark_len-small (word ∷ ws) = small (bytes_eq word (codes "--")) where
  small : (b : Bool) → cond b 1 0 ≤ 1
  small true = omega arith
  small false = omega arith
