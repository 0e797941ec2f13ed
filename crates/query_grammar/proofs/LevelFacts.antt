-- An `all` or an `any` with one member is that member.
use Rattle.std.proofs.Common.{◌≡◌, ℕ, suc, zero, ◌-◌, ◌<◌, ◌==◌, cond, List, [], ◌∷◌, ◌++◌, length, map, reverse, refl, sym, ap, ◌∙◌, arith}
use Rattle.std.proofs.lemmas.List.{map-append, reverse-append}
use Rattle.std.proofs.Math.Dec.{eqb-suc-zero}
use Rattle.query_grammar.specs.declared.level.Level as declared
use Rattle.query_grammar.specs.declared.level.Next.TheVariants.{Wanting}
use Rattle.query_grammar.specs.declared.fault.QueryKind.TheVariants.{Trailing, WantClose, TooDeep}
use Rattle.query_grammar.specs.Reading.{Level, goes, stops, after_whole, begin_negation, begin_group, negated_level, empty_level, tree, fault, finish_having, whole_level}
use Rattle.query_grammar.specs.Views.{level_view, outer_view}
use Rattle.query_tree.specs.Tree.{Tree, listed, any, all}
use Rattle.query_tree.specs.Grammar.{all_of, any_of}

pub all_one : (ts : List Tree) (t : Tree) → ts ≡ t ∷ [] → t ≡ all_of ts
all_one ts t e = ap all_of (sym e)

pub any_one : (ts : List Tree) (t : Tree) → ts ≡ t ∷ [] → t ≡ any_of ts
any_one ts t e = ap any_of (sym e)

pub all_many : (ts : List Tree) → (length ts ≡ 1 → ⊥) → all (listed ts) ≡ all_of ts
all_many [] h = refl
all_many (t ∷ []) h = absurd (h refl)
all_many (t ∷ u ∷ ts) h = refl

pub any_many : (ts : List Tree) → (length ts ≡ 1 → ⊥) → any (listed ts) ≡ any_of ts
any_many [] h = refl
any_many (t ∷ []) h = absurd (h refl)
any_many (t ∷ u ∷ ts) h = refl

-- the groups around, the innermost first
pub outer_view_push : (ls : List declared.Level) (l : declared.Level) → outer_view (ls ++ l ∷ []) ≡ level_view l ∷ outer_view ls
outer_view_push ls l = ap reverse (map-append level_view ls (l ∷ [])) ∙ reverse-append (map level_view ls) (level_view l ∷ [])

after_whole-push : (ls : List Level) (l : Level) → after_whole (ls ++ l ∷ []) ≡ WantClose
after_whole-push [] l = refl
after_whole-push (k ∷ ks) l = refl

pub after_whole_outer : (ls : List declared.Level) → after_whole (outer_view ls) ≡ cond (length ls == 0) Trailing WantClose
after_whole_outer [] = refl
after_whole_outer (l ∷ ls) =
    ap after_whole (reverse-append (level_view l ∷ []) (map level_view ls)) ∙ after_whole-push (outer_view ls) (level_view l)
    ∙ ap (λ b. cond b Trailing WantClose) (sym (eqb-suc-zero (length ls)))

-- a level more
pub negation_fits : (outer : List Level) (l : Level) → 0 < l.room → begin_negation outer l l.room ≡ goes (record { outer = outer; level = negated_level l; next = Wanting })
negation_fits outer l h = go l.room h
  where
    go : (n : ℕ) → 0 < n → begin_negation outer l n ≡ goes (record { outer = outer; level = record { alternatives = l.alternatives; members = l.members; negations = suc l.negations; room = n - 1 }; next = Wanting })
    go zero h = absurd (omega arith)
    go (suc n) h =
        let e : n ≡ suc n - 1 = omega arith in
        ap (λ r. goes (record { outer = outer; level = record { alternatives = l.alternatives; members = l.members; negations = suc l.negations; room = r }; next = Wanting })) e

pub group_fits : (outer : List Level) (l : Level) → 0 < l.room → begin_group outer l l.room ≡ goes (record { outer = l ∷ outer; level = empty_level (l.room - 1); next = Wanting })
group_fits outer l h = go l.room h
  where
    go : (n : ℕ) → 0 < n → begin_group outer l n ≡ goes (record { outer = l ∷ outer; level = empty_level (n - 1); next = Wanting })
    go zero h = absurd (omega arith)
    go (suc n) h =
        let e : n ≡ suc n - 1 = omega arith in
        ap (λ r. goes (record { outer = l ∷ outer; level = empty_level r; next = Wanting })) e

pub no_room_to_negate : (outer : List Level) (l : Level) → l.room ≡ 0 → begin_negation outer l l.room ≡ stops TooDeep
no_room_to_negate outer l e = ap (λ n. begin_negation outer l n) e

pub no_room_to_group : (outer : List Level) (l : Level) → l.room ≡ 0 → begin_group outer l l.room ≡ stops TooDeep
no_room_to_group outer l e = ap (λ n. begin_group outer l n) e

-- the end of the text behind a whole member
finish_push : (at : ℕ) (ls : List Level) (l inner : Level) → finish_having at (ls ++ l ∷ []) inner ≡ fault at WantClose
finish_push at [] l inner = refl
finish_push at (k ∷ ks) l inner = refl

pub finish_outer : (at : ℕ) (ls : List declared.Level) (inner : Level) → finish_having at (outer_view ls) inner ≡ cond (length ls == 0) (tree (whole_level inner)) (fault at WantClose)
finish_outer at [] inner = refl
finish_outer at (l ∷ ls) inner =
    ap (λ os. finish_having at os inner) (reverse-append (level_view l ∷ []) (map level_view ls)) ∙ finish_push at (outer_view ls) (level_view l) inner
    ∙ ap (λ b. cond b (tree (whole_level inner)) (fault at WantClose)) (sym (eqb-suc-zero (length ls)))
