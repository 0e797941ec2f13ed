-- The values of the lines of a mirror.
use Rattle.std.proofs.Common.{◌≡◌, inl, inr, ℕ, zero, suc, List, [], ◌∷◌, ◌++◌, Option, Some, None, IsTrue, refl, sym, ap, subst}
use Rattle.std.specs.Str.{IsUtf8}
use Rattle.query_tree.specs.Tree.{Tree, any, all, negated, reference, wanted, field}
use Rattle.query_tree.specs.Pieces.{Token, pieces}
use Rattle.query_tree.specs.Grammar.{Term, One, AllOf, AnyOf, QueryText}
use Rattle.query_tree.specs.Written.{written, is_one_line}
use Rattle.query_tree.proofs.Kept.{written_line, written_text}
use Rattle.query_tree.proofs.Round.{written_again}
use Rattle.query_grammar.proofs.Said.{one_tree}
use Rattle.machine_state.specs.Texts.{IsFilter}
use Rattle.machine_state.specs.Words.{filter_text}
use Rattle.catalogue_text.specs.MirrorReading.{IsChoice}

-- ---- filters
pub spells : (text : List ℕ) (t : Tree) → IsFilter t → text ≡ written t → QueryText 64 text t
spells text t f e = subst (λ (x : List ℕ). QueryText 64 x t) (sym e) (written_again 64 f.0 t f.2)

pub filter_utf8 : (t : Tree) → IsFilter t → IsUtf8 (written t)
filter_utf8 t f = written_text 64 f.0 t f.1 f.2

pub filter_is_line : (t : Tree) → IsFilter t → IsTrue (is_one_line (written t))
filter_is_line t f = written_line 64 f.0 t f.2

-- an empty text spells nothing
no_last : {X : Type 0} (xs ys : List X) → [] ≡ xs ++ ys → ys ≡ []
no_last [] ys e = sym e
no_last (x ∷ xs) ys e = cc

no_term : (t : Tree) → Term [] t → ⊥
no_term (any ts) h = h
no_term (all ts) h = h
no_term (negated t) h = h
no_term (reference name version arch) h = let e = h.2 in cc
no_term (wanted name asked arch) h = let e = h.5 in cc
no_term (field name how) h = let e = h.3 in cc

no_one : (n : ℕ) (t : Tree) → One n [] t → ⊥
no_one zero t h = no_term t h
no_one (suc n) t h = elim h [ inl k ↦ no_term t k | inr k ↦ elim k [ inl m ↦ (let e = m.2 in cc) | inr m ↦ (let e = m.1 in cc) ] ]

no_all : (n : ℕ) (t : Tree) → AllOf (One n) [] t → ⊥
no_all n t h = let b = h.1 in no_one n b.final (subst (λ (ps : List Token). One n ps b.final) (no_last b.front b.last b.split) b.end)

no_any : (n : ℕ) (t : Tree) → AnyOf (One n) [] t → ⊥
no_any n t h = let b = h.1 in no_all n b.final (subst (λ (ps : List Token). AllOf (One n) ps b.final) (no_last b.front b.last b.split) b.end)

no_query : (n : ℕ) (t : Tree) → QueryText n [] t → ⊥
unfolding QueryText pieces
no_query n t h = no_any n t h

pub written_some : (t : Tree) → IsFilter t → written t ≡ [] → ⊥
written_some t f e = no_query 64 t (spells [] t f (sym e))

pub no_choice : (value : List ℕ) → (IsUtf8 value → ⊥) → (value ≡ [] → ⊥) → (filter : Option Tree) → IsChoice filter → value ≡ filter_text filter → ⊥
no_choice value h some None g e = some e
no_choice value h some (Some t) g e = h (subst IsUtf8 (sym e) (filter_utf8 t g))

pub filters_apart : (a b : Option Tree) → IsChoice a → IsChoice b → filter_text a ≡ filter_text b → a ≡ b
filters_apart None None g h e = refl
filters_apart None (Some u) g h e = absurd (written_some u h (sym e))
filters_apart (Some t) None g h e = absurd (written_some t g e)
filters_apart (Some t) (Some u) g h e =
    ap Some (one_tree 64 64 (written t) t u (written_again 64 g.0 t g.2) (spells (written t) u h e))
