-- The grammar of queries, as a relation between tokens and the tree that they spell (aptly manual,
-- package query syntax).
use Rattle.std.specs.Prelude.{◌≡◌, ℕ, suc, zero, ◌⊎◌, List, [], ◌∷◌, ◌++◌, Option, Some, None, IsTrue}
use Rattle.ap_text.specs.Names.{is_architecture}
use Rattle.deb_version.specs.VersionText.{is_version}
use Rattle.deb_version.specs.declared.order.Relation.{Relation}
use Rattle.deb_version.specs.declared.order.Relation.TheVariants as relation
use Rattle.query_tree.specs.declared.query.Test.{Test}
use Rattle.query_tree.specs.declared.query.Test.TheVariants as test
use Rattle.query_tree.specs.Tree.{Tree, listed, any, all, negated, reference, wanted, field}
use Rattle.query_tree.specs.Pieces.{Token, word, operator, quoted, mark, pieces, tokens}
use Rattle.query_tree.specs.Words.{IsReference, is_package, is_field, relation_of, may_test}

-- `( [op] version )` or nothing; without op `=` is meant
abbrev pub Related : List Token → Option (Relation × List ℕ) → Type 0
Related ps None = ps ≡ []
Related ps (Some (asked, version)) =
    IsTrue (is_version version)
    × ((asked ≡ relation.Equal) × (ps ≡ mark 40 ∷ word version ∷ mark 41 ∷ [])
    ⊎ (how : Test) × (relation_of how ≡ Some asked) × (ps ≡ mark 40 ∷ operator how ∷ word version ∷ mark 41 ∷ []))

-- `{ arch }` or nothing
abbrev pub Bound : List Token → Option (List ℕ) → Type 0
Bound ps None = ps ≡ []
Bound ps (Some arch) = IsTrue (is_architecture arch) × (ps ≡ mark 123 ∷ word arch ∷ mark 125 ∷ [])

-- a run of word characters, or a quoted value
abbrev pub IsValue : Token → List ℕ → Type 0
IsValue p value = (p ≡ word value) ⊎ (p ≡ quoted value)

-- `( [test] value )` or nothing; without test `=` is meant
abbrev pub Tested : List ℕ → List Token → Option (Test × List ℕ) → Type 0
Tested name ps None = ps ≡ []
Tested name ps (Some (how, value)) =
    IsTrue (may_test name how value)
    × (p : Token) × IsValue p value
    × ((how ≡ test.Equal) × (ps ≡ mark 40 ∷ p ∷ mark 41 ∷ [])
    ⊎ (ps ≡ mark 40 ∷ operator how ∷ p ∷ mark 41 ∷ []))

-- a reference, a wanted package or a field
abbrev pub Term : List Token → Tree → Type 0
Term ps (reference name version arch) = (text : List ℕ) × IsReference text name version arch × (ps ≡ word text ∷ [])
Term ps (wanted name asked arch) =
    IsTrue (is_package name)
    × (front : List Token) × (back : List Token) × Related front asked × Bound back arch × (ps ≡ word name ∷ (front ++ back))
Term ps (field name how) = IsTrue (is_field name) × (rest : List Token) × Tested name rest how × (ps ≡ word name ∷ rest)
Term ps (any ts) = ⊥
Term ps (all ts) = ⊥
Term ps (negated t) = ⊥

-- items that are each followed by a mark
abbrev pub Followed : ℕ → (List Token → Tree → Type 0) → List Token → List Tree → Type 0
Followed c Item ps [] = ps ≡ []
Followed c Item ps (t ∷ ts) = (front : List Token) × (rest : List Token) × (ps ≡ front ++ mark c ∷ rest) × Item front t × Followed c Item rest ts

-- one or more items with a mark between each two
pub record Between (c : ℕ) (Item : List Token → Tree → Type 0) (ps : List Token) (ts : List Tree) : Type 0 where
  pub front : List Token
  pub last : List Token
  pub firsts : List Tree
  pub final : Tree
  pub split : ps ≡ front ++ last
  pub trees : ts ≡ firsts ++ final ∷ []
  pub each : Followed c Item front firsts
  pub end : Item last final

-- an `all` or an `any` with one member is that member
abbrev pub all_of : List Tree → Tree
all_of [] = all (listed [])
all_of (t ∷ []) = t
all_of (t ∷ u ∷ ts) = all (listed (t ∷ u ∷ ts))

abbrev pub any_of : List Tree → Tree
any_of [] = any (listed [])
any_of (t ∷ []) = t
any_of (t ∷ u ∷ ts) = any (listed (t ∷ u ∷ ts))

-- all = one { "," one }
abbrev pub AllOf : (List Token → Tree → Type 0) → List Token → Tree → Type 0
AllOf One ps t = (ts : List Tree) × Between 44 One ps ts × (t ≡ all_of ts)

-- any = all { "|" all }
abbrev pub AnyOf : (List Token → Tree → Type 0) → List Token → Tree → Type 0
AnyOf One ps t = (ts : List Tree) × Between 124 (AllOf One) ps ts × (t ≡ any_of ts)

-- "!" one
abbrev pub Negated : (List Token → Tree → Type 0) → List Token → Tree → Type 0
Negated One ps t = (rest : List Token) × (u : Tree) × (ps ≡ mark 33 ∷ rest) × (t ≡ negated u) × One rest u

-- "(" any ")"
abbrev pub Grouped : (List Token → Tree → Type 0) → List Token → Tree → Type 0
Grouped One ps t = (inner : List Token) × (ps ≡ mark 40 ∷ (inner ++ mark 41 ∷ [])) × AnyOf One inner t

-- one = "!" one | "(" any ")" | term, in at most so many levels, each of which is one `!` or one `(`
abbrev pub One : ℕ → List Token → Tree → Type 0
One zero ps t = Term ps t
One (suc n) ps t = Term ps t ⊎ (Negated (One n) ps t ⊎ Grouped (One n) ps t)

-- the text spells the tree, in at most so many levels
unfoldable pub QueryText : ℕ → List ℕ → Tree → Type 0
QueryText levels text t = AnyOf (One levels) (tokens (pieces text)) t
