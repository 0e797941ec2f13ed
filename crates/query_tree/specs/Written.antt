-- How a query is written.
use Rattle.std.specs.Prelude.{ℕ, Bool, true, false, not, ◌&&◌, ◌||◌, ◌==◌, List, [], ◌∷◌, ◌++◌, Option, Some, None, codes, if◌then◌else◌}
use Rattle.std.specs.List.{list_all}
use Rattle.deb_version.specs.VersionOrder.{operator}
use Rattle.deb_version.specs.declared.order.Relation.{Relation}
use Rattle.deb_version.specs.declared.order.Relation.TheVariants.{Earlier, EarlierEqual, LaterEqual, Later}
use Rattle.deb_version.specs.declared.order.Relation.TheVariants as relation
use Rattle.query_tree.specs.declared.query.Test.{Test}
use Rattle.query_tree.specs.declared.query.Test.TheVariants.{Less, LessEqual, GreaterEqual, Greater, Glob, Pattern}
use Rattle.query_tree.specs.declared.query.Test.TheVariants as test
use Rattle.query_tree.specs.Tree.{Tree, Trees, any, all, negated, reference, wanted, field, nil, cons}
use Rattle.query_tree.specs.Pieces.{is_word, is_control}

-- how each test is written: a comparing one by the operator of its relation
abbrev pub test_text : Test → List ℕ
test_text test.Equal = operator relation.Equal
test_text Less = operator Earlier
test_text LessEqual = operator EarlierEqual
test_text GreaterEqual = operator LaterEqual
test_text Greater = operator Later
test_text Glob = codes "%"
test_text Pattern = codes "~"

-- the test whose operator asks for the relation
abbrev pub test_of : Relation → Test
test_of Earlier = Less
test_of EarlierEqual = LessEqual
test_of relation.Equal = test.Equal
test_of LaterEqual = GreaterEqual
test_of Later = Greater

abbrev pub is_none : List ℕ → Bool
is_none [] = true
is_none (c ∷ cs) = false

abbrev pub is_plain_character : ℕ → Bool
is_plain_character c = is_word c && not (c == 92)

-- one or more word characters without a backslash
unfoldable pub is_plain : List ℕ → Bool
is_plain value = not (is_none value) && list_all is_plain_character value

-- a backslash before each `"` and each backslash
abbrev pub escaped : List ℕ → List ℕ
escaped [] = []
escaped (c ∷ cs) = if c == 34 || c == 92 then 92 ∷ c ∷ escaped cs else c ∷ escaped cs

unfoldable pub value_text : List ℕ → List ℕ
value_text value = if is_plain value then value else 34 ∷ (escaped value ++ 34 ∷ [])

-- ` (op value)`
abbrev pub tested_text : Test → List ℕ → List ℕ
tested_text how value = 32 ∷ 40 ∷ (test_text how ++ 32 ∷ (value ++ 41 ∷ []))

abbrev pub relation_text : Option (Relation × List ℕ) → List ℕ
relation_text None = []
relation_text (Some (asked, version)) = tested_text (test_of asked) version

-- ` {arch}`
abbrev pub arch_text : Option (List ℕ) → List ℕ
arch_text None = []
arch_text (Some arch) = 32 ∷ 123 ∷ (arch ++ 125 ∷ [])

abbrev pub field_text : Option (Test × List ℕ) → List ℕ
field_text None = []
field_text (Some (how, value)) = tested_text how (value_text value)

abbrev pub is_any : Tree → Bool
is_any (any ts) = true
is_any t = false

abbrev pub is_all : Tree → Bool
is_all (all ts) = true
is_all t = false

abbrev pub in_parentheses : Bool → List ℕ → List ℕ
in_parentheses true text = 40 ∷ (text ++ 41 ∷ [])
in_parentheses false text = text

abbrev mutual
  -- Members of an `any` are joined by ` | `, those of an `all` by `, `. Parentheses stand round an `any` in an `any`,
  -- an `all` or behind a `!`, and round an `all` in an `all` or behind a `!`.
  pub written : Tree → List ℕ
  written (any ts) = alternatives ts
  written (all ts) = members ts
  written (negated t) = 33 ∷ in_parentheses (is_any t || is_all t) (written t)
  written (reference name version arch) = name ++ 95 ∷ (version ++ 95 ∷ arch)
  written (wanted name asked arch) = name ++ (relation_text asked ++ arch_text arch)
  written (field name how) = name ++ field_text how

  pub alternatives : Trees → List ℕ
  alternatives nil = []
  alternatives (cons t ts) = in_parentheses (is_any t) (written t) ++ more_alternatives ts

  pub more_alternatives : Trees → List ℕ
  more_alternatives nil = []
  more_alternatives (cons t ts) = 32 ∷ 124 ∷ 32 ∷ (in_parentheses (is_any t) (written t) ++ more_alternatives ts)

  pub members : Trees → List ℕ
  members nil = []
  members (cons t ts) = in_parentheses (is_any t || is_all t) (written t) ++ more_members ts

  pub more_members : Trees → List ℕ
  more_members nil = []
  more_members (cons t ts) = 44 ∷ 32 ∷ (in_parentheses (is_any t || is_all t) (written t) ++ more_members ts)

-- no control character stands in it, so it is one line
abbrev pub is_one_line : List ℕ → Bool
is_one_line text = list_all (λ c. not (is_control c)) text
