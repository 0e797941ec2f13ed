-- Plain trees of queries as lists, each node behind what it holds, for models whose value has such a tree in it.
use Rattle.std.specs.Prelude.{◌≡◌, ℕ, ◌==◌, List, [], ◌∷◌, Option, None, if◌then◌else◌, refl}
use Rattle.std.proofs.Common.{◌∙◌}
use Rattle.std.specs.Coded.{Coded, code_by, coded×, coded_ℕ, coded_list, coded_option}
use Rattle.deb_version.specs.declared.order.Relation.{Relation}
use Rattle.deb_version.specs.declared.order.Relation.TheVariants as relation
use Rattle.query_tree.specs.declared.query.Test.{Test}
use Rattle.query_tree.specs.declared.query.Test.TheVariants as test
use Rattle.query_tree.specs.Tree.{Tree, Trees, any, all, negated, reference, wanted, field, nil, cons}

abbrev relation_number : Relation → ℕ
relation_number relation.Earlier = 0
relation_number relation.EarlierEqual = 1
relation_number relation.Equal = 2
relation_number relation.LaterEqual = 3
relation_number relation.Later = 4

abbrev numbered_relation : ℕ → Relation
numbered_relation n =
    if n == 0 then relation.Earlier
    else if n == 1 then relation.EarlierEqual
    else if n == 2 then relation.Equal
    else if n == 3 then relation.LaterEqual
    else relation.Later

abbrev relation_again : (r : Relation) → numbered_relation (relation_number r) ≡ r
relation_again relation.Earlier = refl
relation_again relation.EarlierEqual = refl
relation_again relation.Equal = refl
relation_again relation.LaterEqual = refl
relation_again relation.Later = refl

abbrev test_number : Test → ℕ
test_number test.Equal = 0
test_number test.Less = 1
test_number test.LessEqual = 2
test_number test.GreaterEqual = 3
test_number test.Greater = 4
test_number test.Glob = 5
test_number test.Pattern = 6

abbrev numbered_test : ℕ → Test
numbered_test n =
    if n == 0 then test.Equal
    else if n == 1 then test.Less
    else if n == 2 then test.LessEqual
    else if n == 3 then test.GreaterEqual
    else if n == 4 then test.Greater
    else if n == 5 then test.Glob
    else test.Pattern

abbrev test_again : (t : Test) → numbered_test (test_number t) ≡ t
test_again test.Equal = refl
test_again test.Less = refl
test_again test.LessEqual = refl
test_again test.GreaterEqual = refl
test_again test.Greater = refl
test_again test.Glob = refl
test_again test.Pattern = refl

abbrev pub relation_code : Coded Relation
relation_code = code_by ℕ coded_ℕ relation_number numbered_relation relation_again

abbrev pub test_code : Coded Test
test_code = code_by ℕ coded_ℕ test_number numbered_test test_again

-- a node: which it is, its texts, and its relation, architecture or test
abbrev Item : Type 0
Item = ℕ × (List (List ℕ) × (Option (Relation × List ℕ) × (Option (List ℕ) × Option (Test × List ℕ))))

abbrev node : ℕ → Item
node tag = (tag, ([], (None, (None, None))))

abbrev mutual
  items : Tree → List Item → List Item
  items (any ts) rest = items_of ts (node 0 ∷ rest)
  items (all ts) rest = items_of ts (node 1 ∷ rest)
  items (negated t) rest = items t (node 2 ∷ rest)
  items (reference name version arch) rest = (3, (name ∷ version ∷ arch ∷ [], (None, (None, None)))) ∷ rest
  items (wanted name asked arch) rest = (4, (name ∷ [], (asked, (arch, None)))) ∷ rest
  items (field name how) rest = (5, (name ∷ [], (None, (None, how)))) ∷ rest

  items_of : Trees → List Item → List Item
  items_of nil rest = node 6 ∷ rest
  items_of (cons t ts) rest = items t (items_of ts (node 7 ∷ rest))

abbrev top : List Tree → Tree
top [] = any nil
top (t ∷ ts) = t

abbrev below : List Tree → List Tree
below [] = []
below (t ∷ ts) = ts

abbrev top_list : List Trees → Trees
top_list [] = nil
top_list (l ∷ ls) = l

abbrev below_list : List Trees → List Trees
below_list [] = []
below_list (l ∷ ls) = ls

abbrev first : List (List ℕ) → List ℕ
first [] = []
first (x ∷ xs) = x

abbrev others : List (List ℕ) → List (List ℕ)
others [] = []
others (x ∷ xs) = xs

abbrev run : List Item → List Tree → List Trees → Tree
run [] ts ls = top ts
run ((tag, (texts, (asked, (arch, how)))) ∷ is) ts ls =
    if tag == 0 then run is (any (top_list ls) ∷ ts) (below_list ls)
    else if tag == 1 then run is (all (top_list ls) ∷ ts) (below_list ls)
    else if tag == 2 then run is (negated (top ts) ∷ below ts) ls
    else if tag == 3 then run is (reference (first texts) (first (others texts)) (first (others (others texts))) ∷ ts) ls
    else if tag == 4 then run is (wanted (first texts) asked arch ∷ ts) ls
    else if tag == 5 then run is (field (first texts) how ∷ ts) ls
    else if tag == 6 then run is ts (nil ∷ ls)
    else run is (below ts) (cons (top ts) (top_list ls) ∷ below_list ls)

abbrev mutual
  run-items : (t : Tree) (rest : List Item) (ts : List Tree) (ls : List Trees) → run (items t rest) ts ls ≡ run rest (t ∷ ts) ls
  run-items (any us) rest ts ls = run-items_of us (node 0 ∷ rest) ts ls
  run-items (all us) rest ts ls = run-items_of us (node 1 ∷ rest) ts ls
  run-items (negated t) rest ts ls = run-items t (node 2 ∷ rest) ts ls
  run-items (reference name version arch) rest ts ls = refl
  run-items (wanted name asked arch) rest ts ls = refl
  run-items (field name how) rest ts ls = refl

  run-items_of : (us : Trees) (rest : List Item) (ts : List Tree) (ls : List Trees) → run (items_of us rest) ts ls ≡ run rest ts (us ∷ ls)
  run-items_of nil rest ts ls = refl
  run-items_of (cons t us) rest ts ls = run-items t (items_of us (node 7 ∷ rest)) ts ls ∙ run-items_of us (node 7 ∷ rest) (t ∷ ts) ls

abbrev item_code : Coded Item
item_code =
    coded× coded_ℕ (coded× (coded_list (coded_list coded_ℕ)) (coded× (coded_option (coded× relation_code (coded_list coded_ℕ))) (coded× (coded_option (coded_list coded_ℕ)) (coded_option (coded× test_code (coded_list coded_ℕ))))))

-- the code of a tree
abbrev pub tree_code : Coded Tree
tree_code = code_by (List Item) (coded_list item_code) (λ t. items t []) (λ is. run is [] []) (λ t. run-items t [] [] [])
