-- Queries as plain trees, which is what contracts see of them.
use Rattle.std.specs.Prelude.{ℕ, List, [], ◌∷◌, map, Option}
use Rattle.deb_version.specs.declared.order.Relation.{Relation}
use Rattle.query_tree.specs.declared.query.Test.{Test}
use Rattle.query_tree.specs.declared.query.Query.{Query}
use Rattle.query_tree.specs.declared.query.Query.TheOpen.{Query-F, Any, All, Not, Reference, Wanted, Field}
use Rattle.query_tree.specs.declared.query.Query.TheFolds.{fold-Query}

mutual
  -- a query; names, versions, architectures and texts are their bytes
  pub data Tree : Type 0 where
    any : Trees → Tree
    all : Trees → Tree
    negated : Tree → Tree
    reference : List ℕ → List ℕ → List ℕ → Tree
    wanted : List ℕ → Option (Relation × List ℕ) → Option (List ℕ) → Tree
    field : List ℕ → Option (Test × List ℕ) → Tree

  -- a list of queries
  pub data Trees : Type 0 where
    nil : Trees
    cons : Tree → Trees → Trees

abbrev pub listed : List Tree → Trees
listed [] = nil
listed (t ∷ ts) = cons t (listed ts)

abbrev pub node_tree : Query-F Tree → Tree
node_tree (Any queries) = any (listed queries.items)
node_tree (All queries) = all (listed queries.items)
node_tree (Not query) = negated query.value
node_tree (Reference name version arch) = reference name version arch
node_tree (Wanted name relation arch) = wanted name relation arch
node_tree (Field name test) = field name test

-- the tree of a query
abbrev pub plain : Query → Tree
plain = fold-Query Tree node_tree

abbrev pub plains : List Query → List Tree
plains queries = map plain queries
