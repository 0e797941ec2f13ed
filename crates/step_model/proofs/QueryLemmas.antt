-- The queries of a command, one after another.
use Rattle.std.proofs.Common.{◌≡◌, ℕ, ◌+◌, ◌<◌, ◌||◌, List, [], ◌∷◌, ◌++◌, length, Option, Some, Ok, Err, refl, sym, ap, ◌∙◌, map, take, drop, get_or}
use Rattle.std.specs.List.{filter, list_any}
use Rattle.std.proofs.lemmas.List.{map-append, take_more}
use Rattle.query_tree.specs.declared.query.Query.{Query}
use Rattle.query_tree.specs.Tree.{Tree, plain, plains}
use Rattle.query_grammar.specs.Said.{query_of}
use Rattle.machine_state.specs.declared.refusal.Refusal.{Refusal}
use Rattle.machine_state.specs.declared.refusal.Refusal.TheVariants.{BadQuery}
use Rattle.package_core.specs.Card.{Card}
use Rattle.step_model.specs.Case.{bad_query, bad_behind}
use Rattle.step_model.specs.Queries.{chosen, is_true_of, some_true}

pub bad_place : (text : List ℕ) (number place : ℕ) → query_of text ≡ Err place → bad_query number (query_of text) ≡ Some (BadQuery number place)
bad_place text number place e = ap (bad_query number) e

-- the first bad query of those from one on
abbrev pub bad_from : List (List ℕ) → ℕ → Option Refusal
bad_from texts i = bad_behind i (map query_of (drop i texts))

pub prepared_next : (trees more : List Tree) (queries : List Query) (query : Query) (tree : Tree) (i : ℕ) → i < length queries → query ≡ get_or queries i query → trees ≡ plains (take i queries) → tree ≡ plain query → more ≡ trees ++ tree ∷ [] → more ≡ plains (take (i + 1) queries)
prepared_next trees more queries query tree i h e before same pushed =
    pushed ∙ ap (λ (l : List Tree). l ++ tree ∷ []) before ∙ ap (λ (t : Tree). plains (take i queries) ++ t ∷ []) (same ∙ ap plain e)
    ∙ sym (map-append plain (take i queries) (get_or queries i query ∷ []))
    ∙ ap plains (sym (take_more queries i query h))

-- ---- what queries find

-- some text of a query is true, where some tree is
some_is : (queries : List (List ℕ)) (trees : List Tree) (p : Card) → map query_of queries ≡ map Ok trees → list_any (λ text. is_true_of (query_of text) p) queries ≡ some_true trees p
some_is [] [] p e = refl
some_is [] (t ∷ ts) p e = cc
some_is (q ∷ qs) [] p e = cc
some_is (q ∷ qs) (t ∷ ts) p e =
    let first : query_of q ≡ Ok t = cc in
    let rest : map query_of qs ≡ map Ok ts = cc in
    (λ i. is_true_of (first i) p || some_is qs ts p rest i)

pub chosen_is : (list : List Card) (queries : List (List ℕ)) (trees : List Tree) → map query_of queries ≡ map Ok trees → chosen list queries ≡ filter (some_true trees) list
chosen_is list queries trees e = (λ i. filter (λ p. some_is queries trees p e i) list)
