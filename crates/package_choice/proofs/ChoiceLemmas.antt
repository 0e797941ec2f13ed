-- What is chosen of a list.
use Rattle.std.proofs.Common.{◌≡◌, ℕ, List, [], ◌∷◌, ◌++◌, Bool, true, false, Option, Some, None, Ok, refl, sym, subst, map}
use Rattle.std.specs.List.{filter, list_any}
use Rattle.query_tree.specs.Tree.{Tree}
use Rattle.query_grammar.specs.Said.{query_of}
use Rattle.command_value.specs.Plain.{PlainFollow}
use Rattle.machine_state.specs.declared.refusal.Refusal.TheVariants.{BadName}
use Rattle.package_core.specs.Card.{Card}
use Rattle.package_list.specs.Lists.{has_member}
use Rattle.depend_pull.specs.Pull.{following, taken_in_turn}
use Rattle.step_model.specs.Queries.{is_true_of}
use Rattle.step_model.proofs.OwnLemmas.{Own, own_else, own_if}
use Rattle.package_choice.specs.Choice.{archs_for, bad_arch, bad_archs, bad_follow, bad_written, chosen_with, flags_of, is_listed_arch, tree_in, trees_of}

-- the trees of texts that are queries
pub trees_are : (texts : List (List ℕ)) (trees : List Tree) → map query_of texts ≡ map Ok trees → trees_of texts ≡ trees
trees_are [] [] e = refl
trees_are [] (t ∷ ts) e = cc
trees_are (q ∷ qs) [] e = cc
trees_are (q ∷ qs) (t ∷ ts) e =
    let first : query_of q ≡ Ok t = cc in
    let rest : map query_of qs ≡ map Ok ts = cc in
    (λ i. tree_in (first i) ++ trees_are qs ts rest i)

-- what is chosen are the members that pass some test
pub of_the_list : (deps : Bool) (follow : PlainFollow) (list : List Card) (queries : List (List ℕ)) → (test : Card → Bool) × (chosen_with deps follow list queries ≡ filter test list)
of_the_list false follow list queries = ((λ p. list_any (λ text. is_true_of (query_of text) p) queries), refl)
of_the_list true follow list queries = (has_member (taken_in_turn (following (flags_of follow)) (archs_for follow.architectures list) [] list (trees_of queries)), refl)

-- so that what holds of each such list holds of what is chosen
pub kept_for : (P : List Card → Type 0) (deps : Bool) (follow : PlainFollow) (list : List Card) (queries : List (List ℕ)) → ((test : Card → Bool) → P (filter test list)) → P (chosen_with deps follow list queries)
kept_for P deps follow list queries h =
    let chose = of_the_list deps follow list queries in
    subst P (sym chose.1) (h chose.0)

-- ---- architectures that are refused

own_archs : (texts : List (List ℕ)) → Own (bad_archs texts)
own_archs [] = tt
own_archs (text ∷ texts) = own_else (bad_arch text) (bad_archs texts) (own_if (is_listed_arch text) None (Some (BadName text)) tt tt) (own_archs texts)

own_written : (texts : Option (List (List ℕ))) → Own (bad_written texts)
own_written None = tt
own_written (Some texts) = own_archs texts

-- each such refusal is the command's own
pub own_follow : (follow : PlainFollow) → Own (bad_follow follow)
own_follow follow = own_written follow.architectures
