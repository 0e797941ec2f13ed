-- What queries choose of a list, with what that depends on where it is asked for.
use Rattle.std.specs.Prelude.{ℕ, ◌&&◌, Bool, true, false, not, List, [], ◌∷◌, map, codes, bytes_eq, Option, Some, None, Result, Ok, Err, unwrap_or, if◌then◌else◌}
use Rattle.std.specs.List.{filter, flat_map}
use Rattle.ap_text.specs.Names.{is_architecture}
use Rattle.package_core.specs.Card.{Card}
use Rattle.package_core.specs.Order.{text_cmp}
use Rattle.package_list.specs.Sorted.{union}
use Rattle.query_tree.specs.Tree.{Tree}
use Rattle.query_grammar.specs.Said.{query_of}
use Rattle.command_value.specs.Plain.{PlainFollow}
use Rattle.depend_pull.specs.declared.flags.PullFlags.{PullFlags}
use Rattle.depend_pull.specs.Pull.{with_what_it_needs}
use Rattle.machine_state.specs.declared.refusal.Refusal.{Refusal}
use Rattle.machine_state.specs.declared.refusal.Refusal.TheVariants.{BadName}
use Rattle.step_model.specs.Case.{or_else}
use Rattle.step_model.specs.Queries.{chosen}

-- ---- architectures

-- the architecture of what fits all of them
abbrev pub all_archs : List ℕ
all_archs = codes "all"

-- an architecture that can be listed: each but `all`
abbrev pub is_listed_arch : List ℕ → Bool
is_listed_arch text = is_architecture text && not (bytes_eq text all_archs)

abbrev pub bad_arch : List ℕ → Option Refusal
bad_arch text = if is_listed_arch text then None else Some (BadName text)

-- the first of these texts that can't be listed as an architecture
abbrev pub bad_archs : List (List ℕ) → Option Refusal
bad_archs [] = None
bad_archs (text ∷ texts) = or_else (bad_arch text) (bad_archs texts)

-- the first architecture that is written as one to be followed and can't be listed
abbrev pub bad_written : Option (List (List ℕ)) → Option Refusal
bad_written None = None
bad_written (Some texts) = bad_archs texts

abbrev pub bad_follow : PlainFollow → Option Refusal
bad_follow follow = bad_written follow.architectures

-- the architectures of these packages, but `all`
abbrev pub archs_met : List Card → List (List ℕ)
archs_met list = filter (λ arch. not (bytes_eq arch all_archs)) (map (λ p. p.arch) list)

-- these, or `all` where there is none
abbrev pub or_all : List (List ℕ) → List (List ℕ)
or_all [] = all_archs ∷ []
or_all (arch ∷ archs) = arch ∷ archs

-- the architectures that are written, or else those met, or else `all` alone; sorted, and each once
abbrev pub archs_for : Option (List (List ℕ)) → List Card → List (List ℕ)
archs_for (Some archs) list = union text_cmp [] archs
archs_for None list = or_all (union text_cmp [] (archs_met list))

-- ---- what is chosen

-- the tree of a text, if it is a query
abbrev pub tree_in : Result Tree ℕ → List Tree
tree_in (Ok t) = t ∷ []
tree_in (Err place) = []

-- the trees of those of the texts that are queries
abbrev pub trees_of : List (List ℕ) → List Tree
trees_of queries = flat_map (λ text. tree_in (query_of text)) queries

-- which fields are followed; what else a pull is asked for has no effect where a list alone is chosen from
abbrev pub flags_of : PlainFollow → PullFlags
flags_of follow =
    record {
      deps = true;
      remove = true;
      all_matches = true;
      recommends = unwrap_or follow.recommends false;
      suggests = unwrap_or follow.suggests false;
    }

-- what the queries choose of a list; where dependencies are followed, with what that needs of the list
abbrev pub chosen_with : Bool → PlainFollow → List Card → List (List ℕ) → List Card
chosen_with false follow list queries = chosen list queries
chosen_with true follow list queries = with_what_it_needs (flags_of follow) (archs_for follow.architectures list) list (trees_of queries)
