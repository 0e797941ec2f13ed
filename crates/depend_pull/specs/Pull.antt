-- What a pull takes of a source for a base, and what the base becomes.
use Rattle.std.specs.Prelude.{ℕ, zero, suc, List, [], ◌∷◌, ◌++◌, length, Bool, true, false, Option, Some, None, Result}
use Rattle.std.specs.List.{filter}
use Rattle.package_core.specs.Card.{Card}
use Rattle.package_list.specs.Answers.{append_answer, size_answer}
use Rattle.package_list.specs.Lists.{has_member, merged, union}
use Rattle.package_list.specs.declared.fault.ListFault.{ListFault}
use Rattle.package_list.specs.declared.list.TheConstants.{MOST_MEMBERS}
use Rattle.query_tree.specs.Tree.{Tree}
use Rattle.depend_pull.specs.declared.flags.PullFlags.{PullFlags}
use Rattle.depend_pull.specs.Places.{next}
use Rattle.depend_pull.specs.Seeds.{seeds}

-- with a package behind those that were taken, if there is one
abbrev pub go_on : Option Card → List Card → (List Card → List Card) → List Card
go_on None taken more = taken
go_on (Some p) taken more = more (taken ++ p ∷ [])

module _ (flags : PullFlags) (archs : List (List ℕ)) (base source : List Card) where
  -- with what is taken next behind it, so many times or until there is nothing
  abbrev pub grown : ℕ → List Card → List Card
  grown zero taken = taken
  grown (suc n) taken = go_on (next flags archs base source taken) taken (grown n)

  -- What is taken, in the order in which it came. Each round takes a member that wasn't taken, so that as many as there are members
  -- leave nothing to be taken.
  abbrev pub grown_whole : Bool → List Card → List Card
  grown_whole true taken = grown (length source) taken
  grown_whole false taken = taken

  unfoldable pub taken_in_turn : List Tree → List Card
  taken_in_turn queries = grown_whole flags.deps (seeds flags.all_matches queries archs source)

  -- the members of the source that are taken
  abbrev pub taken : List Tree → List Card
  taken queries = filter (has_member (taken_in_turn queries)) source

-- the flags of following alone: the base is empty, and every match is a seed
abbrev pub following : PullFlags → PullFlags
following flags = record flags { deps = true; all_matches = true }

-- what queries choose with what it depends on
abbrev pub with_what_it_needs : PullFlags → List (List ℕ) → List Card → List Tree → List Card
with_what_it_needs flags archs source queries = taken (following flags) archs [] source queries

-- the base once these came
abbrev pub pulled : Bool → List Card → List Card → List Card
pulled true base more = merged base more
pulled false base more = union base more

-- or why they can't come
abbrev pub pull_answer : Bool → List Card → List Card → Result (Unit {0}) ListFault
pull_answer true base more = size_answer MOST_MEMBERS (merged base more)
pull_answer false base more = append_answer base more
