-- A folder arrives: its index is read, and the files that the index names.
use Rattle.std.specs.Prelude.{◌≡◌, ℕ, List, [], Option, Some, None, Result, Ok, Err, codes}
use Rattle.ap_text.specs.Paths.{below_folder}
use Rattle.ap_host.specs.Disk.{Path, Files}
use Rattle.package_core.specs.Card.{Card}
use Rattle.package_list.specs.Lists.{union}
use Rattle.package_list.specs.Answers.{append_answer, join_answer}
use Rattle.machine_state.specs.declared.limit.Limit.TheVariants.{Packages}
use Rattle.machine_state.specs.declared.refusal.Refusal.{Refusal}
use Rattle.machine_state.specs.declared.repo.Repo.{Repo}
use Rattle.machine_state.specs.State.{repo_of}
use Rattle.machine_state.specs.Values.{StateView}
use Rattle.package_intake.specs.Index.{IndexEntry, index_bytes, IsIndex, or_malformed, cards_of, path_of}
use Rattle.package_intake.specs.Steps.{and_then, or_refused}
use Rattle.package_intake.specs.Taking.{taken_file, each_taken}
use Rattle.package_intake.specs.Catalogue.{within_catalogue}

-- the index of a folder
abbrev pub index_path : Path → Path
index_path folder = below_folder folder (codes "Packages")

-- the list can be added to the repository's own and to what is known
unfoldable pub check_answer : List Card → List Card → List Card → Result (Unit {0}) Refusal
check_answer known own list = and_then (or_refused Packages (append_answer own list)) (λ _. within_catalogue (union known list))

abbrev pub fitting : List Card → List Card → List Card → Result (List Card) Refusal
fitting known own list = and_then (check_answer known own list) (λ _. Ok list)

-- the packages of a readable index
unfoldable pub entries_arrive : Files → List Card → List Card → Path → List IndexEntry → Result (List Card) Refusal
entries_arrive files known own folder entries =
    and_then (or_refused Packages (join_answer (cards_of entries))) (λ joined.
    and_then (each_taken (λ p. taken_file files known (below_folder folder (path_of entries p)) p) joined) (λ list. fitting known own list))

abbrev pub list_in : Option Repo → List Card
list_in None = []
list_in (Some repo) = repo.list

-- the list of the repository of that name
abbrev pub list_of : StateView → List ℕ → List Card
list_of state name = list_in (repo_of name state.repos)

-- what comes of an index that says this, for a list of one's own and what is known
abbrev pub index_arrives : Files → List Card → List Card → Path → Result (List IndexEntry) ℕ → Result (List Card) Refusal
index_arrives files known own folder index =
    and_then (or_malformed (index_path folder) index) (λ entries. entries_arrive files known own folder entries)

-- what comes of the bytes of an index, where it is there
abbrev pub BytesArrive : Files → List Card → List Card → Path → Result (List ℕ) Refusal → Result (List Card) Refusal → Type 0
BytesArrive files known own folder (Ok bytes) arrived =
    (index : Result (List IndexEntry) ℕ) × IsIndex bytes index × (arrived ≡ index_arrives files known own folder index)
BytesArrive files known own folder (Err refusal) arrived = arrived ≡ Err refusal

-- What arrives of a folder of these files for a list of one's own, where these are known: the packages of its index, each complete, or why
-- they are refused. The steps are made in order, and the first that fails decides.
unfoldable pub Arrives : Files → List Card → List Card → Path → Result (List Card) Refusal → Type 0
Arrives files known own folder arrived =
    BytesArrive files known own folder (index_bytes (index_path folder) (files (index_path folder))) arrived
