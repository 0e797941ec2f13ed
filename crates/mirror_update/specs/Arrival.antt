-- An archive arrives for a mirror: its Release is read, the indexes that are wanted of it, and the files of the packages that the filter
-- chooses.
use Rattle.std.specs.Prelude.{◌≡◌, List, Result, Ok, Err}
use Rattle.ap_text.specs.Paths.{below_folder}
use Rattle.ap_host.specs.Disk.{Path, Files}
use Rattle.package_core.specs.Card.{Card}
use Rattle.package_list.specs.Lists.{union}
use Rattle.package_list.specs.Answers.{join_answer}
use Rattle.release_file.specs.Release.{ReleaseView}
use Rattle.machine_state.specs.declared.fetched.Fetched.{Fetched}
use Rattle.machine_state.specs.declared.limit.Limit.TheVariants.{Packages}
use Rattle.machine_state.specs.declared.refusal.Refusal.{Refusal}
use Rattle.machine_state.specs.Values.{MirrorView}
use Rattle.package_intake.specs.Index.{IndexEntry, cards_of, path_of}
use Rattle.package_intake.specs.Steps.{and_then, or_refused}
use Rattle.package_intake.specs.Taking.{taken_file, each_taken}
use Rattle.package_intake.specs.Catalogue.{within_catalogue}
use Rattle.mirror_update.specs.Fetch.{IsFetched}
use Rattle.mirror_update.specs.Wanted.{wanted_architectures}
use Rattle.mirror_update.specs.Indexes.{IndexesSay}
use Rattle.mirror_update.specs.Filter.{chosen_by}

-- what the filter chooses of packages of an archive with this Release
abbrev pub chosen_of : MirrorView → ReleaseView → List Card → List Card
chosen_of mirror release list = chosen_by mirror.filter mirror.with_deps (wanted_architectures mirror release) list

-- the list, where it can be known besides what is known
abbrev pub knowable : List Card → List Card → Result (List Card) Refusal
knowable known list = and_then (within_catalogue (union known list)) (λ _. Ok list)

-- the files of these packages, at these paths below a folder, are taken in, and they can be known
abbrev pub files_arrive : Files → List Card → Path → (Card → Path) → List Card → Result (List Card) Refusal
files_arrive files known folder path list = and_then (each_taken (λ p. taken_file files known (below_folder folder (path p)) p) list) (knowable known)

-- the same of packages of an archive
abbrev pub list_arrives : Files → List Card → MirrorView → List IndexEntry → List Card → Result (List Card) Refusal
list_arrives files known mirror entries list = files_arrive files known mirror.archive (path_of entries) list

-- what comes of the packages that the indexes say
unfoldable pub entries_arrive : Files → List Card → MirrorView → ReleaseView → List IndexEntry → Result (List Card) Refusal
entries_arrive files known mirror release entries =
    and_then (or_refused Packages (join_answer (cards_of entries))) (λ joined. list_arrives files known mirror entries (chosen_of mirror release joined))

abbrev pub dated : ReleaseView → List Card → Result Fetched Refusal
dated release list = Ok (record { date = release.date; list = list })

-- what comes of an archive whose Release says this
abbrev pub ReleaseArrives : Files → List Card → MirrorView → Result ReleaseView Refusal → Result Fetched Refusal → Type 0
ReleaseArrives files known mirror (Ok release) arrived =
    (read : Result (List IndexEntry) Refusal) × IndexesSay files mirror release read
    × (arrived ≡ and_then (and_then read (entries_arrive files known mirror release)) (dated release))
ReleaseArrives files known mirror (Err refusal) arrived = arrived ≡ Err refusal

-- What arrives of these files for a mirror, where these packages are known: the date of the archive and the packages that the filter
-- chooses, each complete, or why they are refused. The steps are made in order, and the first that fails decides.
unfoldable pub Arrives : Files → List Card → MirrorView → Result Fetched Refusal → Type 0
Arrives files known mirror arrived =
    (fetched : Result ReleaseView Refusal) × IsFetched files mirror fetched × ReleaseArrives files known mirror fetched arrived
