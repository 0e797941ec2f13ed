-- The cases of all commands: each command isn't built at all, or is lawful in each state.
use Rattle.std.proofs.Common.{◌≡◌, ◌≢◌, ◌⊎◌, ℕ, ℤ, List, [], ◌∷◌, ◌++◌, length, Option, Bool, true, false, inl, inr, refl, ap, arith}
use Rattle.std.specs.Bool.{if◌then◌else◌}
use Rattle.std.proofs.lemmas.List.{length-append}
use Rattle.package_core.specs.Card.{Card}
use Rattle.command_words.specs.Plain.{PlainCommand, MirrorCommand, RepoCommand, SnapshotCommand, OtherCommand, of_mirror, of_repo, of_snapshot, of_publish, of_other, package_search, package_show}
use Rattle.machine_state.specs.declared.arrived.Arrived.{Arrived}
use Rattle.machine_state.specs.Values.{StateView}
use Rattle.reply_text.specs.Words.{line}
use Rattle.reply_text.specs.Replies as replies
use Rattle.step_model.specs.declared.reading.Reading.{Reading}
use Rattle.step_model.specs.declared.reading.Reading.TheVariants as readings
use Rattle.step_model.specs.Case.{Case}
use Rattle.step_model.specs.Lawful.{CommandLaw, IsLawful}
use Rattle.step_model.specs.Refuses.{IsReadable, reading}
use Rattle.repo_packages.specs.PackageCases as repos
use Rattle.local_repo.specs.Cases.{repo_case}
use Rattle.snapshot_ops.specs.Cases as snapshots
use Rattle.snapshot_ops.specs.Cases.{snapshot_case}
use Rattle.snapshot_ops.proofs.LawfulLemmas.{lawful, snapshot_reads}
use Rattle.mirror_ops.specs.Cases as mirrors
use Rattle.mirror_ops.specs.Cases.{ReadsArchive, mirror_case}
use Rattle.mirror_ops.proofs.LawfulLemmas as mirror_laws
use Rattle.machine_step.specs.Causes.{IsUnbuilt}
use Rattle.machine_step.specs.Step.{CanBeRead, Given, MayArrive, case_of, other_case, read_for}
use Rattle.mirror_update.proofs.LawLemmas.{arrives_fit}
use Rattle.machine_step.proofs.FamilyLemmas.{arrives_mirror, arrives_repo, repo_reads_none}
use Rattle.machine_step.proofs.AskingLemmas.{asking_lawful}

-- ---- replies

line_some : (text : List ℕ) → line text ≢ []
unfolding line
line_some text e = absurd (omega (arith, ap length e, length-append text (10 ∷ [])))

front_some : (xs ys : List ℕ) → xs ≢ [] → xs ++ ys ≢ []
front_some [] ys h e = h refl
front_some (x ∷ xs) ys h e = cc

count_some : (n : ℕ) → replies.packages_line n ≢ []
unfolding replies.packages_line
count_some n = line_some _

searched_some : (list : List Card) → replies.package_search list ≢ []
unfolding replies.package_search
searched_some list = front_some _ _ (count_some _)

shown_some : (list : List Card) → replies.package_show list ≢ []
unfolding replies.package_show
shown_some list = front_some _ _ (count_some _)

-- ---- commands of repositories

abbrev pub RepoLaw : Type 0
RepoLaw = (c : RepoCommand) → CommandLaw (λ state. repo_case state c) repos.MayArrive

abbrev pub RepoReads : Type 0
RepoReads = (state : StateView) (c : RepoCommand) → IsReadable (reading (repo_case state c))

-- ---- all commands

-- lawful, whatever the call is given
abbrev pub IsLawfulCommand : PlainCommand → Type 0
IsLawfulCommand c = (given : Given) (large : Option (List ℕ)) (state : StateView) → IsLawful state (λ arrived. MayArrive given large state (case_of given.now state c).reads arrived) (case_of given.now state c)

repo_command : (c : RepoCommand) → CommandLaw (λ state. repo_case state c) repos.MayArrive → IsUnbuilt (of_repo c) ⊎ IsLawfulCommand (of_repo c)
unfolding case_of
repo_command c (inl e) = inl (λ now state. e state)
repo_command c (inr l) = inr (λ given large state.
    let own = l given.inbox state in
    record {
      valid = λ v early late arrived may. own.valid v early late arrived (arrives_repo given large state (repo_case state c).reads arrived (repo_reads_none state c) may);
      says = own.says;
      knows = own.knows;
      early = own.early;
      late = own.late;
      comes = λ arrived may. own.comes arrived (arrives_repo given large state (repo_case state c).reads arrived (repo_reads_none state c) may);
    })

snapshot_command : (c : SnapshotCommand) → CommandLaw (λ state. snapshot_case state c) snapshots.MayArrive → IsUnbuilt (of_snapshot c) ⊎ IsLawfulCommand (of_snapshot c)
unfolding case_of
snapshot_command c (inl e) = inl (λ now state. e state)
snapshot_command c (inr l) = inr (λ given large state.
    let own = l given.inbox state in
    record {
      valid = λ v early late arrived may. own.valid v early late arrived tt;
      says = own.says;
      knows = own.knows;
      early = own.early;
      late = own.late;
      comes = λ arrived may. own.comes arrived tt;
    })

mirror_command : (c : MirrorCommand) → CommandLaw (λ state. mirror_case state c) mirrors.MayArrive → IsUnbuilt (of_mirror c) ⊎ IsLawfulCommand (of_mirror c)
unfolding case_of
mirror_command c (inl e) = inl (λ now state. e state)
mirror_command c (inr l) = inr (λ given large state.
    let own = l given.inbox state in
    record {
      valid = λ v early late arrived may. own.valid v early late arrived (arrives_mirror given large state (mirror_case state c).reads arrived may);
      says = own.says;
      knows = own.knows;
      early = own.early;
      late = own.late;
      comes = λ arrived may. own.comes arrived (arrives_mirror given large state (mirror_case state c).reads arrived may);
    })

other_command : (c : OtherCommand) → IsUnbuilt (of_other c) ⊎ IsLawfulCommand (of_other c)
unfolding case_of other_case
other_command (package_search query) = inr (λ given large state. asking_lawful state _ query replies.package_search searched_some)
other_command (package_show query) = inr (λ given large state. asking_lawful state _ query replies.package_show shown_some)
other_command c = inl (λ now state. refl)

pub command_built : RepoLaw → (c : PlainCommand) → IsUnbuilt c ⊎ IsLawfulCommand c
unfolding case_of
command_built law (of_repo c) = repo_command c (law c)
command_built law (of_other c) = other_command c
command_built law (of_mirror c) = mirror_command c (mirror_laws.lawful (λ files state mirror fetched v found a. arrives_fit files state mirror.name mirror fetched v a) c)
command_built law (of_snapshot c) = snapshot_command c (lawful c)
command_built law (of_publish c) = inl (λ now state. refl)

-- ---- what is read

nothing_read : (b : Bool) → IsReadable (if b then readings.Nothing else readings.Nothing)
nothing_read true = tt
nothing_read false = tt

other_reads : (state : StateView) (c : OtherCommand) → IsReadable (reading (other_case state c))
unfolding other_case
other_reads state (package_search query) = nothing_read _
other_reads state (package_show query) = nothing_read _
other_reads state c = tt

-- what can be read of the input, or of an archive
from_readable : (case : Case) (r : Reading) → IsReadable r → CanBeRead case r
from_readable case readings.Nothing h = h
from_readable case (readings.Folder name folder) h = h
from_readable case (readings.Mirror name) h = absurd h

from_archive : (case : Case) (r : Reading) → ReadsArchive case r → CanBeRead case r
from_archive case readings.Nothing h = h
from_archive case (readings.Folder name folder) h = absurd h
from_archive case (readings.Mirror name) h = h

pub readable : RepoReads → (now : ℤ) (state : StateView) (c : PlainCommand) → CanBeRead (case_of now state c) (read_for now state c)
unfolding case_of
readable repos now state (of_repo c) = from_readable (repo_case state c) (reading (repo_case state c)) (repos state c)
readable repos now state (of_other c) = from_readable (other_case state c) (reading (other_case state c)) (other_reads state c)
readable repos now state (of_mirror c) = from_archive (mirror_case state c) (reading (mirror_case state c)) (mirror_laws.mirror_reads state c)
readable repos now state (of_snapshot c) = from_readable (snapshot_case state c) (reading (snapshot_case state c)) (snapshot_reads state c)
readable repos now state (of_publish c) = tt
