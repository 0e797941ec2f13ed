-- What a command is, by its family.
use Rattle.std.proofs.Common.{◌≡◌, ℕ, ℤ, List, Bool, true, false, Option, Some, refl, sym, ap, ◌∙◌}
use Rattle.std.specs.Bool.{if◌then◌else◌}
use Rattle.std.specs.Option.{is_some}
use Rattle.command_value.specs.declared.command.Command.{Command}
use Rattle.command_value.specs.declared.command.Command.TheVariants as commands
use Rattle.command_words.specs.Plain.{PlainCommand, MirrorCommand, RepoCommand, SnapshotCommand, OtherCommand, plain, of_mirror, of_repo, of_snapshot, of_publish, of_other, package_search, package_show, repo_add}
use Rattle.machine_state.specs.declared.change.ChangeFault.TheVariants as faults
use Rattle.machine_state.specs.declared.refusal.Refusal.{Refusal}
use Rattle.machine_state.specs.declared.refusal.Refusal.TheVariants.{PatternTooLarge}
use Rattle.machine_state.specs.declared.arrived.Arrived.{Arrived}
use Rattle.machine_state.specs.Values.{StateView}
use Rattle.reply_text.specs.Replies as replies
use Rattle.step_model.specs.declared.reading.Reading.{Reading}
use Rattle.step_model.specs.declared.reading.Reading.TheVariants as readings
use Rattle.step_model.specs.Answers.{KeepsBut}
use Rattle.step_model.specs.Case.{Case, or_else, unbuilt}
use Rattle.step_model.specs.Refuses.{reading}
use Rattle.repo_packages.specs.PackageCases as repos
use Rattle.repo_packages.specs.PackageCases.{addition_case, copy_case, import_case, move_case, removal_case}
use Rattle.mirror_ops.specs.Cases as mirrors
use Rattle.mirror_ops.specs.Cases.{mirror_case}
use Rattle.local_repo.specs.Cases.{repo_case}
use Rattle.snapshot_ops.specs.Cases.{snapshot_case}
use Rattle.machine_step.specs.Answers.{KeepsUnlessTold}
use Rattle.machine_step.specs.Family.{family}
use Rattle.machine_step.specs.Step.{Given, MayArrive, NoArchive, asking, case_of, other_case}
use Rattle.machine_step.specs.declared.family.Family.TheVariants as families

pub is_repo : (c : PlainCommand) → family c ≡ families.Repo → (r : RepoCommand) × (c ≡ of_repo r)
is_repo (of_repo r) e = (r, refl)
is_repo (of_mirror r) e = absurd (cc)
is_repo (of_snapshot r) e = absurd (cc)
is_repo (of_publish r) e = absurd (cc)
is_repo (of_other r) e = absurd (cc)

pub is_snapshot : (c : PlainCommand) → family c ≡ families.Snapshot → (r : SnapshotCommand) × (c ≡ of_snapshot r)
is_snapshot (of_snapshot r) e = (r, refl)
is_snapshot (of_mirror r) e = absurd (cc)
is_snapshot (of_repo r) e = absurd (cc)
is_snapshot (of_publish r) e = absurd (cc)
is_snapshot (of_other r) e = absurd (cc)

pub is_mirror : (c : PlainCommand) → family c ≡ families.Mirror → (r : MirrorCommand) × (c ≡ of_mirror r)
is_mirror (of_mirror r) e = (r, refl)
is_mirror (of_repo r) e = absurd (cc)
is_mirror (of_snapshot r) e = absurd (cc)
is_mirror (of_publish r) e = absurd (cc)
is_mirror (of_other r) e = absurd (cc)

pub is_other : (c : PlainCommand) → family c ≡ families.Other → (r : OtherCommand) × (c ≡ of_other r)
is_other (of_other r) e = (r, refl)
is_other (of_mirror r) e = absurd (cc)
is_other (of_repo r) e = absurd (cc)
is_other (of_snapshot r) e = absurd (cc)
is_other (of_publish r) e = absurd (cc)

pub case_of_repo : (now : ℤ) (s : StateView) (c : PlainCommand) (r : RepoCommand) → c ≡ of_repo r → repo_case s r ≡ case_of now s c
unfolding case_of
case_of_repo now s c r e = sym (ap (case_of now s) e)

pub case_of_snapshot : (now : ℤ) (s : StateView) (c : PlainCommand) (r : SnapshotCommand) → c ≡ of_snapshot r → snapshot_case s r ≡ case_of now s c
unfolding case_of
case_of_snapshot now s c r e = sym (ap (case_of now s) e)

pub case_of_mirror : (now : ℤ) (s : StateView) (c : PlainCommand) (r : MirrorCommand) → c ≡ of_mirror r → mirror_case s r ≡ case_of now s c
unfolding case_of
case_of_mirror now s c r e = sym (ap (case_of now s) e)

pub case_of_other : (now : ℤ) (s : StateView) (c : PlainCommand) (r : OtherCommand) → c ≡ of_other r → other_case s r ≡ case_of now s c
unfolding case_of
case_of_other now s c r e = sym (ap (case_of now s) e)

-- the families of which no command is built
pub case_of_rest : (now : ℤ) (s : StateView) (c : PlainCommand) → (family c ≡ families.Repo → ⊥) → (family c ≡ families.Snapshot → ⊥) → (family c ≡ families.Mirror → ⊥) → (family c ≡ families.Other → ⊥) → case_of now s c ≡ unbuilt
unfolding case_of
case_of_rest now s (of_repo c) a b m d = absurd (a refl)
case_of_rest now s (of_snapshot c) a b m d = absurd (b refl)
case_of_rest now s (of_mirror c) a b m d = absurd (m refl)
case_of_rest now s (of_publish c) a b m d = refl
case_of_rest now s (of_other c) a b m d = absurd (d refl)

-- a command of repositories reads no archive
pub repo_reads_none : (s : StateView) (c : RepoCommand) → NoArchive (repo_case s c).reads
unfolding repo_case addition_case removal_case copy_case move_case import_case
repo_reads_none s (repo_add name folder) = tt
repo_reads_none s c = tt

no_archive_by : (b : Bool) (r : Reading) → NoArchive r → NoArchive (if b then readings.Nothing else r)
no_archive_by true r h = tt
no_archive_by false r h = h

pub repo_reads_no_archive : (s : StateView) (c : RepoCommand) → NoArchive (reading (repo_case s c))
repo_reads_no_archive s c = no_archive_by (is_some (or_else (repo_case s c).early (repo_case s c).late)) (repo_case s c).reads (repo_reads_none s c)

-- what may arrive for a command of repositories
pub arrives_repo : (given : Given) (large : Option (List ℕ)) (s : StateView) (reading : Reading) (arrived : Arrived) → NoArchive reading → MayArrive given large s reading arrived → repos.MayArrive given.inbox s reading arrived
arrives_repo given large s readings.Nothing arrived none h = h
arrives_repo given large s (readings.Folder name folder) arrived none h = h
arrives_repo given large s (readings.Mirror name) arrived none h = absurd none

-- what may arrive for a command of mirrors
pub arrives_mirror : (given : Given) (large : Option (List ℕ)) (s : StateView) (reading : Reading) (arrived : Arrived) → MayArrive given large s reading arrived → mirrors.MayArrive given.inbox s reading arrived
arrives_mirror given large s readings.Nothing arrived h = tt
arrives_mirror given large s (readings.Folder name folder) arrived h = tt
arrives_mirror given large s (readings.Mirror name) arrived h = (large, h)

-- which of these commands it is
abbrev case_in : StateView → PlainCommand → Case
case_in s (of_other c) = other_case s c
case_in s c = unbuilt

in_rest : (s : StateView) (command : Command) → ((query : List ℕ) → command ≡ commands.PackageSearch query → ⊥) → ((query : List ℕ) → command ≡ commands.PackageShow query → ⊥) → case_in s (plain command) ≡ unbuilt
unfolding other_case
in_rest s (commands.PackageSearch query) a b = absurd (a query refl)
in_rest s (commands.PackageShow query) a b = absurd (b query refl)
in_rest s command a b = refl

pub other_rest : (s : StateView) (command : Command) (c : OtherCommand) → plain command ≡ of_other c → ((query : List ℕ) → command ≡ commands.PackageSearch query → ⊥) → ((query : List ℕ) → command ≡ commands.PackageShow query → ⊥) → other_case s c ≡ unbuilt
other_rest s command c e a b = sym (ap (case_in s) e) ∙ in_rest s command a b

pub case_of_search : (s : StateView) (c : OtherCommand) (query : List ℕ) → of_other c ≡ of_other (package_search query) → asking s query replies.package_search ≡ other_case s c
unfolding other_case
case_of_search s c query e = sym (ap (case_in s) e)

pub case_of_show : (s : StateView) (c : OtherCommand) (query : List ℕ) → of_other c ≡ of_other (package_show query) → asking s query replies.package_show ≡ other_case s c
unfolding other_case
case_of_show s c query e = sym (ap (case_in s) e)

-- which text was refused for its size changes only where such a pattern is told
pub keeps_told : (old new : Option (List ℕ)) (refusal : Refusal) → KeepsBut old new (faults.Refused refusal) → KeepsUnlessTold old new (Some refusal)
keeps_told old new (PatternTooLarge query test) h = tt
keeps_told old new refusal h = h
