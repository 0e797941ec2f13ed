-- The Release of the distribution that a mirror mirrors (the Debian repository format).
use Rattle.std.specs.Prelude.{◌≡◌, ◌≤◌, ℕ, List, length, Result, Ok, Err, codes}
use Rattle.std.specs.Global.{Vec}
use Rattle.ap_text.specs.Paths.{below_folder}
use Rattle.ap_host.specs.Disk.{Path, Files}
use Rattle.release_file.specs.Release.{ReleaseView, IsRelease, IsAt}
use Rattle.machine_state.specs.declared.limit.Limit.TheVariants.{ReleaseBytes}
use Rattle.machine_state.specs.declared.refusal.Refusal.{Refusal}
use Rattle.machine_state.specs.declared.refusal.Refusal.TheVariants.{InputAbsent, InputMalformed}
use Rattle.machine_state.specs.declared.arrived.UpdateFault.{UpdateFault}
use Rattle.machine_state.specs.declared.arrived.UpdateFault.TheVariants as faults
use Rattle.machine_state.specs.Values.{MirrorView}
use Rattle.package_intake.specs.Index.{bytes_within, or_malformed}

-- ---- where it stands

-- the folder of the distribution in the archive
abbrev pub distribution_folder : MirrorView → Path
distribution_folder mirror = below_folder (below_folder mirror.archive (codes "dists")) mirror.distribution

abbrev pub release_path : MirrorView → Path
release_path mirror = below_folder (distribution_folder mirror) (codes "Release")

-- its paths are short enough for all that stands below them
pub record IsShort (mirror : MirrorView) : Type 0 where
  pub archive : length mirror.archive ≤ 200
  pub distribution : length mirror.distribution ≤ 100

-- ---- what is read

-- what a file comes to where its bytes are read so: what they say, or the first line that can't stand there
abbrev pub ReadBy : {X : Type 0} → (List ℕ → Result X ℕ → Type 0) → Path → Result (List ℕ) Refusal → Result X Refusal → Type 0
ReadBy {X = X} Says path (Ok bytes) read = (said : Result X ℕ) × Says bytes said × (read ≡ or_malformed path said)
ReadBy Says path (Err refusal) read = read ≡ Err refusal

-- what the text of a Release says, or the line at which it is none
abbrev pub IsReleaseText : List ℕ → Result ReleaseView ℕ → Type 0
IsReleaseText text (Ok release) = IsRelease text release
IsReleaseText text (Err line) = IsAt text line

-- a line of the text can't stand there, which is told of this path; or memory was wanting
abbrev pub IsMalformedBy : {X : Type 0} → (List ℕ → Result X ℕ → Type 0) → Path → List ℕ → UpdateFault → Type 0
IsMalformedBy Says path text (faults.Refused refusal) = (line : ℕ) × Says text (Err line) × (refusal ≡ InputMalformed path line)
IsMalformedBy Says path text faults.OutOfMemory = Unit {0}
IsMalformedBy Says path text faults.HostFault = ⊥
IsMalformedBy Says path text faults.InboxFault = ⊥

-- What the Release of the archive says, or the first step that fails: it is there and not too long, and it is a Release.
unfoldable pub IsFetched : Files → MirrorView → Result ReleaseView Refusal → Type 0
IsFetched files mirror fetched = ReadBy IsReleaseText (release_path mirror) (bytes_within ReleaseBytes (release_path mirror) (files (release_path mirror))) fetched

-- ---- what a call gives

-- an error is one of these refusals, or the outside failed or memory was wanting
abbrev pub FaultMeets : {X : Type 0} → (Result X Refusal → Type 0) → UpdateFault → Type 0
FaultMeets P (faults.Refused refusal) = P (Err refusal)
FaultMeets P faults.HostFault = Unit {0}
FaultMeets P faults.InboxFault = Unit {0}
FaultMeets P faults.OutOfMemory = Unit {0}

-- a call gives what P says, unless the outside fails or memory is wanting
abbrev pub Meets : {X : Type 0} → (Result X Refusal → Type 0) → Result X UpdateFault → Type 0
Meets P (Ok x) = P (Ok x)
Meets P (Err fault) = FaultMeets P fault

-- the same of a call that gives a list in a vector
abbrev pub MeetsItems : {X : Type 0} → (Result (List X) Refusal → Type 0) → Result (Vec X) UpdateFault → Type 0
MeetsItems P (Ok v) = P (Ok v.items)
MeetsItems P (Err fault) = FaultMeets P fault

-- something isn't there, or memory was wanting
abbrev pub IsAbsentFault : UpdateFault → Type 0
IsAbsentFault (faults.Refused (InputAbsent path)) = Unit {0}
IsAbsentFault (faults.Refused _) = ⊥
IsAbsentFault faults.OutOfMemory = Unit {0}
IsAbsentFault faults.HostFault = ⊥
IsAbsentFault faults.InboxFault = ⊥
