-- The indexes that are wanted of an archive are read, one after the other.
use Rattle.std.specs.Prelude.{◌≡◌, ℕ, List, [], ◌∷◌, ◌++◌, Option, Some, None, Result, Ok, Err}
use Rattle.ap_text.specs.Paths.{below_folder}
use Rattle.ap_host.specs.Disk.{Path, Content, Files}
use Rattle.release_file.specs.declared.listing.Listed.{Listed}
use Rattle.release_file.specs.Release.{ReleaseView}
use Rattle.machine_state.specs.declared.refusal.Refusal.{Refusal}
use Rattle.machine_state.specs.declared.refusal.Refusal.TheVariants.{InputAbsent, InputMismatch}
use Rattle.machine_state.specs.declared.arrived.UpdateFault.{UpdateFault}
use Rattle.machine_state.specs.declared.arrived.UpdateFault.TheVariants as faults
use Rattle.std.specs.List.{Contains}
use Rattle.package_intake.specs.Faults.{IsOfFile}
use Rattle.machine_state.specs.Values.{MirrorView}
use Rattle.package_intake.specs.Index.{IndexEntry, IsIndex, stated_bytes}
use Rattle.mirror_update.specs.Fetch.{ReadBy, distribution_folder}
use Rattle.mirror_update.specs.Wanted.{listed_at, stated_of, wanted_indexes}

-- the bytes of an index at this path: it is listed and there, and as it is listed
abbrev pub listed_bytes : Path → Option Listed → Content → Result (List ℕ) Refusal
listed_bytes path None content = Err (InputAbsent path)
listed_bytes path (Some file) content = stated_bytes path (stated_of file) content

-- what the index of this name below a folder says, or why it isn't read, where these files are listed
abbrev pub IsIndexRead : Files → Path → List Listed → Path → Result (List IndexEntry) Refusal → Type 0
IsIndexRead files folder listed name read =
    ReadBy IsIndex (below_folder folder name) (listed_bytes (below_folder folder name) (listed_at listed name) (files (below_folder folder name))) read

module _ {X : Type 0} (IsRead : Path → Result (List X) Refusal → Type 0) where
  -- each of these is read, and these are what they say, in order
  abbrev pub AreRead : List Path → List X → Type 0
  AreRead [] all = all ≡ []
  AreRead (name ∷ names) all = (here : List X) × (more : List X) × IsRead name (Ok here) × AreRead names more × (all ≡ here ++ more)

  -- the first of these that isn't read is refused so
  pub record IsFirstRefused (names : List Path) (refusal : Refusal) : Type 0 where
    pub before : List Path
    pub name : Path
    pub behind : List Path
    pub split : names ≡ before ++ name ∷ behind
    pub said : List X
    pub read : AreRead before said
    pub refused : IsRead name (Err refusal)

  abbrev pub IsReadAll : List Path → Result (List X) Refusal → Type 0
  IsReadAll names (Ok all) = AreRead names all
  IsReadAll names (Err refusal) = IsFirstRefused names refusal

-- What the indexes of these names say, or the first of them that isn't read.
unfoldable pub AreAllRead : Files → Path → List Listed → List Path → Result (List IndexEntry) Refusal → Type 0
AreAllRead files folder listed names read = IsReadAll (IsIndexRead files folder listed) names read

-- What the indexes that are wanted of an archive with this Release say.
abbrev pub IndexesSay : Files → MirrorView → ReleaseView → Result (List IndexEntry) Refusal → Type 0
IndexesSay files mirror release read = AreAllRead files (distribution_folder mirror) release.files (wanted_indexes mirror release) read

-- ---- of what a mismatch is told

-- of the index of this name below the folder, of which the listed file states something else
abbrev pub IsOfOne : Path → List Listed → Path → Refusal → Type 0
IsOfOne folder listed name (InputMismatch at what said found) =
    (file : Listed) × (listed_at listed name ≡ Some file) × IsOfFile (below_folder folder name) (stated_of file) (InputMismatch at what said found)
IsOfOne folder listed name refusal = Unit {0}

abbrev pub FaultOfOne : Path → List Listed → Path → UpdateFault → Type 0
FaultOfOne folder listed name (faults.Refused refusal) = IsOfOne folder listed name refusal
FaultOfOne folder listed name fault = Unit {0}

-- the same of one of the indexes of these names
abbrev pub IsOfListed : Path → List Listed → List Path → Refusal → Type 0
IsOfListed folder listed names (InputMismatch at what said found) =
    (name : Path) × Contains names name × IsOfOne folder listed name (InputMismatch at what said found)
IsOfListed folder listed names refusal = Unit {0}

abbrev pub FaultOfListed : Path → List Listed → List Path → UpdateFault → Type 0
FaultOfListed folder listed names (faults.Refused refusal) = IsOfListed folder listed names refusal
FaultOfListed folder listed names fault = Unit {0}
