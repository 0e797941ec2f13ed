-- What a load gives, and what is wrong in files that stand for no state.
use Rattle.std.specs.Prelude.{◌≡◌, ◌≢◌, ◌⊎◌, ℕ, List, [], ◌∷◌, ◌++◌, All, Some, None, Result, Ok, Err, length}
use Rattle.ap_host.specs.declared.host.HostErr.{HostErr}
use Rattle.ap_host.specs.declared.host.HostErr.TheVariants.{Failed, OutOfMemory as NoMemory}
use Rattle.ap_host.specs.Disk.{Files}
use Rattle.package_core.specs.Card.{Card}
use Rattle.hash_pool.specs.Names.{pool_name}
use Rattle.machine_state.specs.State.{Valid}
use Rattle.machine_state.specs.Values.{StateView}
use Rattle.catalogue_text.specs.Places.{publications_place}
use Rattle.catalogue_text.specs.Root.{root_text}
use Rattle.catalogue_text.specs.Faults.{TextsApart, IsFirstBadLine}
use Rattle.catalogue_root.specs.declared.damage.Damage.{Damage}
use Rattle.catalogue_root.specs.declared.damage.Damage.TheVariants.{Missing, Size, Digest, Unreadable}
use Rattle.catalogue_root.specs.declared.damage.LoadFault.{LoadFault}
use Rattle.catalogue_root.specs.declared.damage.LoadFault.TheVariants.{Damaged, HostFault, OutOfMemory}
use Rattle.catalogue_root.specs.Store.{root, IsHeld, IsRootOf, HasFile, Sound, SoundForNone}

-- no two package texts in the root share a SHA-256, so that it tells which packages the repositories list
abbrev pub RootApart : Files → Type 0
RootApart files = (text : List ℕ) → files root ≡ Some text → TextsApart text

-- the first package of the list whose file is amiss, those before it having theirs
pub record IsFirstAmiss (files : Files) (list : List Card) (p : Card) : Type 0 where
  pub front : List Card
  pub back : List Card
  pub split : list ≡ front ++ p ∷ back
  pub there : All (HasFile files) front

-- the first such package that the state knows whose text the root is
pub record IsListed (files : Files) (p : Card) : Type 0 where
  pub state : StateView
  pub valid : Valid state
  pub root : IsRootOf (files root) state
  pub first : IsFirstAmiss files state.known p

-- what is wrong with the file of a package: it isn't there, or has another length
abbrev pub IsWrong : Files → Card → Damage → Type 0
IsWrong files p (Missing path) = (path ≡ pool_name p.said.sha256) × (files path ≡ None)
IsWrong files p (Size path said found) = (path ≡ pool_name p.said.sha256) × (said ≡ p.said.size) × (said ≢ found) × (bytes : List ℕ) × (files path ≡ Some bytes) × (found ≡ length bytes)
IsWrong files p (Digest path said found) = ⊥
IsWrong files p (Unreadable path line) = ⊥

-- the root is that of a state with a publication, which no store holds so far, and this is the line that counts them
pub record HasPublications (text : List ℕ) (line : ℕ) : Type 0 where
  pub state : StateView
  pub valid : Valid state
  pub some : state.publications ≢ []
  pub is : text ≡ root_text state
  pub place : line ≡ publications_place state

-- the text can't be the root of a store from this line on
abbrev pub IsUnreadable : List ℕ → ℕ → Type 0
IsUnreadable text line = IsFirstBadLine text line ⊎ HasPublications text line

-- what is wrong in the files: a line of the root, or the file of the first package that it tells and whose file is amiss
abbrev pub IsDamage : Files → Damage → Type 0
IsDamage files (Unreadable path line) = (path ≡ root) × (text : List ℕ) × (files root ≡ Some text) × IsUnreadable text line
IsDamage files damage = (p : Card) × IsListed files p × IsWrong files p damage

-- whatever the host: what was found differs from what is said
abbrev pub IsDifference : Damage → Type 0
IsDifference (Size path said found) = said ≢ found
IsDifference (Digest path said found) = said ≢ found
IsDifference (Missing path) = Unit {0}
IsDifference (Unreadable path line) = Unit {0}

abbrev pub DiffersIn : {T : Type 0} → Result T LoadFault → Type 0
DiffersIn (Err (Damaged damage)) = IsDifference damage
DiffersIn _ = Unit {0}

-- a load of these files may give this
abbrev pub MayLoad : Files → Result StateView LoadFault → Type 0
MayLoad files (Ok state) = Sound files state
MayLoad files (Err (Damaged damage)) = RootApart files → SoundForNone files × IsDamage files damage
MayLoad files (Err HostFault) = Unit {0}
MayLoad files (Err OutOfMemory) = Unit {0}

-- a load of a root with these bytes
abbrev pub IsLoadOf : List ℕ → Result StateView LoadFault → Type 0
IsLoadOf text (Ok state) = IsHeld state × (text ≡ root_text state)
IsLoadOf text (Err (Damaged (Unreadable path line))) = (path ≡ root) × (TextsApart text → IsUnreadable text line)
IsLoadOf text (Err (Damaged (Missing path))) = ⊥
IsLoadOf text (Err (Damaged (Size path said found))) = ⊥
IsLoadOf text (Err (Damaged (Digest path said found))) = ⊥
IsLoadOf text (Err HostFault) = ⊥
IsLoadOf text (Err OutOfMemory) = Unit {0}

-- a look for the file of a package may answer this
abbrev pub IsLookedFor : {T : Type 0} → Files → Card → Result T LoadFault → Type 0
IsLookedFor files p (Ok x) = HasFile files p
IsLookedFor files p (Err (Damaged damage)) = IsWrong files p damage
IsLookedFor files p (Err HostFault) = Unit {0}
IsLookedFor files p (Err OutOfMemory) = Unit {0}

-- and one for the files of these packages
abbrev pub AreLookedFor : {T : Type 0} → Files → List Card → Result T LoadFault → Type 0
AreLookedFor files list (Ok x) = All (HasFile files) list
AreLookedFor files list (Err (Damaged damage)) = (p : Card) × IsFirstAmiss files list p × IsWrong files p damage
AreLookedFor files list (Err HostFault) = Unit {0}
AreLookedFor files list (Err OutOfMemory) = Unit {0}

-- the fault of a load whose host gave this error
abbrev pub of_host : HostErr → LoadFault
of_host Failed = HostFault
of_host NoMemory = OutOfMemory
