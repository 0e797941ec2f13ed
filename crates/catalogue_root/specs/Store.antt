-- Which files of a store stand for which state.
use Rattle.std.specs.Prelude.{◌≡◌, ◌⊎◌, ℕ, List, [], All, Some, None, IsTrue, length, codes}
use Rattle.sha2.specs.Sha256.{sha256}
use Rattle.ap_text.specs.Paths.{is_below}
use Rattle.ap_host.specs.Disk.{Path, Content, Files}
use Rattle.run_model.specs.Run.{Store}
use Rattle.stage_file.specs.Stage.{is_staged}
use Rattle.package_core.specs.Card.{Card}
use Rattle.hash_pool.specs.Names.{is_pooled, pool_name, IsNamed}
use Rattle.hash_pool.specs.Bodies.{IsBodyOf, HasBody}
use Rattle.machine_state.specs.State.{Valid, empty}
use Rattle.machine_state.specs.Values.{StateView}
use Rattle.catalogue_text.specs.Root.{root_text}

-- the path of the root
abbrev pub root : Path
root = codes "db/root"

-- the root holds the state's text. A store without a root is empty
abbrev pub IsRootOf : Content → StateView → Type 0
IsRootOf content state = (content ≡ Some (root_text state)) ⊎ ((content ≡ None) × (state ≡ empty))

-- What may stand at a path, or be absent there, in a store of the state. The root and staged files are free of it.
pub record Fits (state : StateView) (q : Path) (content : Content) : Type 0 where
  -- at the pool name of a package that the state knows, its body
  pub bodies : All (λ p. q ≡ pool_name p.said.sha256 → IsBodyOf p content) state.known
  -- in the pool, a file that has the name of its SHA-256
  pub named : IsTrue (is_pooled q) → (bytes : List ℕ) → content ≡ Some bytes → q ≡ pool_name (sha256 bytes)
  -- below `public/`, nothing
  pub public : IsTrue (is_below (codes "public") q) → content ≡ None

-- a state that files may stand for: a valid one, and so far one without a publication
pub record IsHeld (state : StateView) : Type 0 where
  pub valid : Valid state
  pub published : state.publications ≡ []

-- The files stand for the state: the root has its text, and at each path stands what may stand there.
pub record Open (files : Files) (state : StateView) : Type 0 where
  pub held : IsHeld state
  pub root : IsRootOf (files root) state
  pub fits : (q : Path) → Fits state q (files q)

-- The files hold the state, whole, whatever clients find: the pool has the body of each known package, and each file of the pool
-- has the name of its SHA-256.
pub record Stored (files : Files) (state : StateView) : Type 0 where
  pub held : IsHeld state
  pub root : IsRootOf (files root) state
  pub bodies : All (HasBody files) state.known
  pub named : IsNamed files

-- the pool has a file of the package's name and size
pub record HasFile (files : Files) (p : Card) : Type 0 where
  pub bytes : List ℕ
  pub file : files (pool_name p.said.sha256) ≡ Some bytes
  pub size : length bytes ≡ p.said.size

-- what a load can see of it: it reads no file of the pool
pub record Sound (files : Files) (state : StateView) : Type 0 where
  pub held : IsHeld state
  pub root : IsRootOf (files root) state
  pub there : All (HasFile files) state.known

abbrev pub SoundForNone : Files → Type 0
SoundForNone files = (state : StateView) → Sound files state → ⊥

-- what clients are promised of a path while the one state goes over into the other: so far, nothing is published
abbrev pub Serves : StateView → StateView → Path → Content → Type 0
Serves old new q content = IsTrue (is_below (codes "public") q) → content ≡ None

-- no staged file is there
abbrev pub NoneStaged : Files → Type 0
NoneStaged files = (q : Path) → IsTrue (is_staged q) → files q ≡ None

-- What files stand for. Nothing is published so far, so what is open is settled too.
abbrev pub store : Store StateView
store = record { Open = Open; Settled = Open; Served = λ files old new. (q : Path) → Serves old new q (files q); Clean = NoneStaged }
