-- Which indexes of an archive are wanted for a mirror.
use Rattle.std.specs.Prelude.{ℕ, ◌≤◌, length, List, [], ◌∷◌, ◌++◌, map, Option, None, codes, bytes_eq, find}
use Rattle.std.specs.List.{AllByRecursion, flat_map}
use Rattle.ap_text.specs.Paths.{below_folder}
use Rattle.ap_host.specs.Disk.{Path}
use Rattle.digest_set.specs.declared.facts.Said.{Said}
use Rattle.release_file.specs.declared.listing.Listed.{Listed}
use Rattle.release_file.specs.Release.{ReleaseView}
use Rattle.machine_state.specs.Values.{MirrorView}

-- these, or where there is none those
abbrev pub or_those : {X : Type 0} → List X → List X → List X
or_those [] those = those
or_those (x ∷ xs) those = x ∷ xs

-- what the mirror names, or where it names none what the Release does
abbrev pub wanted_components : MirrorView → ReleaseView → List (List ℕ)
wanted_components mirror release = or_those mirror.components release.components

abbrev pub wanted_architectures : MirrorView → ReleaseView → List (List ℕ)
wanted_architectures mirror release = or_those mirror.architectures release.architectures

-- the folder of an architecture in its component, and the path of its index there
abbrev pub arch_folder : List ℕ → Path
arch_folder arch = codes "binary-" ++ arch

abbrev pub arch_index : List ℕ → Path
arch_index arch = below_folder (arch_folder arch) (codes "Packages")

-- the path of the index of a component and an architecture below the folder of the distribution
abbrev pub index_name : List ℕ → List ℕ → Path
index_name component arch = below_folder component (arch_index arch)

-- for each component in order, and for each of them for each architecture in order
abbrev pub indexes_of : List (List ℕ) → List (List ℕ) → List Path
indexes_of components archs = flat_map (λ component. map (index_name component) archs) components

abbrev pub wanted_indexes : MirrorView → ReleaseView → List Path
wanted_indexes mirror release = indexes_of (wanted_components mirror release) (wanted_architectures mirror release)

-- the file that stands at this path, if one is listed there
abbrev pub listed_at : List Listed → Path → Option Listed
listed_at files path = find (λ file. bytes_eq file.path path) files

-- what a Release says of a file
abbrev pub stated_of : Listed → Said
stated_of file = record { size = file.size; sha256 = file.sha256; sha1 = None; md5 = None }

-- paths of at most 417 bytes, as those of indexes are
abbrev pub AreShortNames : List Path → Type 0
AreShortNames names = AllByRecursion (λ name. length name ≤ 417) names
