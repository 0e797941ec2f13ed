-- The replies to commands, as bytes.
use Rattle.std.specs.Prelude.{ℕ, Bool, List, [], ◌++◌, ◌∷◌, length, codes, unwrap_or, if◌then◌else◌}
use Rattle.std.specs.List.{flat_map}
use Rattle.std.specs.Fmt.{decimal}
use Rattle.package_core.specs.Card.{Card, triple, package_text}
use Rattle.machine_state.specs.declared.repo.Repo.{Repo}
use Rattle.reply_text.specs.Words.{line, blank_and}

-- `Repo local created.`
unfoldable pub repo_created : List ℕ → List ℕ
repo_created name = line (codes "Repo " ++ (name ++ codes " created."))

-- `Repo local: 1 added, 3 packages.`
unfoldable pub repo_added : List ℕ → ℕ → ℕ → List ℕ
repo_added name added packages = line (codes "Repo " ++ (name ++ (codes ": " ++ (decimal added ++ (codes " added, " ++ (decimal packages ++ codes " packages."))))))

-- `Packages: 3`
unfoldable pub packages_line : ℕ → List ℕ
packages_line count = line (codes "Packages: " ++ decimal count)

-- ` hello_2.10-2_amd64`
unfoldable pub triple_line : Card → List ℕ
triple_line p = line (32 ∷ triple p)

-- a line for each package, in the order of the list
unfoldable pub triple_lines : List Card → List ℕ
triple_lines list = flat_map triple_line list

-- the text of a package, and an empty line
unfoldable pub shown_package : Card → List ℕ
shown_package p = line (package_text p)

-- what was set for a repository, each setting on a line
unfoldable pub settings_lines : Repo → List ℕ
settings_lines repo =
    line (codes "Name: " ++ repo.name)
    ++ line (codes "Comment:" ++ blank_and repo.comment)
    ++ line (codes "Distribution:" ++ blank_and (unwrap_or repo.distribution []))
    ++ line (codes "Component: " ++ repo.component)

-- a repository's settings, the count of its packages and, where it is asked for, their names
unfoldable pub repo_show : Repo → Bool → List ℕ
repo_show repo with_packages = settings_lines repo ++ packages_line (length repo.list) ++ (if with_packages then triple_lines repo.list else [])

-- ` * local [3]`: something that is listed, and how many packages it has
unfoldable pub listed_line : List ℕ → ℕ → List ℕ
listed_line name packages = line (codes " * " ++ (name ++ (codes " [" ++ (decimal packages ++ codes "]"))))

abbrev pub repo_line : Repo → List ℕ
repo_line repo = listed_line repo.name (length repo.list)

-- a line for each repository, in their order
unfoldable pub repo_lines : List Repo → List ℕ
repo_lines repos = flat_map repo_line repos

-- how many repositories there are, and of each its name and how many packages it has
unfoldable pub repo_list : List Repo → List ℕ
repo_list repos = line (codes "Repos: " ++ decimal (length repos)) ++ repo_lines repos

-- how many packages were found, and which
unfoldable pub package_search : List Card → List ℕ
package_search found = packages_line (length found) ++ triple_lines found

-- how many packages were found, and what each is
unfoldable pub package_show : List Card → List ℕ
package_show found = packages_line (length found) ++ flat_map shown_package found
