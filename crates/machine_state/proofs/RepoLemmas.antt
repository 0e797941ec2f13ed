-- Repositories by name.
use Rattle.std.proofs.Common.{◌≡◌, ℕ, ◌<◌, ◌≤◌, List, length, get_or, Some, None, Less, Equal, Greater}
use Rattle.std.specs.Ordering.{ordering_index}
use Rattle.std.specs.List.Sorted.{IsNonDecreasingBy}
use Rattle.std.specs.Cmp.{IsTotalOrder}
use Rattle.std.specs.Str.{bytes_eq}
use Rattle.std.proofs.lemmas.Cmp.{nat_list_cmp_total, on_total}
use Rattle.std.proofs.lemmas.Map.Text.{is_eq-slice_cmp}
use Rattle.machine_state.specs.declared.repo.Repo.{Repo}
use Rattle.machine_state.specs.Ascending.{IsAscending}
use Rattle.machine_state.specs.Named.{name_cmp}
use Rattle.machine_state.specs.State.{repo_name, repo_cmp, repo_of}
use Rattle.machine_state.proofs.KeyLemmas as by_key

pub repo_total : IsTotalOrder repo_cmp
repo_total = on_total repo_name nat_list_cmp_total

-- what stands where the name was found is the repository of that name
pub found : (repos : List Repo) (i : ℕ) (d : Repo) (name : List ℕ) → IsAscending repo_cmp repos → i < length repos → name_cmp repo_name (get_or repos i d) name ≡ Equal → repo_of name repos ≡ Some (get_or repos i d)
found = by_key.found repo_name nat_list_cmp_total bytes_eq is_eq-slice_cmp

-- where each is less or greater, no repository has the name
pub nowhere : (repos : List Repo) (i : ℕ) (name : List ℕ)
    → ((k : ℕ) (d : Repo) → k < i → name_cmp repo_name (get_or repos k d) name ≡ Less)
    → ((k : ℕ) (d : Repo) → i ≤ k → k < length repos → name_cmp repo_name (get_or repos k d) name ≡ Greater)
    → repo_of name repos ≡ None
nowhere = by_key.nowhere repo_name nat_list_cmp_total bytes_eq is_eq-slice_cmp

pub rises_by_name : (repos : List Repo) (name : List ℕ) → IsAscending repo_cmp repos → IsNonDecreasingBy (λ r. ordering_index (name_cmp repo_name r name)) repos
rises_by_name = by_key.rises_by_key repo_name nat_list_cmp_total bytes_eq is_eq-slice_cmp
