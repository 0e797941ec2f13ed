-- A file that is put among others, none of which has its path.
use Rattle.std.proofs.Common.{◌≡◌, ℕ, zero, suc, List, [], ◌∷◌, ◌++◌, take, drop, Some, None, refl, arith}
use Rattle.ap_host.specs.Disk.{Path, with_file}
use Rattle.ap_host.specs.Table.{Entries, files_of, IsOnce}
use Rattle.ap_host.proofs.TableLemmas.{path_tells}

pub files_of-insert : (xs : Entries) (i : ℕ) (b c : List ℕ) → files_of xs b ≡ None → (q : Path) → files_of (take i xs ++ (b, c) ∷ drop i xs) q ≡ with_file (files_of xs) b (Some c) q
files_of-insert [] zero b c free q = grind (arith, path_tells)
files_of-insert [] (suc i) b c free q = grind (arith, path_tells)
files_of-insert (x ∷ xs) zero b c free q = grind (arith, path_tells)
files_of-insert (x ∷ xs) (suc i) b c free q = grind (arith, path_tells, files_of-insert xs i b c)

pub IsOnce-insert : (xs : Entries) (i : ℕ) (b c : List ℕ) → IsOnce xs → files_of xs b ≡ None → IsOnce (take i xs ++ (b, c) ∷ drop i xs)
IsOnce-insert [] zero b c o free = (refl, tt)
IsOnce-insert [] (suc i) b c o free = (refl, tt)
IsOnce-insert (x ∷ xs) zero b c o free = (free, o)
IsOnce-insert (x ∷ xs) (suc i) b c o free = (grind (arith, path_tells, files_of-insert xs i b c), IsOnce-insert xs i b c o.1 (grind (arith, path_tells)))
