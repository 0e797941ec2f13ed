-- What is said of packages that leave a repository: a text of whole lines. Of dry runs reply_text says what is said.
use Rattle.std.specs.Prelude.{ℕ, List, ◌++◌, codes}
use Rattle.std.specs.Fmt.{decimal}
use Rattle.reply_text.specs.Words.{line}
unfoldable pub use Rattle.reply_text.specs.DryRuns.{going_line, coming_line, dry_run_of}

-- `Repo local: 1 removed, 0 packages.`
unfoldable pub repo_removed : List ℕ → ℕ → ℕ → List ℕ
repo_removed name removed packages = line (codes "Repo " ++ (name ++ (codes ": " ++ (decimal removed ++ (codes " removed, " ++ (decimal packages ++ codes " packages."))))))
