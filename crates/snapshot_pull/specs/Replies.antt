-- What is said of a pull.
use Rattle.std.specs.Prelude.{ℕ, List, ◌++◌, codes}
use Rattle.std.specs.Fmt.{decimal}
use Rattle.reply_text.specs.Words.{line}

-- `Snapshot release created: 3 packages, 2 added, 0 removed.`
unfoldable pub snapshot_pulled : List ℕ → ℕ → ℕ → ℕ → List ℕ
snapshot_pulled name packages added removed =
    line (codes "Snapshot " ++ (name ++ (codes " created: " ++ (decimal packages ++ (codes " packages, " ++ (decimal added ++ (codes " added, " ++ (decimal removed ++ codes " removed."))))))))
