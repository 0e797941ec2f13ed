-- What is said of snapshots beside what reply_text says: each a line.
use Rattle.std.specs.Prelude.{ℕ, List, ◌++◌, codes}
use Rattle.std.specs.Fmt.{decimal}
use Rattle.reply_text.specs.Words.{line}

-- `Snapshot release created: 3 packages.`
unfoldable pub snapshot_created : List ℕ → ℕ → List ℕ
snapshot_created name packages = line (codes "Snapshot " ++ (name ++ (codes " created: " ++ (decimal packages ++ codes " packages."))))

-- `Snapshot release renamed to old.`
unfoldable pub snapshot_renamed : List ℕ → List ℕ → List ℕ
snapshot_renamed before after = line (codes "Snapshot " ++ (before ++ (codes " renamed to " ++ (after ++ codes "."))))

-- `Snapshot release dropped.`
unfoldable pub snapshot_dropped : List ℕ → List ℕ
snapshot_dropped name = line (codes "Snapshot " ++ (name ++ codes " dropped."))
