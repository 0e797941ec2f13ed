-- The replies to commands that show snapshots, as bytes.
use Rattle.std.specs.Prelude.{ℕ, Bool, List, [], ◌++◌, length, codes, if◌then◌else◌}
use Rattle.std.specs.List.{flat_map}
use Rattle.std.specs.Fmt.{decimal}
use Rattle.machine_state.specs.declared.snapshot.Snapshot.{Snapshot}
use Rattle.reply_text.specs.Replies.{listed_line, packages_line, triple_lines}
use Rattle.reply_text.specs.Words.{line}

-- ` * release-1 [3]`
unfoldable pub snapshot_line : Snapshot → List ℕ
snapshot_line snapshot = listed_line snapshot.name (length snapshot.list)

-- how many snapshots there are, and of each its name and how many packages it has
unfoldable pub snapshot_list : List Snapshot → List ℕ
snapshot_list snapshots = line (codes "Snapshots: " ++ decimal (length snapshots)) ++ flat_map snapshot_line snapshots

-- a snapshot's name, the count of its packages and, where it is asked for, their names
unfoldable pub snapshot_show : Snapshot → Bool → List ℕ
snapshot_show snapshot with_packages =
    line (codes "Name: " ++ snapshot.name) ++ packages_line (length snapshot.list) ++ (if with_packages then triple_lines snapshot.list else [])
