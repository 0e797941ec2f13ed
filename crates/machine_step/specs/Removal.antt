-- The commands that may remove files.
use Rattle.std.specs.Prelude.{Bool, true, false}
use Rattle.command_words.specs.Plain.{PlainCommand, of_publish, of_other, publish_switch, publish_update, publish_drop, db_cleanup}

-- the commands that are to remove files: what is published no more, or what nothing needs
abbrev pub is_to_remove : PlainCommand → Bool
is_to_remove (of_publish (publish_switch components distribution prefix snapshots)) = true
is_to_remove (of_publish (publish_update distribution prefix)) = true
is_to_remove (of_publish (publish_drop distribution prefix)) = true
is_to_remove (of_other db_cleanup) = true
is_to_remove command = false
