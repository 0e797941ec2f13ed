-- The families of commands.
use Rattle.command_words.specs.Plain.{PlainCommand, of_mirror, of_repo, of_snapshot, of_publish, of_other}
use Rattle.machine_step.specs.declared.family.Family.{Family}
use Rattle.machine_step.specs.declared.family.Family.TheVariants as families

-- the family of a command
abbrev pub family : PlainCommand → Family
family (of_mirror command) = families.Mirror
family (of_repo command) = families.Repo
family (of_snapshot command) = families.Snapshot
family (of_publish command) = families.Publish
family (of_other command) = families.Other
