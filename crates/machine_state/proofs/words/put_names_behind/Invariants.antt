use Rattle.std.proofs.Common.{◌≡◌, ◌++◌, take, string_bytes}
use Rattle.machine_state.specs.Words.{names_behind}
use Rattle.machine_state.proofs.words.put_names_behind.Given as goal

abbrev pub invariant-loop-name : goal.invariant-loop-name
invariant-loop-name l = string_bytes l.out ≡ string_bytes l.fn.out ++ names_behind (take l.name-index l.names)
