-- Words of a command as names and paths.
use Rattle.std.specs.Prelude.{ℕ, ◌&&◌, Bool, List, length, Option, Some, None, nat_le, if◌then◌else◌}
use Rattle.ap_text.specs.Names.{is_name}
use Rattle.ap_text.specs.Paths.{is_safe_path}
use Rattle.machine_state.specs.declared.refusal.Refusal.{Refusal}
use Rattle.machine_state.specs.declared.refusal.Refusal.TheVariants.{BadName}

-- a folder of the input: a safe path of at most 200 bytes
abbrev pub is_folder : List ℕ → Bool
is_folder path = is_safe_path path && nat_le (length path) 200

abbrev pub bad_name : List ℕ → Option Refusal
bad_name name = if is_name name then None else Some (BadName name)

abbrev pub bad_folder : List ℕ → Option Refusal
bad_folder path = if is_folder path then None else Some (BadName path)
