-- The known packages keep within their limits.
use Rattle.std.specs.Prelude.{nat_lt, List, length, Result, Ok, Err, if◌then◌else◌}
use Rattle.package_core.specs.Card.{Card}
use Rattle.machine_state.specs.declared.limit.Limit.TheVariants.{Known, Catalogue}
use Rattle.machine_state.specs.declared.refusal.Refusal.{Refusal}
use Rattle.machine_state.specs.declared.refusal.Refusal.TheVariants.{Limit}
use Rattle.machine_state.specs.Limits.{limit_number}
use Rattle.machine_state.specs.State.{text_length}
use Rattle.package_intake.specs.Steps.{and_then}

-- the known packages aren't too many, and their texts not too long
abbrev pub known_answer : List Card → Result (List Card) Refusal
known_answer known = if nat_lt (limit_number Known) (length known) then Err (Limit Known) else Ok known

abbrev pub within_catalogue : List Card → Result (Unit {0}) Refusal
within_catalogue known =
    and_then (known_answer known) (λ all. if nat_lt (limit_number Catalogue) (text_length all) then Err (Limit Catalogue) else Ok tt)
