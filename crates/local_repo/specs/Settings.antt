-- The settings of a repository, as words state them.
use Rattle.std.specs.Prelude.{◌≡◌, ℕ, Bool, ◌||◌, ◌==◌, List, [], length, codes, Option, Some, None, unwrap_or, if◌then◌else◌}
use Rattle.ap_text.specs.Names.{is_name, is_component}
use Rattle.machine_state.specs.declared.refusal.Refusal.{Refusal}
use Rattle.machine_state.specs.declared.refusal.Refusal.TheVariants.{BadName}
use Rattle.machine_state.specs.declared.repo.Repo.{Repo}
use Rattle.machine_state.specs.State.{is_line_text}
use Rattle.step_model.specs.Case.{or_else}

abbrev pub bad_word : Bool → List ℕ → Option Refusal
bad_word good text = if good then None else Some (BadName text)

-- a comment is a line of text, which may be empty
abbrev pub bad_comment : List ℕ → Option Refusal
bad_comment text = bad_word (is_line_text text) text

-- a distribution is a name, or empty for none
abbrev pub bad_distribution : List ℕ → Option Refusal
bad_distribution text = bad_word (length text == 0 || is_name text) text

abbrev pub bad_component : List ℕ → Option Refusal
bad_component text = bad_word (is_component text) text

-- the test of a flag that is written
abbrev pub if_written : (List ℕ → Option Refusal) → Option (List ℕ) → Option Refusal
if_written bad None = None
if_written bad (Some text) = bad text

-- the first of the flags, in the order of the table of commands, that is none
abbrev pub bad_settings : Option (List ℕ) → Option (List ℕ) → Option (List ℕ) → Option Refusal
bad_settings comment distribution component =
    or_else (if_written bad_comment comment) (or_else (if_written bad_distribution distribution) (if_written bad_component component))

-- a distribution as it is written: an empty text stands for none
abbrev pub distribution_said : List ℕ → Option (List ℕ)
distribution_said text = if length text == 0 then None else Some text

-- the setting that is written, or the one that was there
abbrev pub distribution_or : Option (List ℕ) → Option (List ℕ) → Option (List ℕ)
distribution_or before None = before
distribution_or before (Some text) = distribution_said text

-- The repository with the settings that are written; the others stay.
abbrev pub edited : Option (List ℕ) → Option (List ℕ) → Option (List ℕ) → Repo → Repo
edited comment distribution component repo =
    record repo { comment = unwrap_or comment repo.comment; distribution = distribution_or repo.distribution distribution; component = unwrap_or component repo.component }

-- a repository as it is made without a flag: no comment, no distribution, the component `main`, no package
abbrev pub bare_repo : List ℕ → Repo
bare_repo name = record { name = name; comment = []; distribution = None; component = codes "main"; list = [] }

-- two repositories have the same settings
abbrev pub SameSettings : Repo → Repo → Type 0
SameSettings a b = (a.comment ≡ b.comment) × (a.distribution ≡ b.distribution) × (a.component ≡ b.component)
