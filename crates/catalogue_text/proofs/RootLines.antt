-- The lines of repositories and snapshots: no line end is in them, and none is the line of a package.
use Rattle.std.proofs.Common.{ℕ, ◌<◌, ◌^◌, List, [], Option, Some, None, IsTrue, IfSome, refl}
use Rattle.std.specs.Option.{unwrap_or}
use Rattle.std.proofs.lemmas.Bool.{and_parts}
use Rattle.ap_text.specs.Names.{is_name, is_component}
use Rattle.machine_state.specs.State.{IsLineText}
use Rattle.catalogue_lines.specs.Lines.{IsPlain}
use Rattle.catalogue_text.specs.Root.{repos_line, name_line, comment_line, distribution_line, component_line, snapshots_line, snapshot_line}
use Rattle.catalogue_lines.specs.PartForms.{IsName}
use Rattle.catalogue_lines.proofs.Parts.{IsOther}
use Rattle.catalogue_lines.proofs.PlainLemmas.{digits_plain, is_name_plain, is_line_plain, setting_plain}

optional_plain : (name : Option (List ℕ)) → IfSome name IsName → IsPlain (unwrap_or name [])
optional_plain None p = refl
optional_plain (Some n) p = is_name_plain n p

pub repos_plain : (n : ℕ) → n < 2 ^ 64 → IsPlain (repos_line n)
repos_plain n s = digits_plain n s

pub snapshots_plain : (n : ℕ) → n < 2 ^ 64 → IsPlain (snapshots_line n)
snapshots_plain n s = digits_plain n s

pub snapshot_plain : (name : List ℕ) → IsName name → IsPlain (snapshot_line name)
snapshot_plain name h = is_name_plain name h

pub repo_name_plain : (name : List ℕ) → IsName name → IsPlain (name_line name)
repo_name_plain name h = is_name_plain name h

pub comment_plain : (comment : List ℕ) → IsLineText comment → IsPlain (comment_line comment)
comment_plain comment h = setting_plain comment (is_line_plain comment h.line)

pub distribution_plain : (name : Option (List ℕ)) → IfSome name IsName → IsPlain (distribution_line name)
distribution_plain name h = setting_plain (unwrap_or name []) (optional_plain name h)

pub component_plain : (name : List ℕ) → IsTrue (is_component name) → IsPlain (component_line name)
component_plain name h = is_name_plain name (and_parts (is_name name) _ h).0

pub repos_other : (n : ℕ) → IsOther (repos_line n)
repos_other n = refl

pub snapshots_other : (n : ℕ) → IsOther (snapshots_line n)
snapshots_other n = refl

pub snapshot_other : (name : List ℕ) → IsOther (snapshot_line name)
snapshot_other name = refl

pub name_other : (name : List ℕ) → IsOther (name_line name)
name_other name = refl

pub comment_other : (comment : List ℕ) → IsOther (comment_line comment)
comment_other comment = refl

pub distribution_other : (name : Option (List ℕ)) → IsOther (distribution_line name)
distribution_other name = refl

pub component_other : (name : List ℕ) → IsOther (component_line name)
component_other name = refl
