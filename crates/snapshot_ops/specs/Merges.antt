-- What a merge of lists makes.
use Rattle.std.specs.Prelude.{◌≡◌, Bool, List, [], ◌∷◌, Result, Ok, Err, if◌then◌else◌}
use Rattle.package_core.specs.Card.{Card}
use Rattle.package_list.specs.declared.fault.ListFault.{ListFault}
use Rattle.package_list.specs.declared.list.TheConstants.{MOST_MEMBERS}
use Rattle.package_list.specs.Answers.{append_answer, size_answer}
use Rattle.package_list.specs.Lists.{latest, merged, union}
use Rattle.machine_state.specs.declared.refusal.Refusal.{Refusal}
use Rattle.package_list.specs.declared.fault.ListFault.TheVariants as faults
use Rattle.machine_state.specs.declared.limit.Limit.TheVariants.{Packages}
use Rattle.machine_state.specs.declared.refusal.Refusal.TheVariants.{Conflict, Limit}
use Rattle.snapshot_ops.specs.declared.way.Way.{Way}
use Rattle.snapshot_ops.specs.declared.way.Way.TheVariants.{Replacing, Keeping, Latest}

-- the way that two flags ask for: `-latest`, and `-no-remove`
abbrev pub way_of : Bool → Bool → Way
way_of newest no_remove = if newest then Latest else if no_remove then Keeping else Replacing

-- What those before it and a source make: its packages take the place of those of their name and architecture; or all stay; or of each name
-- and architecture the greatest alone stays.
abbrev pub joined_so : Way → List Card → List Card → List Card
joined_so Replacing own more = merged own more
joined_so Keeping own more = union own more
joined_so Latest own more = latest own more

-- a list that refuses others refuses so (memory isn't wanted here)
abbrev pub or_refused : Result (Unit {0}) ListFault → Result (Unit {0}) Refusal
or_refused (Ok u) = Ok tt
or_refused (Err (faults.Conflict triple)) = Err (Conflict triple)
or_refused (Err faults.Full) = Err (Limit Packages)
or_refused (Err faults.OutOfMemory) = Err (Limit Packages)

-- whether a source can join those before it: where all stay none may clash, and there may not be too many
abbrev pub join_answer : Way → List Card → List Card → Result (Unit {0}) ListFault
join_answer Replacing own more = size_answer MOST_MEMBERS (merged own more)
join_answer Keeping own more = append_answer own more
join_answer Latest own more = size_answer MOST_MEMBERS (latest own more)

-- the source can't join those before it, for this
abbrev pub IsJoinRefusal : Way → List Card → List Card → Refusal → Type 0
IsJoinRefusal way own more refusal = or_refused (join_answer way own more) ≡ Err refusal

-- what is made where a source can join those before it
abbrev pub where_joined : Result (Unit {0}) Refusal → Result (List Card) Refusal → Result (List Card) Refusal
where_joined (Ok u) made = made
where_joined (Err refusal) made = Err refusal

-- the sources, each joined to those before it, behind what was made already; the first that can't join decides
abbrev pub merge_behind : Way → List Card → List (List Card) → Result (List Card) Refusal
merge_behind way own [] = Ok own
merge_behind way own (more ∷ sources) = where_joined (or_refused (join_answer way own more)) (merge_behind way (joined_so way own more) sources)

-- a merge begins with no package
abbrev pub merge_of : Way → List (List Card) → Result (List Card) Refusal
merge_of way sources = merge_behind way [] sources
