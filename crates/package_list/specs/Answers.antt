-- What the calls of a list answer.
use Rattle.std.specs.Prelude.{◌≡◌, ℕ, List, [], ◌∷◌, ◌++◌, Bool, true, false, Result, Ok, Err, Option, Some, None, length, nat_lt, if◌then◌else◌, find}
use Rattle.std.specs.Option.{option_or}
use Rattle.package_core.specs.Card.{Card, triple}
use Rattle.package_list.specs.declared.fault.ListFault.{ListFault}
use Rattle.package_list.specs.declared.fault.ListFault.TheVariants.{Conflict, Full, OutOfMemory}
use Rattle.package_list.specs.declared.list.TheConstants.{MOST_MEMBERS}
use Rattle.package_list.specs.Lists.{has_member, clashes, union, joined}

abbrev pub FaultIs : {T : Type 0} → ListFault → Result T ListFault → Type 0
FaultIs OutOfMemory wanted = Unit {0}
FaultIs (Conflict t) wanted = wanted ≡ Err (Conflict t)
FaultIs Full wanted = wanted ≡ Err Full

-- the call answers so, unless memory runs out
abbrev pub Answers : {T : Type 0} → Result T ListFault → Result T ListFault → Type 0
Answers (Ok x) wanted = wanted ≡ Ok x
Answers (Err e) wanted = FaultIs e wanted

-- False where an equal is there; else the conflict with a member, and then the limit on members, is told.
abbrev pub insert_answer : List Card → Card → Result Bool ListFault
insert_answer xs p =
    if has_member xs p then Ok false
    else if clashes xs p then Err (Conflict (triple p))
    else if nat_lt (length xs) MOST_MEMBERS then Ok true
    else Err Full

-- at most so many members
abbrev pub size_answer : ℕ → List Card → Result (Unit {0}) ListFault
size_answer most xs = if nat_lt most (length xs) then Err Full else Ok tt

-- the first of the list that clashes within the union is told; else the size decides
abbrev pub conflict_or : Option Card → Result (Unit {0}) ListFault → Result (Unit {0}) ListFault
conflict_or None answer = answer
conflict_or (Some p) answer = Err (Conflict (triple p))

-- the first member of the later list that clashes within the union
abbrev pub first_clash : List Card → List Card → Option Card
first_clash all later = find (clashes all) later

abbrev pub append_answer : List Card → List Card → Result (Unit {0}) ListFault
append_answer xs ys = conflict_or (first_clash (union xs ys) ys) (size_answer MOST_MEMBERS (union xs ys))

-- What keeps p from joining those before it: none of them is its equal, and one of them has its triple, or they come to
-- the most members already.
abbrev pub refusal : List Card → Card → Option ListFault
refusal before p =
    if has_member before p then None
    else if clashes before p then Some (Conflict (triple p))
    else if nat_lt (length (joined before)) MOST_MEMBERS then None
    else Some Full

-- why the first of the packages that is refused can't join those before it
abbrev pub first_refusal : List Card → List Card → Option ListFault
first_refusal before [] = None
first_refusal before (p ∷ ps) = option_or (refusal before p) (first_refusal (before ++ p ∷ []) ps)

abbrev pub err_or : {T : Type 0} → Option ListFault → T → Result T ListFault
err_or None x = Ok x
err_or (Some e) x = Err e

-- the packages joined in their order; the first that is refused decides
abbrev pub join_answer : List Card → Result (List Card) ListFault
join_answer ps = err_or (first_refusal [] ps) (joined ps)
