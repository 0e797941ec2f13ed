-- What the calls of a list make of it, in terms of its members.
use Rattle.std.specs.Prelude.{List, [], Bool, ◌&&◌, not, bytes_eq}
use Rattle.std.specs.List.{list_any, filter}
use Rattle.std.specs.Ordering.{is_eq, is_lt}
use Rattle.package_core.specs.Card.{Card}
use Rattle.package_core.specs.Order.{package_cmp, same_triple}
use Rattle.package_list.specs.Sorted.{has, union as union_by}

-- all of both lists; of two equals the one of the first list stays
abbrev pub union : List Card → List Card → List Card
union = union_by package_cmp

-- packages in any order, joined into a list; of equal ones the first stays
abbrev pub joined : List Card → List Card
joined = union []

-- the list has an equal of p in the order of packages
abbrev pub has_member : List Card → Card → Bool
has_member = has package_cmp

-- the members of the first list that the second hasn't
abbrev pub without : List Card → List Card → List Card
without xs ys = filter (λ x. not (has_member ys x)) xs

-- the two have one triple (name, version text and architecture) and aren't equal
abbrev pub clash : Card → Card → Bool
clash q p = same_triple q p && not (is_eq (package_cmp q p))

-- p clashes with a member
abbrev pub clashes : List Card → Card → Bool
clashes xs p = list_any (λ q. clash q p) xs

-- two members have one triple
abbrev pub has_clash : List Card → Bool
has_clash xs = list_any (clashes xs) xs

-- the two have one name and architecture
unfoldable pub same_key : Card → Card → Bool
same_key a b = bytes_eq a.name b.name && bytes_eq a.arch b.arch

-- a member has the name and the architecture of p
abbrev pub has_key : List Card → Card → Bool
has_key xs p = list_any (λ q. same_key q p) xs

-- all of the second list, and the members of the first whose name and architecture no member of the second has
abbrev pub merged : List Card → List Card → List Card
merged xs ys = union (filter (λ x. not (has_key ys x)) xs) ys

-- A member of one name and architecture with p is greater. Among these the order of packages goes by the order of versions
-- first (Debian Policy 5.6.12).
abbrev pub has_greater : List Card → Card → Bool
has_greater xs p = list_any (λ q. same_key q p && is_lt (package_cmp p q)) xs

-- the greatest member of the union for each name and architecture
abbrev pub greatest : List Card → List Card
greatest xs = filter (λ x. not (has_greater xs x)) xs

abbrev pub latest : List Card → List Card → List Card
latest xs ys = greatest (union xs ys)
