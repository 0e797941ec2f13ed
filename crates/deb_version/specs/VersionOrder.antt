-- The order of versions (Debian Policy 5.6.12), and what a relation asks of it (Debian Policy 7.1).
use Rattle.std.specs.Prelude.{ℕ, Bool, List, [], ◌∷◌, Option, Some, None, codes}
use Rattle.std.specs.declared.cmp.Ordering.{Ordering}
use Rattle.std.specs.Ordering.{ordering_then, nat_cmp, is_lt, is_le, is_eq, is_ge, is_gt}
use Rattle.std.specs.Str.Parse.{digits_value}
use Rattle.deb_version.specs.Cuts.{part_cmp}
use Rattle.deb_version.specs.VersionText.{epoch_of, upstream_of, revision_of}
use Rattle.deb_version.specs.declared.order.Relation.{Relation}
use Rattle.deb_version.specs.declared.order.Relation.TheVariants.{Earlier, EarlierEqual, Equal, LaterEqual, Later}

-- a missing epoch is 0
abbrev pub epoch_number : Option (List ℕ) → ℕ
epoch_number None = 0
epoch_number (Some digits) = digits_value 10 digits

-- a missing revision compares as `0`
abbrev pub revision_part : Option (List ℕ) → List ℕ
revision_part None = 48 ∷ []
revision_part (Some revision) = revision

-- The epochs decide as numbers, then the upstream versions, then the revisions.
unfoldable pub version_cmp : List ℕ → List ℕ → Ordering
version_cmp a b =
    ordering_then
    (nat_cmp (epoch_number (epoch_of a)) (epoch_number (epoch_of b)))
    (ordering_then (part_cmp (upstream_of a) (upstream_of b)) (part_cmp (revision_part (revision_of a)) (revision_part (revision_of b))))

-- how each relation is written
abbrev pub operator : Relation → List ℕ
operator Earlier = codes "<<"
operator EarlierEqual = codes "<="
operator Equal = codes "="
operator LaterEqual = codes ">="
operator Later = codes ">>"

-- what each asks of the order of the two that stand in it
abbrev pub holds : Relation → Ordering → Bool
holds Earlier order = is_lt order
holds EarlierEqual order = is_le order
holds Equal order = is_eq order
holds LaterEqual order = is_ge order
holds Later order = is_gt order

-- a stands in the relation to b
abbrev pub meets : List ℕ → Relation → List ℕ → Bool
meets a relation b = holds relation (version_cmp a b)
