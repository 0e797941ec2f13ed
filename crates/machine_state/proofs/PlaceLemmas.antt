-- Publications by prefix and distribution.
use Rattle.std.proofs.Common.{◌≡◌, Bool, List, ℕ, Option, Some, None, refl, ◌∙◌, Ordering, Less, Equal, Greater}
use Rattle.std.specs.Prelude.{◌&&◌}
use Rattle.std.specs.Ordering.{is_eq, nat_cmp, ordering_then}
use Rattle.std.specs.Option.{option_cmp, option_eq}
use Rattle.std.specs.Cmp.{IsTotalOrder}
use Rattle.std.specs.Cmp.Lexicographic.{slice_cmp, options_total}
use Rattle.std.specs.Str.{bytes_eq}
use Rattle.std.proofs.lemmas.Cmp.{nat_list_cmp_total, on_total, then_total}
use Rattle.std.proofs.lemmas.Map.Text.{is_eq-slice_cmp}
use Rattle.machine_state.specs.Values.{PublicationView}

-- a prefix and a distribution
abbrev pub Place : Type 0
Place = Option (List ℕ) × List ℕ

abbrev pub place_of : PublicationView → Place
place_of publication = (publication.prefix, publication.dist)

abbrev pub two_cmp : Place → Place → Ordering
two_cmp a b = ordering_then (option_cmp (slice_cmp nat_cmp) a.0 b.0) (slice_cmp nat_cmp a.1 b.1)

abbrev pub is_same_place : Place → Place → Bool
is_same_place a b = option_eq bytes_eq a.0 b.0 && bytes_eq a.1 b.1

pub two_total : IsTotalOrder two_cmp
two_total = then_total (on_total (λ (place : Place). place.0) (options_total nat_list_cmp_total)) (on_total (λ (place : Place). place.1) nat_list_cmp_total)

equal_then : (a b : Ordering) → is_eq (ordering_then a b) ≡ (is_eq a && is_eq b)
equal_then Less b = refl
equal_then Equal b = refl
equal_then Greater b = refl

equal_prefix : (a b : Option (List ℕ)) → is_eq (option_cmp (slice_cmp nat_cmp) a b) ≡ option_eq bytes_eq a b
equal_prefix None None = refl
equal_prefix None (Some y) = refl
equal_prefix (Some x) None = refl
equal_prefix (Some x) (Some y) = is_eq-slice_cmp x y

pub two_agrees : (a b : Place) → is_eq (two_cmp a b) ≡ is_same_place a b
two_agrees a b =
    equal_then (option_cmp (slice_cmp nat_cmp) a.0 b.0) (slice_cmp nat_cmp a.1 b.1)
    ∙ (λ i. equal_prefix a.0 b.0 i && is_eq-slice_cmp a.1 b.1 i)
