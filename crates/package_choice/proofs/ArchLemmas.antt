-- Sets of names, and the architectures of packages.
use Rattle.std.proofs.Common.{◌≡◌, ℕ, List, [], ◌∷◌, ◌++◌, not, refl, ap, sym, ◌∙◌, Ordering, Less, Equal, Greater, map}
use Rattle.std.specs.Ordering.{ordering_reverse, match_ordering}
use Rattle.std.specs.List.{filter}
use Rattle.std.specs.Str.{bytes_eq}
use Rattle.std.specs.BTreeSet.{insert_key}
use Rattle.std.proofs.lemmas.Cmp.{nat_list_cmp_total}
use Rattle.std.proofs.lemmas.List.{map-append}
use Rattle.std.proofs.lemmas.List.Elements.{filter-append}
use Rattle.package_core.specs.Card.{Card}
use Rattle.package_core.specs.Order.{text_cmp}
use Rattle.package_list.specs.Sorted.{put, placed, union}
use Rattle.package_choice.specs.Choice.{all_archs, archs_met}

-- a name comes to its place
pub name_is_put : (xs : List (List ℕ)) (p : List ℕ) → insert_key text_cmp xs p ≡ put text_cmp xs p
name_is_put [] p = refl
name_is_put (x ∷ xs) p = by_order (text_cmp p x) refl (name_is_put xs p)
  where
    by_order : (t : Ordering) → text_cmp p x ≡ t → insert_key text_cmp xs p ≡ put text_cmp xs p → match_ordering t (p ∷ x ∷ xs) (x ∷ xs) (x ∷ insert_key text_cmp xs p) ≡ placed text_cmp (text_cmp x p) x p xs (put text_cmp xs p)
    by_order Less e more = ap (λ r. placed text_cmp r x p xs (put text_cmp xs p)) (sym (nat_list_cmp_total.antisymm x p ∙ ap ordering_reverse e))
    by_order Equal e more = ap (λ r. placed text_cmp r x p xs (put text_cmp xs p)) (sym (nat_list_cmp_total.antisymm x p ∙ ap ordering_reverse e))
    by_order Greater e more = ap (λ l. x ∷ l) more ∙ ap (λ r. placed text_cmp r x p xs (put text_cmp xs p)) (sym (nat_list_cmp_total.antisymm x p ∙ ap ordering_reverse e))

-- what comes in two parts comes
pub union_both : (xs ys zs : List (List ℕ)) → union text_cmp xs (ys ++ zs) ≡ union text_cmp (union text_cmp xs ys) zs
union_both xs [] zs = refl
union_both xs (y ∷ ys) zs = union_both (put text_cmp xs y) ys zs

-- the architectures of two lists
pub met_both : (xs ys : List Card) → archs_met (xs ++ ys) ≡ archs_met xs ++ archs_met ys
met_both xs ys =
    ap (filter (λ arch. not (bytes_eq arch all_archs))) (map-append (λ (p : Card). p.arch) xs ys)
    ∙ filter-append (λ arch. not (bytes_eq arch all_archs)) (map (λ (p : Card). p.arch) xs) (map (λ (p : Card). p.arch) ys)

pub joined_both : (keys : List (List ℕ)) (xs ys : List Card) → union text_cmp (union text_cmp keys (archs_met xs)) (archs_met ys) ≡ union text_cmp keys (archs_met (xs ++ ys))
joined_both keys xs ys = sym (union_both keys (archs_met xs) (archs_met ys)) ∙ ap (union text_cmp keys) (sym (met_both xs ys))
