-- Lists of packages that don't clash.
use Rattle.std.proofs.Common.{◌≡◌, ◌≤◌, ◌+◌, Bool, true, false, not, cond, ◌&&◌, ◌||◌, List, [], ◌∷◌, ◌++◌, length, Option, Some, None, Result, Ok, Err, refl, sym, ap, ◌∙◌, subst, arith, nat_lt, ltb-true, append_assoc, append-nil, find, Ordering, Less, Equal, Greater}
use Rattle.std.specs.Ordering.{is_eq, ordering_then}
use Rattle.std.specs.Option.{option_or}
use Rattle.std.specs.List.{list_any}
use Rattle.std.specs.Result.{MatchResult}
use Rattle.std.proofs.lemmas.Cmp.{alike_right, tied_itself}
use Rattle.package_core.specs.Card.{Card, triple}
use Rattle.package_core.specs.Order.{package_cmp, triple_cmp, body_cmp, same_triple}
use Rattle.package_core.proofs.OrderLaws.{package_total, triple_total, same_triple-is}
use Rattle.package_list.specs.declared.list.TheConstants.{MOST_MEMBERS}
use Rattle.package_list.specs.declared.fault.ListFault.{ListFault}
use Rattle.package_list.specs.declared.fault.ListFault.TheVariants.{Conflict, Full}
use Rattle.package_list.specs.Sorted.{placed, put}
use Rattle.package_list.specs.Lists.{clash, clashes, has_clash, has_member, joined}
use Rattle.package_list.specs.Answers.{err_or, first_refusal, join_answer, refusal}
use Rattle.package_list.proofs.Beside.{triple_begins}
use Rattle.package_list.proofs.Gathers.{any_union, clash_alike, refused_in_turn, union_push}
use Rattle.package_list.proofs.SortedLemmas.{put_has, union_ascending}
use Rattle.machine_state.proofs.ListLemmas.{apart_union}
use Rattle.package_intake.proofs.ListLemmas.{AreEqual}

-- ---- what is joined has no clash
pub record IsApart (list : List Card) : Type 0 where
  pub apart : has_clash list ≡ false
  pub few : length list ≤ MOST_MEMBERS

and_false : (b : Bool) → (b && false) ≡ false
and_false true = refl
and_false false = refl

clash_itself : (p : Card) → clash p p ≡ false
clash_itself p = ap (λ r. same_triple p p && not (is_eq r)) (tied_itself package_total p) ∙ and_false (same_triple p p)

put_longer : (xs : List Card) (y : Card) → length (put package_cmp xs y) ≤ length xs + 1
put_longer [] y = omega arith
put_longer (x ∷ xs) y = by_order (package_cmp x y) (put_longer xs y)
  where
    by_order : (r : Ordering) → length (put package_cmp xs y) ≤ length xs + 1 → length (placed package_cmp r x y xs (put package_cmp xs y)) ≤ length (x ∷ xs) + 1
    by_order Less more = omega (arith, more)
    by_order Equal more = omega arith
    by_order Greater more = omega arith

put_apart : (xs : List Card) (p : Card) → IsApart xs → clashes xs p ≡ false → length xs + 1 ≤ MOST_MEMBERS → IsApart (put package_cmp xs p)
put_apart xs p a c few = record { apart = apart_union xs (p ∷ []) a.apart none; few = omega (arith, put_longer xs p, few) }
  where
    alone : clashes (put package_cmp xs p) p ≡ false
    alone = any_union {R = package_cmp} (λ q. clash q p) (clash_alike p) xs (p ∷ []) ∙ (λ i. c i || (clash_itself p i || false))

    none : find (clashes (put package_cmp xs p)) (p ∷ []) ≡ None
    none = ap (λ b. cond b (Some p) None) alone

abbrev inserted : Card → Bool → Bool → Bool → Result Bool ListFault
inserted p h c l = cond h (Ok false) (cond c (Err (Conflict (triple p))) (cond l (Ok true) (Err Full)))

next_apart : (before : List Card) (p : Card) → IsApart (joined before) → refusal before p ≡ None → IsApart (joined (before ++ p ∷ []))
next_apart before p a none =
    subst IsApart (sym (union_push package_cmp [] before p)) (by_tests (has_member xs p) (clashes xs p) (nat_lt (length xs) MOST_MEMBERS) refl refl refl (refused_in_turn before p))
  where
    xs : List Card
    xs = joined before

    never : (e : ListFault) → refusal before p ≡ Some e → ⊥
    never e h = let both : None ≡ Some e = sym none ∙ h in cc

    by_tests : (h c l : Bool) → has_member xs p ≡ h → clashes xs p ≡ c → nat_lt (length xs) MOST_MEMBERS ≡ l → MatchResult (inserted p h c l) (λ _. refusal before p ≡ None) (λ e. refusal before p ≡ Some e) → IsApart (put package_cmp xs p)
    by_tests true c l e f g m = subst IsApart (sym (put_has package_total xs p (union_ascending package_total [] before tt) e)) a
    by_tests false true l e f g m = absurd (never _ m)
    by_tests false false true e f g m = put_apart xs p a f (omega (arith, ltb-true (length xs) MOST_MEMBERS g))
    by_tests false false false e f g m = absurd (never _ m)

both_none : {X : Type 0} (a b : Option X) → option_or a b ≡ None → (a ≡ None) × (b ≡ None)
both_none None b h = (refl, h)
both_none (Some x) b h = cc

all_apart : (before ps : List Card) → IsApart (joined before) → first_refusal before ps ≡ None → IsApart (joined (before ++ ps))
all_apart before [] a none = subst (λ (xs : List Card). IsApart (joined xs)) (sym (append-nil before)) a
all_apart before (p ∷ ps) a none =
    let both = both_none (refusal before p) (first_refusal (before ++ p ∷ []) ps) none in
    subst (λ (xs : List Card). IsApart (joined xs)) (append_assoc before (p ∷ []) ps) (all_apart (before ++ p ∷ []) ps (next_apart before p a both.0) both.1)

pub joined_apart : (cards list : List Card) → join_answer cards ≡ Ok list → IsApart (joined cards)
joined_apart cards list h = all_apart [] cards (record { apart = refl; few = omega arith }) (none_of (first_refusal [] cards) h)
  where
    none_of : (o : Option ListFault) → err_or o (joined cards) ≡ Ok list → o ≡ None
    none_of None e = refl
    none_of (Some e) h = cc

-- ---- lists that are equal one by one clash alike
equal_triple : (t s : Ordering) → ordering_then t s ≡ Equal → t ≡ Equal
equal_triple Less s h = cc
equal_triple Equal s h = refl
equal_triple Greater s h = cc

same_clash : (q p r : Card) → package_cmp p r ≡ Equal → clash q p ≡ clash q r
same_clash q p r e =
    let t : triple_cmp p r ≡ Equal = equal_triple (triple_cmp p r) (body_cmp p r) (sym (triple_begins p r) ∙ e) in
    let s : same_triple q p ≡ same_triple q r = same_triple-is q p ∙ ap is_eq (alike_right triple_total p r q t) ∙ sym (same_triple-is q r) in
    (λ i. s i && not (is_eq (alike_right package_total p r q e i)))

any_alike : (f g : Card → Bool) → ((p q : Card) → package_cmp p q ≡ Equal → f p ≡ g q) → (ps qs : List Card) → AreEqual package_total ps qs → list_any f ps ≡ list_any g qs
any_alike f g same [] [] h = refl
any_alike f g same [] (q ∷ qs) h = absurd h
any_alike f g same (p ∷ ps) [] h = absurd h
any_alike f g same (p ∷ ps) (q ∷ qs) h = (λ i. same p q h.0 i || any_alike f g same ps qs h.1 i)

pub alike_clash : (ps qs : List Card) → AreEqual package_total ps qs → has_clash ps ≡ has_clash qs
alike_clash ps qs h = any_alike (clashes ps) (clashes qs) (λ p r e. any_alike (λ q. clash q p) (λ q. clash q r) (λ q s f. clash_alike p q s f ∙ same_clash s p r e) ps qs h) ps qs h
