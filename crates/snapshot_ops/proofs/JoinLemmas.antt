-- Lists by name that are merged are one.
use Rattle.std.proofs.Common.{◌≡◌, Bool, true, false, not, ◌&&◌, List, [], ◌∷◌, Result, Ok, Err, refl, sym, ap, ◌∙◌, subst, true≢false, Ordering, Less, Equal, Greater}
use Rattle.std.specs.Ordering.{is_eq, is_lt, ordering_reverse}
use Rattle.std.specs.List.{AllByRecursion}
use Rattle.std.proofs.lemmas.List.Elements.{All-filter}
use Rattle.package_core.specs.Card.{Card}
use Rattle.package_core.specs.Order.{package_cmp, same_triple}
use Rattle.package_core.proofs.OrderLaws.{package_total}
use Rattle.package_list.specs.declared.list.TheConstants.{MOST_MEMBERS}
use Rattle.package_list.specs.declared.fault.ListFault.{ListFault}
use Rattle.package_list.specs.declared.fault.ListFault.TheVariants as faults
use Rattle.package_list.specs.Answers.{size_answer}
use Rattle.package_list.specs.Lists.{clash, clashes, greatest, has_clash, has_greater, latest, same_key, union}
use Rattle.package_list.proofs.SortedLemmas.{union_ascending}
use Rattle.package_list.proofs.Unions.{filter_ascending}
use Rattle.machine_state.specs.declared.limit.Limit.TheVariants.{Packages}
use Rattle.machine_state.specs.declared.refusal.Refusal.{Refusal}
use Rattle.machine_state.specs.declared.refusal.Refusal.TheVariants.{Conflict, Limit}
use Rattle.machine_state.specs.Lists.{IsKnown, IsNamedList}
use Rattle.machine_state.proofs.ListLemmas.{named_union, union_all}
use Rattle.snapshot_pull.proofs.JoinLemmas.{apart_keys, each_kept, each_passed, each_so, each_turned, each_with, few_of, key_turned, named_merged, none_any, none_of}
use Rattle.snapshot_ops.specs.Merges.{join_answer, joined_so, merge_behind, or_refused, where_joined}
use Rattle.snapshot_ops.specs.declared.way.Way.{Way}
use Rattle.snapshot_ops.specs.declared.way.Way.TheVariants.{Replacing, Keeping, Latest}

module _ (known own more : List Card) (n : IsNamedList known own) (m : IsNamedList known more) where
  -- ---- the greatest alone

  abbrev all : List Card
  all = union own more

  -- no other of the name and architecture of one of them is greater
  abbrev NotGreater : Card → Card → Type 0
  NotGreater p q = (same_key q p && is_lt (package_cmp p q)) ≡ false

  none_greater : AllByRecursion (λ p. AllByRecursion (NotGreater p) (greatest all)) (greatest all)
  none_greater =
      each_so (λ p. has_greater all p ≡ false) (λ p. AllByRecursion (NotGreater p) (greatest all))
      (λ p e. each_kept (NotGreater p) (λ x. not (has_greater all x)) all (none_of (λ q. same_key q p && is_lt (package_cmp p q)) all e)) (greatest all) (each_passed (has_greater all) all)

  no_clash : (p q : Card) → NotGreater p q → NotGreater q p → clash q p ≡ false
  no_clash p q a b = by_key (same_key q p) refl
    where
      never : (x : Bool) → (x && false) ≡ false
      never true = refl
      never false = refl

      by_order : (o : Ordering) → package_cmp q p ≡ o → same_key q p ≡ true → clash q p ≡ false
      by_order Less e k = absurd (true≢false (sym (λ i. (key_turned p q ∙ k) i && is_lt (e i)) ∙ b))
      by_order Equal e k = ap (λ o. same_triple q p && not (is_eq o)) e ∙ never (same_triple q p)
      by_order Greater e k = absurd (true≢false (sym (λ i. k i && is_lt ((package_total.antisymm p q ∙ ap ordering_reverse e) i)) ∙ a))

      by_key : (c : Bool) → same_key q p ≡ c → clash q p ≡ false
      by_key false k = apart_keys q p k
      by_key true k = by_order (package_cmp q p) refl k

  latest_apart : has_clash (latest own more) ≡ false
  latest_apart =
      none_any (clashes (greatest all)) (greatest all)
      (each_with (λ p. AllByRecursion (NotGreater p) (greatest all)) (λ p. AllByRecursion (λ q. NotGreater q p) (greatest all)) (λ p. clashes (greatest all) p ≡ false)
      (λ p f g. none_any (λ q. clash q p) (greatest all) (each_with (NotGreater p) (λ q. NotGreater q p) (λ q. clash q p ≡ false) (λ q a b. no_clash p q a b) (greatest all) f g))
      (greatest all) none_greater (each_turned NotGreater (greatest all) (greatest all) none_greater))

  pub named_latest : size_answer MOST_MEMBERS (latest own more) ≡ Ok tt → IsNamedList known (latest own more)
  named_latest h = record {
    sorted = filter_ascending package_total (λ x. not (has_greater all x)) all (union_ascending package_total own more n.sorted);
    apart = latest_apart;
    listed = All-filter (λ x. not (has_greater all x)) (IsKnown known) all (union_all (IsKnown known) own more n.listed m.listed);
    few = few_of known own more n m (latest own more) h;
  }

  -- ---- a source that joins

  pub named_joined : (way : Way) → join_answer way own more ≡ Ok tt → IsNamedList known (joined_so way own more)
  named_joined Replacing h = named_merged known own more n m h
  named_joined Keeping h = named_union known own more n m h
  named_joined Latest h = named_latest h

-- what is made of lists by name is one
pub named_behind : (known : List Card) (way : Way) (own : List Card) (sources : List (List Card)) (list : List Card) → IsNamedList known own → AllByRecursion (IsNamedList known) sources → merge_behind way own sources ≡ Ok list → IsNamedList known list
named_behind known way own [] list n each h = let e : own ≡ list = cc in subst (IsNamedList known) e n
named_behind known way own (more ∷ sources) list n each h =
    by_answer (join_answer way own more) refl h (λ e g. named_behind known way (joined_so way own more) sources list (named_joined known own more n each.0 way e) each.1 g)
  where
    rest : Result (List Card) Refusal
    rest = merge_behind way (joined_so way own more) sources

    never : (refusal : Refusal) → where_joined (Err refusal) rest ≡ Ok list → IsNamedList known list
    never refusal f = cc

    by_answer : (r : Result (Unit {0}) ListFault) → join_answer way own more ≡ r → where_joined (or_refused r) rest ≡ Ok list → (join_answer way own more ≡ Ok tt → rest ≡ Ok list → IsNamedList known list) → IsNamedList known list
    by_answer (Ok u) e g next = next e g
    by_answer (Err (faults.Conflict triple)) e g next = never (Conflict triple) g
    by_answer (Err faults.Full) e g next = never (Limit Packages) g
    by_answer (Err faults.OutOfMemory) e g next = never (Limit Packages) g
