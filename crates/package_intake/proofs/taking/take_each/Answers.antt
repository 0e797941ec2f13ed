use Rattle.std.proofs.Common.{◌≡◌, ◌+◌, ◌≤◌, List, [], ◌∷◌, ◌++◌, Ok, map, take, drop, refl, sym, ap, ◌∙◌, subst, subst₂, arith, All, IsSome, length, Result}
use Rattle.std.proofs.lemmas.List.{map-append}
use Rattle.std.proofs.lemmas.Result.{err_from_is_err_and}
use Rattle.std.specs.List.{Contains}
use Rattle.std.proofs.lemmas.List.Elements.{All-contains_itself}
use Rattle.std.specs.Rc.{rc_value}
use Rattle.std.specs.BTreeMap.{get}
use Rattle.ap_text.specs.Paths.{below_folder}
use Rattle.ap_host.specs.Changes.{GoesOn}
use Rattle.ap_host.proofs.ChangeLemmas.{GoesOn-then, GoesOn-none}
use Rattle.package_core.specs.Card.{Card, IsPackage}
use Rattle.package_core.specs.Whole.{IsSaid}
use Rattle.package_core.specs.Order.{package_cmp}
use Rattle.package_core.proofs.OrderLaws.{package_total}
use Rattle.package_list.specs.Sorted.{IsAscending}
use Rattle.machine_state.specs.declared.arrived.UpdateFault.{UpdateFault}
use Rattle.machine_state.specs.declared.refusal.Refusal.{Refusal}
use Rattle.package_intake.specs.Taking.{each_taken, taken_file}
use Rattle.package_intake.specs.Additions.{AddsOne, AddsAll}
use Rattle.package_intake.specs.Steps.{Gives, FaultGives}
use Rattle.hash_pool.specs.Bodies.{HasBody}
use Rattle.package_intake.specs.Inside.{path_at}
use Rattle.package_intake.specs.Taking.{AreTakenIn}
use Rattle.package_intake.proofs.ListLemmas.{AreEqual, ascending_alike, next_taken, at_member, all_first, split_at}
use Rattle.package_intake.specs.Faults.{FaultOfFiles}
use Rattle.package_intake.proofs.FaultLemmas.{among_files, handed_on}
use Rattle.package_intake.proofs.TakenLemmas.{each_more, each_fault, taken_more, equal_more}
use Rattle.package_intake.proofs.LogLemmas.{all_none, all_nothing, all_more, all_stops}
use Rattle.package_intake.proofs.taking.take_each.Goals as goal

pub returns-in_err-files-clause-log : goal.returns-in_err-files-clause-log
returns-in_err-files-clause-log g c = GoesOn-none _ _ _ refl (λ l. all_nothing _ _ _ c.from_residual.result _ l c.from_residual.ensures.0)

pub returns-in_err-taken-clause-log : goal.returns-in_err-taken-clause-log
returns-in_err-taken-clause-log g c = GoesOn-none _ _ _ refl (λ l. all_nothing _ _ _ c.from_residual-in_err-taken.result _ l c.from_residual-in_err-taken.ensures.0)

pub loop-one-init : goal.loop-one-init
loop-one-init g c =
    let none : map rc_value c.in_ok-taken.taken.items ≡ [] = ap (map rc_value) c.in_ok-taken.ensures.items in
    record {
      log = GoesOn-none _ _ _ refl (λ l. all_none _ _ _ _ _ l none);
      inbox_same = refl;
      later = omega arith;
      inbox_later = omega arith;
      are_equal = subst (AreEqual package_total []) (sym none) tt;
      were_taken = λ a b. subst (AreTakenIn c.args.known.now []) (sym none) tt;
      as_told = λ a b f told. ap Ok (sym none);
    }

pub take_next-requires-clause-path : goal.take_next-requires-clause-path
take_next-requires-clause-path g c =
    at_member rc_value (λ p. IsSome (get package_cmp c.args.paths.now p)) c.args.list.now (map rc_value c.args.list.now) c.loop-one.one-index c.one-item.result refl c.requires.paths c.loop-one-test.true c.one-item.is

pub returns-in_err-next-clause-told : goal.returns-in_err-next-clause-told
returns-in_err-next-clause-told g c catalogue short f told =
    let e = err_from_is_err_and c.from_residual-in_err-next.result c.from_residual-in_err-next.ensures.1 in
    let i = c.loop-one.one-index in
    let items = c.args.list.now in
    let x : Card = c.one-item.result.value in
    let known = c.args.known.now in
    let folder = c.args.folder.now in
    let paths = c.args.paths.now in
    let take_it : Card → Result Card Refusal = λ p. taken_file f known (below_folder folder (path_at paths p)) p in
    let here = at_member rc_value (λ p. length (below_folder folder (path_at paths p)) ≤ 1000) items (map rc_value c.args.list.now) i c.one-item.result refl short c.loop-one-test.true c.one-item.is in
    let fault : FaultGives c.in_err-next.field-0.0 (take_it x) = c.in_err-next.ensures.told catalogue here f (c.loop-one.invariant.inbox_same ∙ told) in
    let all = each_fault take_it (take i (map rc_value items)) (map rc_value c.loop-one.taken.items) x (drop (i + 1) (map rc_value items)) c.in_err-next.field-0.0 (c.loop-one.invariant.as_told catalogue short f told) fault in
    let whole = split_at rc_value items (map rc_value c.args.list.now) i c.one-item.result refl c.loop-one-test.true c.one-item.is in
    let is : FaultGives c.in_err-next.field-0.0 (each_taken take_it (map rc_value c.args.list.now)) = subst (λ (ps : List Card). FaultGives c.in_err-next.field-0.0 (each_taken take_it ps)) whole all in
    subst (λ (r : Result (List Card) UpdateFault). Gives r (each_taken take_it (map rc_value c.args.list.now))) (sym e.1) (subst (λ (x : UpdateFault). FaultGives x (each_taken take_it (map rc_value c.args.list.now))) (sym e.2) is)

pub returns-in_err-next-clause-log : goal.returns-in_err-next-clause-log
returns-in_err-next-clause-log g c =
    let log = subst (λ m. GoesOn (g.H.Host.log c.loop-one.host) (g.H.Host.log c.take_next.new.host) (AddsOne m c.one-item.result.value (λ f. All (HasBody f) c.args.known.now) c.take_next.result c.loop-one.stage c.take_next.new.stage)) c.loop-one.invariant.inbox_same c.take_next.ensures.log in
    let member = at_member rc_value (Contains (map rc_value c.args.list.now)) c.args.list.now (map rc_value c.args.list.now) c.loop-one.one-index c.one-item.result refl (All-contains_itself (map rc_value c.args.list.now)) c.loop-one-test.true c.one-item.is in
    GoesOn-then _ _ _ _ _ _ c.loop-one.invariant.log log (λ l a b h n. all_stops _ _ _ _ c.one-item.result.value member _ _ _ _ l a b h n c.from_residual-in_err-next.result c.from_residual-in_err-next.ensures.0)

pub returns-in_err-push-clause-log : goal.returns-in_err-push-clause-log
returns-in_err-push-clause-log g c =
    let log = subst (λ m. GoesOn (g.H.Host.log c.loop-one.host) (g.H.Host.log c.take_next.new.host) (AddsOne m c.one-item.result.value (λ f. All (HasBody f) c.args.known.now) c.take_next.result c.loop-one.stage c.take_next.new.stage)) c.loop-one.invariant.inbox_same c.take_next.ensures.log in
    let member = at_member rc_value (Contains (map rc_value c.args.list.now)) c.args.list.now (map rc_value c.args.list.now) c.loop-one.one-index c.one-item.result refl (All-contains_itself (map rc_value c.args.list.now)) c.loop-one-test.true c.one-item.is in
    GoesOn-then _ _ _ _ _ _ c.loop-one.invariant.log log (λ l a b h n. all_stops _ _ _ _ c.one-item.result.value member _ _ _ _ l a b h n c.from_residual-in_err-push.result c.from_residual-in_err-push.ensures.0)

pub returns-in_err-next-clause-mismatch : goal.returns-in_err-next-clause-mismatch
returns-in_err-next-clause-mismatch g c =
    let e = err_from_is_err_and c.from_residual-in_err-next.result c.from_residual-in_err-next.ensures.1 in
    let member = at_member rc_value (Contains (map rc_value c.args.list.now)) c.args.list.now (map rc_value c.args.list.now) c.loop-one.one-index c.one-item.result refl (All-contains_itself (map rc_value c.args.list.now)) c.loop-one-test.true c.one-item.is in
    handed_on c.from_residual-in_err-next.result (FaultOfFiles c.args.folder.now (path_at c.args.paths.now) (map rc_value c.args.list.now)) e.0 c.in_err-next.field-0.0 e.1 e.2
    (among_files c.args.folder.now (path_at c.args.paths.now) (map rc_value c.args.list.now) c.one-item.result.value c.in_err-next.field-0.0 member c.in_err-next.ensures.mismatch)

pub loop-one-preserved : goal.loop-one-preserved
loop-one-preserved g c =
    let i = c.loop-one.one-index in
    let items = c.args.list.now in
    let x : Card = c.one-item.result.value in
    let q : Card = c.in_ok-next.next in
    let known = c.args.known.now in
    let folder = c.args.folder.now in
    let paths = c.args.paths.now in
    let ys : List Card = map rc_value c.loop-one.taken.items in
    let took : take (i + 1) (map rc_value items) ≡ take i (map rc_value items) ++ x ∷ [] = next_taken rc_value items i c.one-item.result c.loop-one-test.true c.one-item.is in
    let pushed : map rc_value c.push.new.self.items ≡ ys ++ q ∷ [] = ap (map rc_value) c.in_ok-push.ensures.items ∙ map-append rc_value c.loop-one.taken.items (c.into_shared.result ∷ []) ∙ ap (λ (p : Card). ys ++ p ∷ []) c.into_shared.ensures in
    let log = subst (λ m. GoesOn (g.H.Host.log c.loop-one.host) (g.H.Host.log c.take_next.new.host) (AddsOne m x (λ f. All (HasBody f) known) c.take_next.result c.loop-one.stage c.take_next.new.stage)) c.loop-one.invariant.inbox_same c.take_next.ensures.log in
    let member = at_member rc_value (Contains (map rc_value c.args.list.now)) items (map rc_value c.args.list.now) i c.one-item.result refl (All-contains_itself (map rc_value c.args.list.now)) c.loop-one-test.true c.one-item.is in
    record {
      log = GoesOn-then _ _ _ _ _ _ c.loop-one.invariant.log log (λ l a b h n. subst (λ (zs : List Card). AddsAll (g.I.Inbox.map c.args.inbox.now) (map rc_value c.args.list.now) known (Ok zs) c.args.stage.now c.take_next.new.stage l (a ++ b)) (sym pushed) (all_more _ (map rc_value c.args.list.now) known ys x member c.take_next.result _ _ _ l a b h n q c.in_ok-next.was));
      inbox_same = c.take_next.ensures.map ∙ c.loop-one.invariant.inbox_same;
      later = omega (arith, c.loop-one.invariant.later, c.take_next.ensures.cause.later);
      inbox_later = omega (arith, c.loop-one.invariant.inbox_later, c.take_next.ensures.input.later);
      are_equal = subst₂ (AreEqual package_total) (sym took) (sym pushed) (equal_more (take i (map rc_value items)) ys x q c.loop-one.invariant.are_equal c.in_ok-next.ensures.same);
      were_taken = λ catalogue good.
          let here = at_member rc_value (λ p. IsPackage p × IsSaid p.said) items (map rc_value c.args.list.now) i c.one-item.result refl good c.loop-one-test.true c.one-item.is in
          subst₂ (AreTakenIn known) (sym took) (sym pushed) (taken_more known (take i (map rc_value items)) ys x q (c.loop-one.invariant.were_taken catalogue good) (c.in_ok-next.ensures.taken catalogue here.0 here.1));
      as_told = λ catalogue short f told.
          let here = at_member rc_value (λ p. length (below_folder folder (path_at paths p)) ≤ 1000) items (map rc_value c.args.list.now) i c.one-item.result refl short c.loop-one-test.true c.one-item.is in
          let take_it : Card → Result Card Refusal = λ p. taken_file f known (below_folder folder (path_at paths p)) p in
          ap (each_taken take_it) took ∙ each_more take_it (take i (map rc_value items)) ys x q (c.loop-one.invariant.as_told catalogue short f told) (c.in_ok-next.ensures.told catalogue here f (c.loop-one.invariant.inbox_same ∙ told)) ∙ ap Ok (sym pushed);
    }

pub from_ascending-requires : goal.from_ascending-requires
from_ascending-requires g c =
    let whole = all_first rc_value c.args.list.now (map rc_value c.args.list.now) c.loop-one.one-index refl c.loop-one-test.false in
    ascending_alike package_total (take c.loop-one.one-index (map rc_value c.args.list.now)) (map rc_value c.loop-one.taken.items) c.loop-one.invariant.are_equal (subst (IsAscending package_cmp) (sym whole) c.requires.ascending)

pub returns-clause-told : goal.returns-clause-told
returns-clause-told g c catalogue short f told =
    let whole = all_first rc_value c.args.list.now (map rc_value c.args.list.now) c.loop-one.one-index refl c.loop-one-test.false in
    ap (each_taken (λ p. taken_file f c.args.known.now (below_folder c.args.folder.now (path_at c.args.paths.now p)) p)) (sym whole) ∙ c.loop-one.invariant.as_told catalogue short f told ∙ ap Ok (sym c.from_ascending.ensures)

pub returns-clause-taken : goal.returns-clause-taken
returns-clause-taken g c catalogue good =
    let whole = all_first rc_value c.args.list.now (map rc_value c.args.list.now) c.loop-one.one-index refl c.loop-one-test.false in
    subst₂ (AreTakenIn c.args.known.now) whole (sym c.from_ascending.ensures) (c.loop-one.invariant.were_taken catalogue good)

pub returns-clause-log : goal.returns-clause-log
returns-clause-log g c =
    subst (λ (zs : List Card). GoesOn (g.H.Host.log c.args.host.now) (g.H.Host.log c.loop-one.host) (AddsAll (g.I.Inbox.map c.args.inbox.now) (map rc_value c.args.list.now) c.args.known.now (Ok zs) c.args.stage.now c.loop-one.stage)) (sym c.from_ascending.ensures) c.loop-one.invariant.log
