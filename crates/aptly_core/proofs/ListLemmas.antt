-- Commands in turn.
use Rattle.std.proofs.Common.{◌≡◌, ℕ, ◌+◌, ◌<◌, ◌≤◌, List, [], ◌∷◌, ◌++◌, length, drop, map, get_or, drop-cons, add-one, Option, Some, None, Ok, Err, refl, sym, ◌∙◌, ap, subst, append-nil}
use Rattle.std.proofs.Math.ListN.{drop_of_length-le}
use Rattle.std.proofs.lemmas.List.{get_or-map, length-map}
use Rattle.ap_host.specs.declared.host.Op.{Op}
use Rattle.ap_host.specs.Disk.{Log, extended, said}
use Rattle.ap_host.specs.Changes.{EachOp}
use Rattle.ap_host.proofs.ChangeLemmas.{EachOp-append}
use Rattle.ap_host.proofs.DiskLemmas.{extended-append, extended-none}
use Rattle.command_words.specs.Plain.{PlainCommand}
use Rattle.run_model.specs.Run.{Outcome, Ran, Runs, EndsAs}
use Rattle.run_model.proofs.Joins.{said-append, turn_done, turn_refused, turn_broke, ran_nothing, done_told}
use Rattle.stage_file.specs.Stage.{StageState}
use Rattle.machine_state.specs.declared.refusal.Refusal.{Refusal}
use Rattle.machine_state.specs.State.{Valid}
use Rattle.machine_state.specs.Values.{StateView}
use Rattle.machine_step.specs.Step.{Given}
use Rattle.reply_text.specs.Refusals.{refusal_line}
use Rattle.aptly_core.specs.declared.fault.RunFault.{RunFault}
use Rattle.aptly_core.specs.declared.fault.RunFault.TheVariants.{HostFault, InboxFault, OutOfMemory}
use Rattle.aptly_core.specs.declared.status.Status.{Status}
use Rattle.aptly_core.specs.declared.status.Status.TheVariants as statuses
use Rattle.aptly_core.specs.Machine.{machine, IsWork}
use Rattle.aptly_core.specs.Runs.{MayRun, RunsOne, RunsList, RanTo, EndsWith, ComesTo, Turns, TurnComes, TurnRan, IsTurnEnd, next_of_done, status_of_fault}
use Rattle.aptly_core.proofs.Lawful.{lawful, plain, refused_says}

pub turn_so : (given : Given) (T : Option (List ℕ) → Type 0) (s : StateView) (c : PlainCommand) (before now : StageState) (done : StateView × Option Refusal) (l : Log) (ops : List Op) → RunsOne given T s c before now (Ok done) l ops → Turns given T s c before now (next_of_done done) l ops
turn_so given T s c before now (t, None) l ops w = record {
  work = w.work;
  refused = λ valid r no. absurd (cc);
  ran = λ may k. let ran = w.ran may in done_told (machine given) (lawful given) ran.0 k l s c t None ops refl ran.2;
  on = w.on;
}
turn_so given T s c before now (t, Some q) l ops w = record {
  work = w.work;
  refused = λ valid r is. let one : q ≡ r = cc in let step = w.says valid in refused_says given step.0 s c (record { reply = said ops; refusal = Some q; state = t }) q step.2 refl ∙ ap refusal_line one;
  ran = λ may. let ran = w.ran may in (ran.0, ran.1, t, ran.2);
  on = λ may. tt;
}

pub turn_err : (given : Given) (T : Option (List ℕ) → Type 0) (s : StateView) (c : PlainCommand) (before now : StageState) (fault : RunFault) (l : Log) (ops : List Op) → RunsOne given T s c before now (Err fault) l ops → Turns given T s c before now (Err (status_of_fault fault)) l ops
turn_err given T s c before now HostFault l ops w = record { work = w.work; refused = λ valid r no. absurd (cc); ran = w.ran; on = λ may. tt }
turn_err given T s c before now InboxFault l ops w = record { work = w.work; refused = λ valid r no. absurd (cc); ran = w.ran; on = λ may. tt }
turn_err given T s c before now OutOfMemory l ops w = record { work = w.work; refused = λ valid r no. absurd (cc); ran = w.ran; on = λ may. tt }

pub turn_comes : (given : Given) (T : Option (List ℕ) → Type 0) (s : StateView) (c : PlainCommand) (done : StateView × Option Refusal) → ComesTo given T s c done → TurnComes given T s c (next_of_done done)
turn_comes given T s c (t, None) w = (w.0, w.1, λ k. plain given w.2 k s c (record { reply = w.1; refusal = None; state = t }) refl w.4)
turn_comes given T s c (t, Some q) w = (t, w)

-- whatever outcomes the commands from i on come to from here, all of them come to from the start
abbrev pub ComesFrom : Given → StateView → List PlainCommand → StateView → ℕ → Type 0
ComesFrom given s0 all s i = Valid s0 → Valid s × ((k : Option (List ℕ)) (os : List (Outcome StateView Refusal)) (last : Option Refusal) → Runs (machine given) k s (drop i all) os → EndsAs (drop i all) os last
    → (whole : List (Outcome StateView Refusal)) × Runs (machine given) k s0 all whole × EndsAs all whole last)

abbrev pub Goes : Given → StateView → List PlainCommand → StateView → ℕ → Log → List Op → Type 0
Goes given s0 all s i start a = (k : Option (List ℕ)) (end : Option (StateView × Option Refusal)) (more : List Op) → Ran (machine given) k (extended a start) s (drop i all) end more → Ran (machine given) k start s0 all end (a ++ more)

-- so far these operations were done
pub record RunsFrom (given : Given) (s0 : StateView) (all : List PlainCommand) (before : StageState) (s : StateView) (i : ℕ) (now : StageState) (start : Log) (ops : List Op) : Type 0 where
  pub work : EachOp IsWork ops
  pub ran : MayRun given s0 before start → MayRun given s now (extended ops start)
      × ((k : Option (List ℕ)) (end : Option (StateView × Option Refusal)) (more : List Op) → Ran (machine given) k (extended ops start) s (drop i all) end more → Ran (machine given) k start s0 all end (ops ++ more))

pub comes_first : (given : Given) (s : StateView) (all : List PlainCommand) → ComesFrom given s all s 0
comes_first given s all valid = (valid, λ k os last runs ends. (os, runs, ends))

pub runs_first : (given : Given) (s : StateView) (all : List PlainCommand) (st : StageState) (start : Log) → RunsFrom given s all st s 0 st start []
runs_first given s all st start = record {
  work = tt;
  ran = λ may. (
    subst (λ (x : Log). MayRun given s st x) (sym (extended-none start)) may,
    λ k end more ran. subst (λ (x : Log). Ran (machine given) k x s all end more) (extended-none start) ran,
  );
}

module _ (given : Given) (s0 : StateView) (all : List PlainCommand) (s : StateView) (i : ℕ) (c : PlainCommand) (below : i < length all) (is : c ≡ get_or all i c) where
  cut : drop i all ≡ c ∷ drop (i + 1) all
  cut = drop-cons all i c below ∙ ap (λ n. get_or all i c ∷ drop n all) (sym (add-one i)) ∙ ap (λ (x : PlainCommand). x ∷ drop (i + 1) all) (sym is)

  pub comes_more : (T : Option (List ℕ) → Type 0) (next : StateView) → ComesFrom given s0 all s i → (Valid s → TurnComes given T s c (Ok next)) → ComesFrom given s0 all next (i + 1)
  comes_more T next so_far comes valid =
      let before = so_far valid in
      let step = comes before.0 in (
        step.0,
        λ k os last runs ends.
            let o : Outcome StateView Refusal = record { reply = step.1; refusal = None; state = next } in
            before.1 k (o ∷ os) last (subst (λ (cs : List PlainCommand). Runs (machine given) k s cs (o ∷ os)) (sym cut) (step.2 k, runs)) (subst (λ (cs : List PlainCommand). EndsAs cs (o ∷ os) last) (sym cut) ends),
      )

  -- what one command is told is told to all
  module _ (T U : Option (List ℕ) → Type 0) (wider : (k : Option (List ℕ)) → T k → U k) where
    pub comes_end : (end : Status) → IsTurnEnd end → ComesFrom given s0 all s i → (Valid s → TurnComes given T s c (Err end)) → Valid s0 → EndsWith given U s0 all end
    comes_end statuses.Done only so_far comes valid = absurd only
    comes_end (statuses.Refused r) only so_far comes valid =
        let before = so_far valid in
        let step = comes before.0 in
        let o : Outcome StateView Refusal = record { reply = step.1.1; refusal = Some r; state = step.0 } in
        let k = step.1.2 in
        let whole = before.1 k (o ∷ []) (Some r) (subst (λ (cs : List PlainCommand). Runs (machine given) k s cs (o ∷ [])) (sym cut) (step.1.4, refl)) (subst (λ (cs : List PlainCommand). EndsAs cs (o ∷ []) (Some r)) (sym cut) (refl, refl)) in
        (k, wider k step.1.3, whole.0, whole.1, whole.2)
    comes_end (statuses.Usage p) only so_far comes valid = tt
    comes_end statuses.HostFault only so_far comes valid = tt
    comes_end statuses.InboxFault only so_far comes valid = tt
    comes_end statuses.OutOfMemory only so_far comes valid = tt
    comes_end (statuses.Damaged d) only so_far comes valid = tt
    comes_end statuses.Busy only so_far comes valid = tt

    module _ (st mid now : StageState) (start : Log) (a : List Op) (so_far : RunsFrom given s0 all st s i mid start a) (b : List Op) where
      this : (k : Option (List ℕ)) (end : Option (StateView × Option Refusal)) → Ran (machine given) k (extended a start) s (c ∷ []) end b → Ran (machine given) k (extended a start) s (get_or all i c ∷ []) end b
      this k end ran = subst (λ (x : PlainCommand). Ran (machine given) k (extended a start) s (x ∷ []) end b) is ran

      pub runs_more : (next : StateView) → Turns given T s c mid now (Ok next) (extended a start) b → RunsFrom given s0 all st next (i + 1) now start (a ++ b)
      runs_more next turns = record {
        work = EachOp-append IsWork a b so_far.work turns.work;
        ran = λ may.
            let before = so_far.ran may in
            let turn = turns.ran before.0 in (
              subst (λ (m : Log). MayRun given next now m) (extended-append a b start) (turns.on before.0),
              λ k. turn_done (machine given) (lawful given) k start s0 all a s i c below (before.1 k) next None refl b (this k (Some (next, None)) (turn k)),
            );
      }

      pub runs_end : (end : Status) → IsTurnEnd end → ComesFrom given s0 all s i → Turns given T s c mid now (Err end) (extended a start) b → RunsList given U s0 all st end start (a ++ b)
      runs_end end only comes turns = record {
        work = EachOp-append IsWork a b so_far.work turns.work;
        refused = λ valid r e. (said a, said-append a b ∙ ap (λ (x : List ℕ). said a ++ x) (turns.refused (comes valid).0 r (ap (λ (x : Status). Err x) e)));
        ran = λ may. let before = so_far.ran may in go end only before.1 (turns.ran before.0);
      }
        where
          broke : Goes given s0 all s i start a → (w : (k : Option (List ℕ)) × T k × Ran (machine given) k (extended a start) s (c ∷ []) None b) → (k : Option (List ℕ)) × U k × Ran (machine given) k start s0 all None (a ++ b)
          broke on w = (w.0, wider w.0 w.1, turn_broke (machine given) (lawful given) w.0 start s0 all a s i c below (on w.0) b (this w.0 None w.2))

          go : (end : Status) → IsTurnEnd end → Goes given s0 all s i start a → TurnRan given T (extended a start) s c (Err end) b → RanTo given U start s0 all end (a ++ b)
          go statuses.Done only on ran = absurd only
          go (statuses.Refused r) only on ran = (ran.0, wider ran.0 ran.1, (ran.2, turn_refused (machine given) (lawful given) ran.0 start s0 all a s i c below (on ran.0) ran.2 (Some r) r refl b (this ran.0 (Some (ran.2, Some r)) ran.3)))
          go (statuses.Usage p) only on ran = absurd only
          go statuses.HostFault only on ran = broke on ran
          go statuses.InboxFault only on ran = broke on ran
          go statuses.OutOfMemory only on ran = broke on ran
          go (statuses.Damaged d) only on ran = absurd only
          go statuses.Busy only on ran = absurd only

-- all were done
pub comes_all : (given : Given) (U : Option (List ℕ) → Type 0) → U None → (s0 : StateView) (all : List PlainCommand) (s : StateView) (i : ℕ) → length all ≤ i → ComesFrom given s0 all s i → Valid s0 → EndsWith given U s0 all statuses.Done
comes_all given U told s0 all s i over so_far valid =
    let none : drop i all ≡ [] = drop_of_length-le all over in
    let whole = (so_far valid).1 None [] None (subst (λ (cs : List PlainCommand). Runs (machine given) None s cs []) (sym none) tt) (subst (λ (cs : List PlainCommand). EndsAs {S = StateView} {R = Refusal} cs [] None) (sym none) refl) in
    (None, told, whole.0, whole.1, whole.2)

pub runs_all : (given : Given) (U : Option (List ℕ) → Type 0) → U None → (s0 : StateView) (all : List PlainCommand) (st : StageState) (s : StateView) (i : ℕ) (now : StageState) → length all ≤ i → (start : Log) (a : List Op) → RunsFrom given s0 all st s i now start a → RunsList given U s0 all st statuses.Done start a
runs_all given U told s0 all st s i now over start a so_far = record {
  work = so_far.work;
  refused = λ valid r no. absurd (cc);
  ran = λ may.
      let before = so_far.ran may in
      let none : List PlainCommand = [] in
      let nothing = ran_nothing (machine given) (lawful given) None (extended a start) s none (Some (s, None)) before.0.rest (refl, refl, refl) in (
        None,
        told,
        (
          s,
          subst (λ (x : List Op). Ran (machine given) None start s0 all (Some (s, None)) x) (append-nil a)
              (before.1 None (Some (s, None)) [] (subst (λ (cs : List PlainCommand). Ran (machine given) None (extended a start) s cs (Some (s, None)) []) (sym (drop_of_length-le all over)) nothing)),
        ),
      );
}

-- ---- commands as they are seen
module _ {A : Type 0} (view : A → PlainCommand) (commands : List A) (i : ℕ) where
  pub plain_below : i < length commands → i < length (map view commands)
  plain_below lt = subst (λ (n : ℕ). i < n) (sym (length-map commands view)) lt

  pub plain_over : length commands ≤ i → length (map view commands) ≤ i
  plain_over le = subst (λ (n : ℕ). n ≤ i) (sym (length-map commands view)) le

  pub plain_at : (item : A) → i < length commands → item ≡ get_or commands i item → view item ≡ get_or (map view commands) i (view item)
  plain_at item lt is = ap view is ∙ sym (get_or-map view commands i item (view item) lt)
