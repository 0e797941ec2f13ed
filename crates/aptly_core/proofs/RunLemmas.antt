-- One command: files are taken in, the new state is committed, and then the reply is said.
use Rattle.std.proofs.Common.{◌≡◌, ◌⊎◌, inl, inr, ℕ, List, [], ◌∷◌, ◌++◌, take, drop, All, Option, Some, None, IsTrue, IsSome, IfSome, Result, Ok, Err, OnOk, unwrap_or, refl, sym, ◌∙◌, ap, subst, append-nil, append_assoc}
use Rattle.std.proofs.lemmas.List.{take-append-drop}
use Rattle.std.specs.List.{AllByRecursion}
use Rattle.ap_host.specs.declared.host.Op.{Op}
use Rattle.ap_host.specs.declared.host.Op.TheVariants.{Create, Append, Sync, Rename, Remove, Barrier, Say, Claim}
use Rattle.ap_host.specs.declared.host.HostErr.{HostErr}
use Rattle.ap_host.specs.declared.host.HostErr.TheVariants.{Failed, OutOfMemory}
use Rattle.ap_host.specs.Disk.{Path, Files, Log, Disk, extended, live_of, said, Durable}
use Rattle.ap_host.specs.Calls.{Did}
use Rattle.ap_host.specs.Changes.{EachOp}
use Rattle.ap_host.proofs.ChangeLemmas.{EachOp-append, EachOp-map, part_each, did_part, same_after}
use Rattle.ap_host.proofs.DiskLemmas.{extended-append, extended-none, disk_of-step}
use Rattle.ap_host.proofs.LegalLemmas.{law_of_live_image}
use Rattle.command_words.specs.Plain.{PlainCommand}
use Rattle.run_model.specs.Run.{Outcome, Ran, Grows, AtRest}
use Rattle.run_model.proofs.Joins.{said-append}
use Rattle.run_model.proofs.Growing.{grows_then}
use Rattle.run_model.proofs.Says.{ran_quiet, ran_front, ran_whole, ran_begun}
use Rattle.stage_file.specs.Stage.{StageState, is_staged, IsInStep}
use Rattle.stage_file.proofs.StageLemmas.{live_step_of}
use Rattle.hash_pool.specs.Names.{is_pooled}
use Rattle.hash_pool.specs.Growth.{PoolGrows, IsOnce, targets}
use Rattle.hash_pool.proofs.NameLemmas.{pooled_not_staged, not_both}
use Rattle.hash_pool.proofs.GrowthLemmas.{targets-append, law_of_growth}
use Rattle.machine_state.specs.declared.refusal.Refusal.{Refusal}
use Rattle.machine_state.specs.State.{Valid}
use Rattle.machine_state.specs.Values.{StateView}
use Rattle.machine_step.specs.declared.outcome.Outcome.{Outcome as Made}
use Rattle.machine_step.specs.Step.{Given, read_for}
use Rattle.step_model.specs.declared.reading.Reading.TheVariants as readings
use Rattle.step_model.specs.Answers.{IsNew}
use Rattle.hash_pool.specs.Bodies.{HasBody, IsMet}
use Rattle.aptly_core.specs.declared.fault.RunFault.{RunFault}
use Rattle.aptly_core.specs.Arrives.{Decides}
use Rattle.aptly_core.specs.Machine.{machine, Steps, IsWork, IsIdle, IsRemoval, SaysAtMost, is_below_one, AreTargets, Moves}
use Rattle.aptly_core.specs.Runs.{MayRun, RunsOne}
use Rattle.aptly_core.proofs.GrowLemmas.{taking_work, taking_idle, taking_sets, once_all, targets_all}
use Rattle.aptly_core.proofs.Lawful.{lawful, keeps}
use Rattle.aptly_core.specs.Apart.{BodiesApart}
use Rattle.catalogue_root.specs.Commits.{IsTarget, IsCommitting, MayCommit, Saves, Sets}
use Rattle.machine_step.proofs.StepLaws.{knows}
use Rattle.catalogue_root.specs.Store.{IsHeld, root, store}
use Rattle.catalogue_root.proofs.CommitLemmas.{rest_held, rest_valid, committing_targets}
use Rattle.catalogue_root.proofs.FitLemmas.{open_stored, bodies_of}
use Rattle.catalogue_root.proofs.GrowLemmas.{taking_each, grown_rest, grown_to, here}
use Rattle.catalogue_root.proofs.SaveLemmas.{saving_commits, saving_nothing}

pub committing_quiet : (l : Log) (a : List Op) → EachOp (IsCommitting l) a → said a ≡ []
committing_quiet l [] each = refl
committing_quiet l (Create q ∷ a) each = committing_quiet l a each.1
committing_quiet l (Append q b ∷ a) each = committing_quiet l a each.1
committing_quiet l (Sync q ∷ a) each = committing_quiet l a each.1
committing_quiet l (Rename x y ∷ a) each = committing_quiet l a each.1
committing_quiet l (Barrier ∷ a) each = committing_quiet l a each.1
committing_quiet l (Remove q ∷ a) each = absurd each.0
committing_quiet l (Say b ∷ a) each = absurd each.0
committing_quiet l (Claim b ∷ a) each = absurd each.0

pub committing_work : (l : Log) (a : List Op) → EachOp (IsCommitting l) a → EachOp IsWork a
committing_work l a each = EachOp-map (IsCommitting l) IsWork one a each
  where
    one : (op : Op) → IsCommitting l op → IsWork op
    one (Create q) w = w
    one (Append q b) w = w
    one (Sync q) w = w
    one (Rename x y) w = (w.0, subst (λ (p : Path). IsTrue (is_below_one p)) (sym w.1) refl)
    one (Remove q) w = absurd w
    one Barrier w = tt
    one (Say b) w = absurd w
    one (Claim b) w = absurd w

-- words alone
abbrev pub IsWord : Op → Type 0
IsWord (Say bytes) = Unit {0}
IsWord _ = ⊥

pub words_each : (P : Op → Type 0) → ((bytes : List ℕ) → P (Say bytes)) → (b : List Op) → EachOp IsWord b → EachOp P b
words_each P say b each = EachOp-map IsWord P one b each
  where
    one : (op : Op) → IsWord op → P op
    one (Say b) w = say b
    one (Create q) w = absurd w
    one (Append q b) w = absurd w
    one (Sync q) w = absurd w
    one (Rename x y) w = absurd w
    one (Remove q) w = absurd w
    one Barrier w = absurd w
    one (Claim b) w = absurd w

words_target : (b : List Op) → EachOp IsWord b → targets b ≡ []
words_target [] each = refl
words_target (Say x ∷ b) each = words_target b each.1
words_target (Create q ∷ a) each = absurd each.0
words_target (Append q b ∷ a) each = absurd each.0
words_target (Sync q ∷ a) each = absurd each.0
words_target (Rename x y ∷ a) each = absurd each.0
words_target (Remove q ∷ a) each = absurd each.0
words_target (Barrier ∷ a) each = absurd each.0
words_target (Claim b ∷ a) each = absurd each.0

-- no more than the reply was said
pub most_words : (reply : List ℕ) (b : List Op) → SaysAtMost reply b → EachOp IsWord b
most_words reply b (inl none) = subst (EachOp IsWord) (sym none) tt
most_words reply b (inr some) = subst (EachOp IsWord) (sym some.2) (tt, tt)

pub none_removed : (l : Log) (p : List Op) → PoolGrows l p → EachOp (λ op. ¬ IsRemoval op) p
none_removed l p grows = taking_each l (λ op. ¬ IsRemoval op) (λ q is no. no) (λ q b w no. no) (λ q is no. no) (λ a b w no. no) p grows.kinds

committing_removes : (l : Log) (a : List Op) → EachOp (IsCommitting l) a → EachOp (λ op. ¬ IsRemoval op) a
committing_removes l a each = EachOp-map (IsCommitting l) (λ op. ¬ IsRemoval op) one a each
  where
    one : (op : Op) → IsCommitting l op → ¬ IsRemoval op
    one (Remove q) w gone = absurd w
    one (Create q) w gone = gone
    one (Append q b) w gone = gone
    one (Sync q) w gone = gone
    one (Rename x y) w gone = gone
    one Barrier w gone = gone
    one (Say b) w gone = gone
    one (Claim b) w gone = gone

pub say_words : {T : Type 0} (bytes : List ℕ) (r : Result T HostErr) (b : List Op) → Did (Say bytes) r b → EachOp IsWord b
say_words bytes r b d = part_each IsWord (Say bytes) b (λ o is. elim is [ inl e ↦ subst IsWord (sym e) tt | inr e ↦ subst IsWord (sym e.1) tt ]) (did_part (Say bytes) r b d)

-- the files of the pool are as they were after a commit
abbrev pub Ends : Path → Type 0
Ends p = IsTrue (is_staged p) ⊎ (p ≡ root)

committing_live_one : (k : Log) (q : Path) → IsTrue (is_pooled q) → (op : Op) (l : Log) → IsCommitting k op → live_of (extended (op ∷ []) l) q ≡ live_of l q
committing_live_one k q is op l w = go op w
  where
    not : ¬ Ends q
    not (inl staged) = not_both (is_staged q) staged (pooled_not_staged q is)
    not (inr at) = absurd (let no = subst (λ (x : Path). IsTrue (is_pooled x)) at is in cc)

    go : (o : Op) → IsCommitting k o → live_of (extended (o ∷ []) l) q ≡ live_of l q
    go (Create p) w = (same_after Ends l (Create p ∷ []) (inl w, tt)).live q not
    go (Append p b) w = (same_after Ends l (Append p b ∷ []) (inl w.0, tt)).live q not
    go (Sync p) w = (same_after Ends l (Sync p ∷ []) (inl w, tt)).live q not
    go (Rename x y) w = (same_after Ends l (Rename x y ∷ []) ((inl w.0, inr w.1), tt)).live q not
    go Barrier w = live_step_of l Barrier q
    go (Remove p) w = absurd w
    go (Say b) w = absurd w
    go (Claim b) w = absurd w

pub committing_live : (k : Log) (q : Path) → IsTrue (is_pooled q) → (a : List Op) (l : Log) → EachOp (IsCommitting k) a → live_of (extended a l) q ≡ live_of l q
committing_live k q is [] l each = ap (λ (x : Log). live_of x q) (extended-none l)
committing_live k q is (op ∷ a) l each =
    ap (λ (x : Log). live_of x q) (sym (extended-append (op ∷ []) a l)) ∙ committing_live k q is a (extended (op ∷ []) l) each.1 ∙ committing_live_one k q is op l each.0

-- what is told apart where the pool is as it was
pub apart_along : (input : Option Files) (f g : Files) → ((q : Path) → IsTrue (is_pooled q) → g q ≡ f q) → BodiesApart input f → BodiesApart input g
apart_along input f g same apart = record {
  inbox = apart.inbox;
  told = apart.told;
  apart = λ a b x y. apart.apart a b (met a x) (met b y);
}
  where
    met : (bytes : List ℕ) → IsMet g apart.inbox bytes → IsMet f apart.inbox bytes
    met bytes (inl w) = inl (w.0, w.1, sym (same w.0 w.1) ∙ w.2)
    met bytes (inr w) = inr w

-- words leave all as it was
said_durable : (l : Log) (bytes : List ℕ) → Durable l → Durable (extended (Say bytes ∷ []) l)
said_durable l bytes durable p x may =
    durable p x (subst (λ (d : Disk). d.may p x) (disk_of-step (Say bytes) l) may) ∙ sym (live_step_of l (Say bytes) p)

pub saved_said : (k : Log) (p a : List Op) → said p ≡ [] → EachOp (IsCommitting k) a → (reply : List ℕ) (b : List Op) → b ≡ Say reply ∷ [] → said ((p ++ a) ++ b) ≡ reply
saved_said k p a quiet only reply b is =
    said-append (p ++ a) b ∙ ap (λ (t : List ℕ). t ++ said b) (said-append p a ∙ ap (λ (t : List ℕ). t ++ said a) quiet ∙ committing_quiet k a only) ∙ ap said is ∙ append-nil reply

pub saved_work : {U : Type 0} (l k : Log) (p a : List Op) → PoolGrows l p → EachOp (IsCommitting k) a → (reply : List ℕ) (v : Result U HostErr) (b : List Op) → Did (Say reply) v b → EachOp IsWork ((p ++ a) ++ b)
saved_work l k p a grows only reply v b did = EachOp-append IsWork (p ++ a) b (EachOp-append IsWork p a (taking_work l p grows.kinds) (committing_work k a only)) (words_each IsWork (λ x. tt) b (say_words reply v b did))

pub taken_work : (l k : Log) (p a : List Op) → PoolGrows l p → EachOp (IsCommitting k) a → EachOp IsWork (p ++ a)
taken_work l k p a grows only = EachOp-append IsWork p a (taking_work l p grows.kinds) (committing_work k a only)

-- a command broke off before its outcome
pub broke_taking : (given : Given) (l : Log) (s : StateView) (c : PlainCommand) (p : List Op) → PoolGrows l p → (read_for given.now s c ≡ readings.Nothing → p ≡ []) → AtRest store s l → Ran (machine given) None l s (c ∷ []) None p
broke_taking given l s c p grows nothing rest = ran_begun (machine given) (lawful given) None l s c p (grown_to s l p grows rest s) (record {
  work = taking_work l p grows.kinds;
  once = grows.once;
  targets = subst (AreTargets l) (append-nil (targets p)) (targets_all l p [] grows tt);
  refused = tt;
  unchanged = tt;
  quiet = nothing;
  removes = λ no. none_removed l p grows;
})

module _ (given : Given) (k : Option (List ℕ)) (l : Log) (s : StateView) (c : PlainCommand) (o : Outcome StateView Refusal) (step : Steps given k s c o) (new : Option StateView) (is : o.state ≡ unwrap_or new s) (kept : IsSome o.refusal → new ≡ None) (fresh : IsNew s new)
    {T : Type 0} (p : List Op) (taken : PoolGrows l p) (nothing : read_for given.now s c ≡ readings.Nothing → p ≡ []) (before now : StageState) (r : Result T HostErr) (a : List Op) (saves : Saves s new before now r (extended p l) a) where
  only : EachOp (IsCommitting (extended p l)) a
  only = saving_commits new (extended p l) a saves.only

  -- without a word more, or with some
  moves : (b : List Op) → SaysAtMost o.reply b → Moves given l s c (Some o) ((p ++ a) ++ b)
  moves b most =
      let words = most_words o.reply b most in
      let own : targets (a ++ b) ≡ targets a = targets-append a b ∙ ap (λ (x : List Path). targets a ++ x) (words_target b words) ∙ append-nil (targets a) in
      let once = subst IsOnce (sym own) saves.once in
      let are = subst (AllByRecursion (IsTarget l)) (sym own) (committing_targets (extended p l) a only) in
      let all : targets ((p ++ a) ++ b) ≡ targets p ++ targets (a ++ b) = ap targets (append_assoc p a b) ∙ targets-append p (a ++ b) in
      record {
        work = EachOp-append IsWork (p ++ a) b (taken_work l (extended p l) p a taken only) (words_each IsWork (λ x. tt) b words);
        once = subst IsOnce (sym all) (once_all l l p (targets (a ++ b)) taken once are);
        targets = subst (AreTargets l) (sym all) (targets_all l p (targets (a ++ b)) taken are);
        refused = λ some. EachOp-append (IsIdle l) (p ++ a) b (EachOp-append (IsIdle l) p a (taking_idle l p taken.kinds) (subst (EachOp (IsIdle l)) (sym (saving_nothing new (extended p l) a (kept some) saves.only)) tt)) (words_each (IsIdle l) (λ x. tt) b words);
        unchanged = λ same. EachOp-append (λ op. ¬ Sets op) (p ++ a) b (EachOp-append (λ op. ¬ Sets op) p a (taking_sets l p taken.kinds) (calm new refl same)) (words_each (λ op. ¬ Sets op) (λ x no. no) b words);
        quiet = λ none same either. subst (SaysAtMost o.reply) (sym (ap (λ (x : List Op). (x ++ a) ++ b) (nothing none) ∙ ap (λ (x : List Op). x ++ b) (still new refl same))) most;
        removes = λ no. EachOp-append (λ op. ¬ IsRemoval op) (p ++ a) b (EachOp-append (λ op. ¬ IsRemoval op) p a (none_removed l p taken) (committing_removes (extended p l) a only)) (words_each (λ op. ¬ IsRemoval op) (λ x no. no) b words);
      }
    where
      still : (n : Option StateView) → new ≡ n → o.state ≡ s → a ≡ []
      still None e same = saving_nothing new (extended p l) a e saves.only
      still (Some t) e same = absurd (subst (IsNew s) e fresh (sym (is ∙ ap (λ (x : Option StateView). unwrap_or x s) e) ∙ same))

      calm : (n : Option StateView) → new ≡ n → o.state ≡ s → EachOp (λ op. ¬ Sets op) a
      calm n e same = subst (EachOp (λ op. ¬ Sets op)) (sym (still n e same)) tt

  module _ (grows : Grows store s o.state l (p ++ a)) where
    pub quietly : Ran (machine given) k l s (c ∷ []) None (p ++ a)
    quietly = ran_quiet (machine given) (lawful given) k l s c o step (p ++ a) grows (subst (Moves given l s c (Some o)) (append-nil (p ++ a)) (moves [] (inl refl)))

    none_said : (b : List Op) → b ≡ [] → Ran (machine given) k l s (c ∷ []) None ((p ++ a) ++ b)
    none_said b none = subst (λ (x : List Op). Ran (machine given) k l s (c ∷ []) None x) (sym (append-nil (p ++ a)) ∙ ap (λ (x : List Op). (p ++ a) ++ x) (sym none)) quietly

    pub say_broke : (U : Type 0) (e : HostErr) (b : List Op) → AtRest store o.state (extended (p ++ a) l) → Did {T = U} (Say o.reply) (Err e) b → Ran (machine given) k l s (c ∷ []) None ((p ++ a) ++ b)
    say_broke U Failed b rest did = elim did [
      | inl none ↦ none_said b none
      | inr part ↦ subst (λ (x : List Op). Ran (machine given) k l s (c ∷ []) None ((p ++ a) ++ x)) (sym part.1)
          (ran_front (machine given) (lawful given) k l s c o step (p ++ a) grows rest (take part.0 o.reply) (drop part.0 o.reply) (sym (take-append-drop part.0 o.reply)) (moves (Say (take part.0 o.reply) ∷ []) (inr (take part.0 o.reply, (drop part.0 o.reply, sym (take-append-drop part.0 o.reply)), refl))))
    ]
    say_broke U OutOfMemory b rest did = none_said b did

    pub say_done : (b : List Op) → AtRest store o.state (extended (p ++ a) l) → b ≡ Say o.reply ∷ [] → Ran (machine given) k l s (c ∷ []) (Some (o.state, o.refusal)) ((p ++ a) ++ b)
    say_done b rest told = subst (λ (x : List Op). Ran (machine given) k l s (c ∷ []) (Some (o.state, o.refusal)) ((p ++ a) ++ x)) (sym told)
        (ran_whole (machine given) (lawful given) k l s c o step (p ++ a) grows rest o.reply [] (sym (append-nil o.reply)) (moves (Say o.reply ∷ []) (inr (o.reply, ([], sym (append-nil o.reply)), refl))) refl)

-- an outcome of the code as one of a run
abbrev pub made : StateView → Made → Outcome StateView Refusal
made s out = record { reply = out.reply; refusal = out.refusal; state = unwrap_or out.state s }

-- what a command comes to from a state that a store holds, a store may hold too
pub next_held : (given : Given) (l : Log) (s : StateView) (c : PlainCommand) (k : Option (List ℕ)) (o : Outcome StateView Refusal) → AtRest store s l → Steps given k s c o → IsHeld o.state
next_held given l s c k o rest step = record {
  valid = keeps given k s c o (rest_valid s l rest) step;
  published = (knows given.now k s c step.0 o step.2).1 (rest_held s l rest).published;
}

-- where the new state may be committed
module _ (given : Given) (l : Log) (s : StateView) (c : PlainCommand) (before mid : StageState) (out : Made) (p : List Op) (decides : Decides (Valid s) given s c before mid (Ok out) l p) (may : MayRun given s before l) (next : IsHeld (unwrap_or out.state s)) where
  pub ready : MayCommit s (unwrap_or out.state s) mid (extended p l)
  ready = record {
    rest = grown_rest s l p decides.grows may.rest;
    step = decides.step may.step;
    next = record { held = next; bodies = go out.state refl (decides.bodies (rest_valid s l may.rest) (open_stored (live_of l) s (here s l p decides.grows may.rest)) may.apart) };
  }
    where
      go : (n : Option StateView) → out.state ≡ n → IfSome out.state (λ t. All (HasBody (live_of (extended p l))) t.known) → All (HasBody (live_of (extended p l))) (unwrap_or out.state s).known
      go None e w = subst (λ (x : Option StateView). All (HasBody (live_of (extended p l))) (unwrap_or x s).known) (sym e) (bodies_of s (live_of (extended p l)) ((grown_rest s l p decides.grows may.rest) (live_of (extended p l)) (law_of_live_image (extended p l))).fits)
      go (Some t) e w = subst (λ (x : Option StateView). All (HasBody (live_of (extended p l))) (unwrap_or x s).known) (sym e) (subst (λ (x : Option StateView). IfSome x (λ t. All (HasBody (live_of (extended p l))) t.known)) e w)

  module _ {T : Type 0} (now : StageState) (r : Result T HostErr) (a : List Op) (saves : Saves s out.state mid now r (extended p l) a) where
    pub all_grows : Grows store s (unwrap_or out.state s) l (p ++ a)
    all_grows = grows_then store s (unwrap_or out.state s) l p a (grown_to s l p decides.grows may.rest (unwrap_or out.state s)) (saves.grows ready)

    pub all_rests : (v : T) → r ≡ Ok v → AtRest store (unwrap_or out.state s) (extended (p ++ a) l)
    all_rests v e = subst (AtRest store (unwrap_or out.state s)) (extended-append p a l) (on r e (saves.rests ready))
      where
        on : (x : Result T HostErr) → x ≡ Ok v → OnOk x (AtRest store (unwrap_or out.state s) (extended a (extended p l))) → AtRest store (unwrap_or out.state s) (extended a (extended p l))
        on (Ok y) e w = w
        on (Err y) e w = absurd (cc)

    -- a next command may begin
    pub all_on : (v : T) → r ≡ Ok v → (reply : List ℕ) (b : List Op) → b ≡ Say reply ∷ [] → AtRest store (unwrap_or out.state s) (extended ((p ++ a) ++ b) l) → MayRun given (unwrap_or out.state s) now (extended ((p ++ a) ++ b) l)
    all_on v e reply b told rest = record {
      rest = rest;
      step = λ clean. subst Durable whole (said_durable (extended a (extended p l)) reply (on r e (saves.step ready) clean));
      apart = apart_along given.inbox (live_of (extended p l)) (live_of (extended ((p ++ a) ++ b) l)) (λ q is. ap (λ (x : Log). live_of x q) (sym whole) ∙ live_step_of (extended a (extended p l)) (Say reply) q ∙ committing_live (extended p l) q is a (extended p l) (saving_commits out.state (extended p l) a saves.only)) (decides.apart may.apart);
    }
      where
        whole : extended (Say reply ∷ []) (extended a (extended p l)) ≡ extended ((p ++ a) ++ b) l
        whole = ap (extended (Say reply ∷ [])) (extended-append p a l) ∙ extended-append (p ++ a) (Say reply ∷ []) l ∙ ap (λ (x : List Op). extended ((p ++ a) ++ x) l) (sym told)

        on : (x : Result T HostErr) → x ≡ Ok v → OnOk x (IsInStep now (extended a (extended p l))) → IsInStep now (extended a (extended p l))
        on (Ok y) e w = w
        on (Err y) e w = absurd (cc)

-- a command that broke off
pub runs_err : (given : Given) (Told : Option (List ℕ) → Type 0) (s : StateView) (c : PlainCommand) (before now : StageState) (r : Result (StateView × Option Refusal) RunFault) (e : RunFault) (l : Log) (ops : List Op) → r ≡ Err e → EachOp IsWork ops
    → (MayRun given s before l → (large : Option (List ℕ)) × Told large × Ran (machine given) large l s (c ∷ []) None ops) → RunsOne given Told s c before now r l ops
runs_err given Told s c before now r e l ops is work ran = subst (λ v. RunsOne given Told s c before now v l ops) (sym is) (record { work = work; says = λ valid. tt; ran = ran; on = λ may. tt })

-- decided, and then saved
pub record Decided {T : Type 0} (given : Given) (s : StateView) (c : PlainCommand) (before mid now : StageState) (out : Made) (r : Result T HostErr) (l : Log) (ops : List Op) : Type 0 where
  pub taken : List Op
  pub saved : List Op
  pub cut : taken ++ saved ≡ ops
  pub decides : Decides (Valid s) given s c before mid (Ok out) l taken
  pub saves : Saves s out.state mid now r (extended taken l) saved

pub decided_then_saved : {T : Type 0} (given : Given) (s : StateView) (c : PlainCommand) (before mid now : StageState) (out : Made) (r : Result T HostErr) (l : Log) (p a : List Op) → Decides (Valid s) given s c before mid (Ok out) l p → Saves s out.state mid now r (extended p l) a → Decided given s c before mid now out r l (p ++ a)
decided_then_saved given s c before mid now out r l p a d w = record { taken = p; saved = a; cut = refl; decides = d; saves = w }

-- the command that ended
pub runs_ok : {T : Type 0} (given : Given) (Told : Option (List ℕ) → Type 0) (s : StateView) (c : PlainCommand) (before mid now : StageState) (out : Made) (v : T) (r : Result T HostErr) → r ≡ Ok v → (k : Valid s → (large : Option (List ℕ)) × Told large × Steps given large s c (made s out)) → (IsSome out.refusal → out.state ≡ None) → (Valid s → IsNew s out.state)
    → (l : Log) (ops b : List Op) → Decided given s c before mid now out r l ops → b ≡ Say out.reply ∷ [] → {U : Type 0} (x : Result U HostErr) → Did (Say out.reply) x b → RunsOne given Told s c before now (Ok (unwrap_or out.state s, out.refusal)) l (ops ++ b)
runs_ok given Told s c before mid now out v r ok comes kept fresh l ops b x told y did = subst (λ (z : List Op). RunsOne given Told s c before now (Ok (unwrap_or out.state s, out.refusal)) l (z ++ b)) x.cut (record {
  work = saved_work l (extended p l) p a d.grows (saving_commits out.state (extended p l) a w.only) out.reply y b did;
  says = λ valid.
      let step = comes valid in
      (step.0, step.1, subst (λ (t : List ℕ). Steps given step.0 s c (record { reply = t; refusal = out.refusal; state = unwrap_or out.state s })) (sym (saved_said (extended p l) p a (law_of_growth.quiet l p d.grows) (saving_commits out.state (extended p l) a w.only) out.reply b told)) step.2);
  ran = λ may. let step = comes (valid may) in (step.0, step.1, done may step.0 step.2);
  on = λ may. let step = comes (valid may) in all_on given l s c before mid out p d may (next may) now r a w v ok out.reply b told (done may step.0 step.2).ends.3;
})
  where
    p : List Op
    p = x.taken

    a : List Op
    a = x.saved

    d : Decides (Valid s) given s c before mid (Ok out) l p
    d = x.decides

    w : Saves s out.state mid now r (extended p l) a
    w = x.saves

    valid : MayRun given s before l → Valid s
    valid may = rest_valid s l may.rest

    next : MayRun given s before l → IsHeld (unwrap_or out.state s)
    next may = let step = comes (valid may) in next_held given l s c step.0 (made s out) may.rest step.2

    done : (may : MayRun given s before l) (k : Option (List ℕ)) → Steps given k s c (made s out) → Ran (machine given) k l s (c ∷ []) (Some (unwrap_or out.state s, out.refusal)) ((p ++ a) ++ b)
    done may k step = say_done given k l s c (made s out) step out.state refl kept (fresh (valid may)) p d.grows (d.nothing (valid may)) mid now r a w (all_grows given l s c before mid out p d may (next may) now r a w) b (all_rests given l s c before mid out p d may (next may) now r a w v ok) told
