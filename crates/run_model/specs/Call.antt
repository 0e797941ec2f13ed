-- Whole calls, from their entry on, and what the next call finds.
use Rattle.std.specs.Prelude.{◌≡◌, ◌⊎◌, suc, Bool, true, false, ◌||◌, MatchBool, List, [], ◌∷◌, ◌++◌, length, Option, IfSome}
use Rattle.ap_host.specs.declared.host.Op.{Op}
use Rattle.ap_host.specs.declared.host.Op.TheVariants.{Barrier}
use Rattle.ap_host.specs.Disk.{Files, Log, extended, live_of, Images, said, Throughout}
use Rattle.run_model.specs.Run.{Outcome, Store, Machine, state_at, joined, acked, EndsAs, IsFront, Runs, RunsWhole, AtRest, Ready, Settles, Stands, Each}

-- some operation is a barrier
abbrev pub is_barrier : Op → Bool
is_barrier Barrier = true
is_barrier _ = false

abbrev pub has_barrier : List Op → Bool
has_barrier [] = false
has_barrier (op ∷ ops) = is_barrier op || has_barrier ops

-- a store that holds these files, and of which nothing is in the course of being written
abbrev pub fresh : Files → Log
fresh f = record { base = f; ops = [] }

module _ {S : Type 0} (T : Store S) where
  -- Where a call begins: what reads give stands for s, and each image for s or for t, which a run that ended early may have left.
  pub record Entry (l : Log) (s t : S) : Type 0 where
    pub now : T.Open (live_of l) s
    pub images : Images l (λ f. T.Open f s ⊎ T.Open f t)

  -- the operations were done up to a moment behind a barrier at which each image is settled for s
  abbrev pub WasAtRest : Log → S → List Op → Type 0
  WasAtRest l s ops = (earlier between : List Op) × (earlier ++ between ≡ ops) × (has_barrier earlier ≡ true) × AtRest T s (extended earlier l)

module _ {K S C R : Type 0} (M : Machine K S C R) where
  -- the state is set only behind a barrier, and once each image was settled for s
  abbrev pub SetsLate : Log → S → List Op → Type 0
  SetsLate l s ops = (before : List Op) (op : Op) (after : List Op) → before ++ op ∷ after ≡ ops → M.Sets op → WasAtRest M.store l s before

  -- The opening of a store: nothing is said, and from the barrier on each image stands for s.
  pub record Opened (l : Log) (s t : S) (ops : List Op) : Type 0 where
    pub quiet : said ops ≡ []
    pub opens : (before after : List Op) → before ++ after ≡ ops → Images (extended before l) (λ f. MatchBool (has_barrier before) (M.store.Open f s) (M.store.Open f s ⊎ M.store.Open f t))
    -- once each image was settled for s behind a barrier, clients are served for s
    pub serves : (before after : List Op) → before ++ after ≡ ops → WasAtRest M.store l s before → Images (extended before l) (λ f. M.store.Served f s s)
    pub stays : Throughout (λ m. M.store.Open (live_of m) s) l ops
    pub sets : SetsLate l s ops
    pub moves : M.Opening l s ops

  -- and it came to its end
  pub record OpenedWhole (l : Log) (s t : S) (ops : List Op) : Type 0 where
    pub opened : Opened l s t ops
    pub barrier : has_barrier ops ≡ true
    pub ready : Ready M.store s (extended ops l)

  -- A whole call, from its entry on: what `Ran` says, but that before the call's first barrier each image stands for s or t.
  pub record RanAll (k : K) (l : Log) (s t : S) (cs : List C) (end : Option (S × Option R)) (ops : List Op) : Type 0 where
    pub outcomes : List (Outcome S R)
    pub runs : Runs M k s cs outcomes
    -- they are the first of a whole run, also where the call broke off
    pub goes_on : (more : List (Outcome S R)) × RunsWhole M k s cs (outcomes ++ more)
    pub says : IsFront (said ops) (joined outcomes)
    pub moments : (before after : List Op) → before ++ after ≡ ops → let n = acked outcomes (said before) in
        Images (extended before l) (λ f. MatchBool (has_barrier before) (M.store.Open f (state_at s outcomes n) ⊎ M.store.Open f (state_at s outcomes (suc n))) (M.store.Open f s ⊎ M.store.Open f t))
    -- once each image was settled for s behind a barrier, clients are served
    pub serves : (before after : List Op) → before ++ after ≡ ops → WasAtRest M.store l s before
        → let n = acked outcomes (said before) in Images (extended before l) (λ f. M.store.Served f (state_at s outcomes n) (state_at s outcomes (suc n)))
    -- and nothing sets the state before
    pub sets : SetsLate l s ops
    pub settles : Settles M.store l s outcomes ops
    pub stands : Stands M.store l s outcomes ops
    -- the operations of the opening, and those of each command. Where the first begins, the store is at rest and nothing is left over
    pub each : (opening rest : List Op) × (opening ++ rest ≡ ops) × (said opening ≡ []) × M.Opening l s opening × ((rest ≡ []) ⊎ Ready M.store s (extended opening l)) × Each M (extended opening l) s cs outcomes rest
    pub ends : IfSome end (λ e. EndsAs cs outcomes e.1 × (said ops ≡ joined outcomes) × (e.0 ≡ state_at s outcomes (length outcomes)) × AtRest M.store e.0 (extended ops l))

  -- Where the next call begins on the same log: with n replies acknowledged, for the state after n commands or after n + 1.
  abbrev pub HandsOver : Log → S → S → List (Outcome S R) → List Op → Log → Type 0
  HandsOver l s t os ops m = let n = acked os (said ops) in
      MatchBool (has_barrier ops) (Entry M.store m (state_at s os n) (state_at s os (suc n)) ⊎ Entry M.store m (state_at s os (suc n)) (state_at s os n)) (Entry M.store m s t ⊎ Entry M.store m t s)

  -- A call may be stopped at any moment, and the next one begins on what the stop left; or it ended, and the next goes on with
  -- the log. In both cases the next begins at the state after n of the commands or n + 1, n replies being acknowledged.
  abbrev pub HandOverLaw : Type 0
  HandOverLaw = (k : K) (l : Log) (s t : S) (cs : List C) (end : Option (S × Option R)) (ops : List Op) (call : RanAll k l s t cs end ops) →
      HandsOver l s t call.outcomes ops (extended ops l)
      × ((before after : List Op) → before ++ after ≡ ops → Images (extended before l) (λ f. let n = acked call.outcomes (said before) in
      MatchBool (has_barrier before) (Entry M.store (fresh f) (state_at s call.outcomes n) (state_at s call.outcomes n) ⊎ Entry M.store (fresh f) (state_at s call.outcomes (suc n)) (state_at s call.outcomes (suc n)))
      (Entry M.store (fresh f) s s ⊎ Entry M.store (fresh f) t t)))
