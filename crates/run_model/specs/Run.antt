-- Runs of commands of any machine, and what the operations of a run leave at each moment.
use Rattle.std.specs.Prelude.{◌≡◌, ◌⊎◌, ℕ, zero, suc, ◌<◌, ◌≤◌, ◌==◌, List, [], ◌∷◌, ◌++◌, length, Option, Some, None, MatchOption, IfSome, option_map, unwrap_or, cond}
use Rattle.ap_host.specs.declared.host.Op.{Op}
use Rattle.ap_host.specs.declared.host.Op.TheVariants.{Say}
use Rattle.ap_host.specs.Disk.{Files, Log, extended, live_of, Images, said, Throughout}

-- what one command comes to
pub record Outcome (S R : Type 0) : Type 0 where
  pub reply : List ℕ
  pub refusal : Option R
  pub state : S

-- Which files stand for which state S. It knows no command, so what is said of files at each moment is said of it alone.
pub record Store (S : Type 0) : Type 1 where
  -- the files stand for the state
  pub Open : Files → S → Type 0
  -- the same, with nothing in the course of being done
  pub Settled : Files → S → Type 0
  -- what clients are promised while the one state goes over into the other
  pub Served : Files → S → S → Type 0
  -- no file is left over from a run that was stopped
  pub Clean : Files → Type 0

-- A machine of states S, commands C and refusals R. K is what a call tells it, as the text that was too large in this call.
pub record Machine (K S C R : Type 0) : Type 1 where
  -- the states that the machine may be in
  pub Valid : S → Type 0
  -- in a call that tells this, the command, in this state, may come to this
  pub Step : K → S → C → Outcome S R → Type 0
  -- which files stand for which state
  pub store : Store S
  -- the operation sets what the state is read from
  pub Sets : Op → Type 0
  -- what the operations of one command keep to, from the log at its start on. There is no outcome where it broke off before one
  pub Moves : Log → S → C → Option (Outcome S R) → List Op → Type 0
  -- what the operations of an opening keep to
  pub Opening : Log → S → List Op → Type 0

-- the state after the first n outcomes
abbrev pub state_at : {S R : Type 0} → S → List (Outcome S R) → ℕ → S
state_at s os zero = s
state_at s [] (suc n) = s
state_at s (o ∷ os) (suc n) = state_at o.state os n

-- the replies, joined
abbrev pub joined : {S R : Type 0} → List (Outcome S R) → List ℕ
joined [] = []
joined (o ∷ os) = o.reply ++ joined os

-- what follows a reply, where a text begins with it
abbrev pub after_reply : List ℕ → List ℕ → Option (List ℕ)
after_reply [] text = Some text
after_reply (x ∷ xs) [] = None
after_reply (x ∷ xs) (y ∷ ys) = cond (x == y) (after_reply xs ys) None

-- the greatest n whose replies stand in full at the front of a text
abbrev pub acked : {S R : Type 0} → List (Outcome S R) → List ℕ → ℕ
acked [] text = 0
acked (o ∷ os) text = unwrap_or (option_map (λ rest. suc (acked os rest)) (after_reply o.reply text)) 0

-- the commands are all taken, or end with this refusal
abbrev pub EndsAs : {S C R : Type 0} → List C → List (Outcome S R) → Option R → Type 0
EndsAs [] [] r = r ≡ None
EndsAs [] (o ∷ os) r = ⊥
EndsAs (c ∷ cs) [] r = ⊥
EndsAs (c ∷ cs) (o ∷ os) r = MatchOption o.refusal (EndsAs cs os r) (λ refusal. (os ≡ []) × (r ≡ Some refusal))

-- the text begins so
abbrev pub IsFront : List ℕ → List ℕ → Type 0
IsFront front text = (rest : List ℕ) × (text ≡ front ++ rest)

-- the last operation says the whole reply, and no other says a word
abbrev pub EndsSaying : List ℕ → List Op → Type 0
EndsSaying reply ops = (quiet : List Op) × (said quiet ≡ []) × (ops ≡ quiet ++ Say reply ∷ [])

-- what the operations of one command say, rest being those behind them
pub record Tells (reply : List ℕ) (ops rest : List Op) : Type 0 where
  pub front : IsFront (said ops) reply
  pub whole : said ops ≡ reply → EndsSaying reply ops
  pub before_next : (rest ≡ []) ⊎ (said ops ≡ reply)

-- an index that never falls
abbrev pub NeverFalls : (ℕ → ℕ) → Type 0
NeverFalls index = (i j : ℕ) → i ≤ j → index i ≤ index j

module _ {S : Type 0} (T : Store S) where
  -- the files stand for the one state or the other, and serve clients for one of the two
  abbrev pub Between : S → S → Files → Type 0
  Between s t f = (T.Open f s ⊎ T.Open f t) × T.Served f s t

  -- whatever a stop leaves is settled for the state
  abbrev pub AtRest : S → Log → Type 0
  AtRest s l = Images l (λ f. T.Settled f s)

  -- and holds nothing that is left over: where the commands of a call begin
  abbrev pub Ready : S → Log → Type 0
  Ready s l = Images l (λ f. T.Settled f s × T.Clean f)

  -- The operations lead from the one state to the other without a word. At each moment each image stands for one of the two, and
  -- once what reads give stands for the second it does so on.
  pub record Grows (s t : S) (l : Log) (ops : List Op) : Type 0 where
    pub quiet : said ops ≡ []
    pub each : Throughout (λ m. Images m (Between s t)) l ops
    pub onward : (earlier between after : List Op) → (earlier ++ between) ++ after ≡ ops → T.Open (live_of (extended earlier l)) t → T.Open (live_of (extended (earlier ++ between) l)) t

  -- The operations keep the state without a word: at each moment each image stands for it.
  pub record Keeps (s : S) (l : Log) (ops : List Op) : Type 0 where
    pub quiet : said ops ≡ []
    pub each : Throughout (λ m. Images m (λ f. T.Open f s)) l ops

  -- once each image was settled for the state, clients are served for it
  abbrev pub ServesOn : S → Log → List Op → Type 0
  ServesOn s l ops = (earlier between after : List Op) → (earlier ++ between) ++ after ≡ ops → AtRest s (extended earlier l) → Images (extended (earlier ++ between) l) (λ f. T.Served f s s)

  module _ {R : Type 0} where
    -- at each moment: with k replies acknowledged, each image stands for the state after k commands or k + 1
    abbrev pub Moments : Log → S → List (Outcome S R) → List Op → Type 0
    Moments l s os ops = (before after : List Op) → before ++ after ≡ ops →
        let k = acked os (said before) in
        Images (extended before l) (Between (state_at s os k) (state_at s os (suc k)))

    -- when an operation acknowledges a reply, each image is settled for the state after that command
    abbrev pub Settles : Log → S → List (Outcome S R) → List Op → Type 0
    Settles l s os ops = (before : List Op) (op : Op) (after : List Op) → before ++ op ∷ after ≡ ops →
        let k = acked os (said (before ++ op ∷ [])) in
        acked os (said before) < k → Images (extended (before ++ op ∷ []) l) (λ f. T.Settled f (state_at s os k))

    -- after these operations what reads give stands for the state after n commands, which are those acknowledged or one more
    pub record StandsAt (l : Log) (s : S) (os : List (Outcome S R)) (before : List Op) (n : ℕ) : Type 0 where
      pub least : acked os (said before) ≤ n
      pub most : n ≤ suc (acked os (said before))
      pub stood : T.Open (live_of (extended before l)) (state_at s os n)

    -- What readers between operations see: after i operations what reads give stands for the state after index i commands, and
    -- the index never falls.
    pub record Stands (l : Log) (s : S) (os : List (Outcome S R)) (ops : List Op) : Type 0 where
      pub index : ℕ → ℕ
      pub rises : NeverFalls index
      pub at : (before after : List Op) → before ++ after ≡ ops → StandsAt l s os before (index (length before))

module _ {K S C R : Type 0} (M : Machine K S C R) where
  -- The first of these commands may come to these outcomes, in turn. Only the last can be a refusal.
  abbrev pub Runs : K → S → List C → List (Outcome S R) → Type 0
  Runs k s cs [] = Unit {0}
  Runs k s [] (o ∷ os) = ⊥
  Runs k s (c ∷ cs) (o ∷ os) = M.Step k s c o × MatchOption o.refusal (Runs k o.state cs os) (λ _. os ≡ [])

  -- these are the outcomes of all of these commands, or of those up to the first refused one
  pub record RunsWhole (k : K) (s : S) (cs : List C) (os : List (Outcome S R)) : Type 0 where
    pub runs : Runs k s cs os
    pub last : Option R
    pub ends : EndsAs cs os last

  -- The operations are cut into those of each command, and those of a command that broke off. Behind a refused command there are
  -- none.
  abbrev pub Each : Log → S → List C → List (Outcome S R) → List Op → Type 0
  Each l s [] [] ops = ops ≡ []
  Each l s (c ∷ cs) [] ops = (ops ≡ []) ⊎ M.Moves l s c None ops
  Each l s [] (o ∷ os) ops = ⊥
  Each l s (c ∷ cs) (o ∷ os) ops = (here rest : List Op) × (here ++ rest ≡ ops) × Tells o.reply here rest × M.Moves l s c (Some o) here × MatchOption o.refusal (Each (extended here l) o.state cs os rest) (λ _. rest ≡ [])

  -- The log l, at rest for s, went on by a run of some of these commands. Where the end is told, they are all done, or end with
  -- this refusal, and the log is at rest for this state.
  pub record Ran (k : K) (l : Log) (s : S) (cs : List C) (end : Option (S × Option R)) (ops : List Op) : Type 0 where
    pub outcomes : List (Outcome S R)
    pub runs : Runs k s cs outcomes
    pub says : IsFront (said ops) (joined outcomes)
    pub moments : Moments M.store l s outcomes ops
    pub settles : Settles M.store l s outcomes ops
    pub stands : Stands M.store l s outcomes ops
    pub each : Each l s cs outcomes ops
    pub ends : IfSome end (λ e. EndsAs cs outcomes e.1 × (said ops ≡ joined outcomes) × (e.0 ≡ state_at s outcomes (length outcomes)) × AtRest M.store e.0 (extended ops l))

-- what any store owes
pub record LawfulStore {S : Type 0} (T : Store S) : Type 0 where
  -- what is settled is open, and serves
  pub opens : (f : Files) (s : S) → T.Settled f s → T.Open f s
  pub settled_serves : (f : Files) (s : S) → T.Settled f s → T.Served f s s
  -- who is served by the state itself is served on the way to any next one
  pub serves : (f : Files) (s t : S) → T.Served f s s → T.Served f s t

-- what any machine owes
pub record Lawful {K S C R : Type 0} (M : Machine K S C R) : Type 0 where
  pub store : LawfulStore M.store
  -- each reply has a byte
  pub replies : (k : K) (s : S) (c : C) (o : Outcome S R) → M.Step k s c o → o.reply ≡ [] → ⊥
  -- what a call tells matters to refusals alone
  pub plain : (j k : K) (s : S) (c : C) (o : Outcome S R) → o.refusal ≡ None → M.Step j s c o → M.Step k s c o
  -- a step leads from a valid state to a valid one
  pub keeps : (k : K) (s : S) (c : C) (o : Outcome S R) → M.Valid s → M.Step k s c o → M.Valid o.state
  -- from a valid state each command comes to something, whatever a call tells
  pub total : (k : K) (s : S) (c : C) → M.Valid s → (o : Outcome S R) × M.Step k s c o
  -- files stand for valid states alone
  pub valid : (f : Files) (s : S) → M.store.Open f s → M.Valid s
