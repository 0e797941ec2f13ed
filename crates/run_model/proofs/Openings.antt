-- The opening of a store: a claim, a barrier, and then the settling.
use Rattle.std.proofs.Common.{◌≡◌, ◌⊎◌, inl, inr, Bool, true, false, ◌||◌, MatchBool, List, [], ◌∷◌, ◌++◌, refl, sym, ◌∙◌, ap, subst}
use Rattle.ap_host.specs.declared.host.Op.{Op}
use Rattle.ap_host.specs.declared.host.Op.TheVariants.{Claim, Barrier}
use Rattle.ap_host.specs.Disk.{Files, Log, Image, Images, extended, live_of, Durable, Disk}
use Rattle.ap_host.specs.Changes.{EachOp}
use Rattle.ap_host.proofs.DiskLemmas.{disk_of-step, extended-append}
use Rattle.ap_host.proofs.LegalLemmas.{law_of_barrier, law_of_live_image}
use Rattle.run_model.specs.Run.{Machine, AtRest, Keeps, Ready, ServesOn}
use Rattle.run_model.specs.Call.{Opened, OpenedWhole, Entry, SetsLate, WasAtRest, has_barrier, is_barrier}
use Rattle.run_model.proofs.Joins.{extend, extend-extend, extend-nil}

-- a claim that was got, and a barrier
abbrev pub first : List Op
first = Claim true ∷ Barrier ∷ []

-- neither changes a file
pub live_claimed : (l : Log) (got : Bool) → live_of (extended (Claim got ∷ []) l) ≡ live_of l
live_claimed l got = ap (λ (d : Disk). d.live) (disk_of-step (Claim got) l)

pub live_first : (l : Log) → live_of (extended first l) ≡ live_of l
live_first l = ap live_of (sym (extended-append (Claim true ∷ []) (Barrier ∷ []) l)) ∙ ap (λ (d : Disk). d.live) (disk_of-step Barrier (extended (Claim true ∷ []) l)) ∙ live_claimed l true

pub durable_first : (l : Log) → Durable (extended first l)
durable_first l = subst Durable (extended-append (Claim true ∷ []) (Barrier ∷ []) l) (law_of_barrier (extended (Claim true ∷ []) l))

image_claimed : (l : Log) (got : Bool) (f : Files) → Image (extended (Claim got ∷ []) l) f → Image l f
image_claimed l got f image p = subst (λ (d : Disk). d.may p (f p)) (disk_of-step (Claim got) l) (image p)

-- barriers
or_true : (a b : Bool) → a ≡ true → (a || b) ≡ true
or_true true b e = refl
or_true false b e = absurd (cc)

or-assoc : (a b c : Bool) → ((a || b) || c) ≡ (a || (b || c))
or-assoc true b c = refl
or-assoc false b c = refl

pub has_barrier-append : (xs ys : List Op) → has_barrier (xs ++ ys) ≡ (has_barrier xs || has_barrier ys)
has_barrier-append [] ys = refl
has_barrier-append (x ∷ xs) ys = ap (λ b. is_barrier x || b) (has_barrier-append xs ys) ∙ sym (or-assoc (is_barrier x) (has_barrier xs) (has_barrier ys))

pub barrier_more : (xs ys : List Op) → has_barrier xs ≡ true → has_barrier (xs ++ ys) ≡ true
barrier_more xs ys e = has_barrier-append xs ys ∙ or_true (has_barrier xs) (has_barrier ys) e

-- operations none of which sets the state
pub sets_never : {K S C R : Type 0} (M : Machine K S C R) (l : Log) (s : S) (ops : List Op) → EachOp (λ op. ¬ M.Sets op) ops → SetsLate M l s ops
sets_never M l s ops each before op after e is = absurd (go before (subst (EachOp (λ o. ¬ M.Sets o)) (sym e) each))
  where
    go : (b : List Op) → EachOp (λ o. ¬ M.Sets o) (b ++ op ∷ after) → ⊥
    go [] w = w.0 is
    go (x ∷ b) w = go b w.1

module _ {K S C R : Type 0} (M : Machine K S C R) (l : Log) (s t : S) (entry : Entry M.store l s t) where
  at_none : Images (extend l []) (λ f. M.store.Open f s ⊎ M.store.Open f t)
  at_none f image = entry.images f (subst (λ x. Image x f) (extend-nil l) image)

  at_claim : (got : Bool) → Images (extend l (Claim got ∷ [])) (λ f. M.store.Open f s ⊎ M.store.Open f t)
  at_claim got f image = entry.images f (image_claimed l got f image)

  live_none : M.store.Open (live_of (extend l [])) s
  live_none = subst (λ (x : Log). M.store.Open (live_of x) s) (sym (extend-nil l)) entry.now

  live_claim : (got : Bool) → M.store.Open (live_of (extend l (Claim got ∷ []))) s
  live_claim got = subst (λ (f : Files). M.store.Open f s) (sym (live_claimed l got)) entry.now

  never : {A : Type 0} → false ≡ true → A
  never e = absurd (cc)

  abbrev Early : List Op → Type 0
  Early before = Images (extend l before) (λ f. MatchBool (has_barrier before) (M.store.Open f s) (M.store.Open f s ⊎ M.store.Open f t))

  -- before a barrier the store wasn't at rest behind one
  no_rest : (ops before after : List Op) → before ++ after ≡ ops → has_barrier ops ≡ false → WasAtRest M.store l s before → ⊥
  no_rest ops before after e none w =
      let front : has_barrier before ≡ true = subst (λ (x : List Op). has_barrier x ≡ true) w.2 (barrier_more w.0 w.1 w.3) in
      let whole : has_barrier ops ≡ true = subst (λ (x : List Op). has_barrier x ≡ true) e (barrier_more before after front) in
      never (sym none ∙ whole)

  pub opened_none : M.Opening l s [] → Opened M l s t []
  opened_none moves = record { quiet = refl; opens = opens; serves = λ before after e rest. absurd (no_rest [] before after e refl rest); stays = stays; sets = sets_never M l s [] tt; moves = moves } where
    opens : (before after : List Op) → before ++ after ≡ [] → Early before
    opens [] after e = at_none
    opens (b ∷ bs) after e = absurd (cc)

    stays : (before after : List Op) → before ++ after ≡ [] → M.store.Open (live_of (extend l before)) s
    stays [] after e = live_none
    stays (b ∷ bs) after e = absurd (cc)

  pub opened_claimed : (got : Bool) → M.Opening l s (Claim got ∷ []) → ¬ M.Sets (Claim got) → Opened M l s t (Claim got ∷ [])
  opened_claimed got moves free = record {
    quiet = refl;
    opens = opens;
    serves = λ before after e rest. absurd (no_rest (Claim got ∷ []) before after e refl rest);
    stays = stays;
    sets = sets_never M l s (Claim got ∷ []) (free, tt);
    moves = moves;
  } where
    opens : (before after : List Op) → before ++ after ≡ Claim got ∷ [] → Early before
    opens [] after e = at_none
    opens (b ∷ []) after e = let h : b ≡ Claim got = cc in subst (λ x. Early (x ∷ [])) (sym h) (at_claim got)
    opens (b ∷ b2 ∷ bs) after e = absurd (cc)

    stays : (before after : List Op) → before ++ after ≡ Claim got ∷ [] → M.store.Open (live_of (extend l before)) s
    stays [] after e = live_none
    stays (b ∷ []) after e = let h : b ≡ Claim got = cc in subst (λ x. M.store.Open (live_of (extend l (x ∷ []))) s) (sym h) (live_claim got)
    stays (b ∷ b2 ∷ bs) after e = absurd (cc)

  -- behind the barrier the log went on without a word, and each image stood for s
  module _ (ops : List Op) (kept : Keeps M.store s (extend l first) ops) (serves : ServesOn M.store s (extend l first) ops) (sets : SetsLate M l s (Claim true ∷ Barrier ∷ ops)) (moves : M.Opening l s (Claim true ∷ Barrier ∷ ops)) where
    abbrev pub whole : List Op
    whole = Claim true ∷ Barrier ∷ ops

    behind : (d after : List Op) → d ++ after ≡ ops → Images (extend l (Claim true ∷ Barrier ∷ d)) (λ f. M.store.Open f s)
    behind d after e f image = kept.each d after e f (subst (λ x. Image x f) (sym (extend-extend l first d)) image)

    live_behind : (d after : List Op) → d ++ after ≡ ops → M.store.Open (live_of (extend l (Claim true ∷ Barrier ∷ d))) s
    live_behind d after e = behind d after e (live_of (extend l (Claim true ∷ Barrier ∷ d))) (law_of_live_image (extend l (Claim true ∷ Barrier ∷ d)))

    opens_more : (before after : List Op) → before ++ after ≡ whole → Early before
    opens_more [] after e = at_none
    opens_more (b ∷ []) after e = let h : b ≡ Claim true = cc in subst (λ x. Early (x ∷ [])) (sym h) (at_claim true)
    opens_more (b ∷ b2 ∷ d) after e =
        let h : b ≡ Claim true = cc in let h2 : b2 ≡ Barrier = cc in let rest : d ++ after ≡ ops = cc in
        subst (λ x. Early (x ∷ b2 ∷ d)) (sym h) (subst (λ x. Early (Claim true ∷ x ∷ d)) (sym h2) (λ f image. behind d after rest f image))

    stays_more : (before after : List Op) → before ++ after ≡ whole → M.store.Open (live_of (extend l before)) s
    stays_more [] after e = live_none
    stays_more (b ∷ []) after e = let h : b ≡ Claim true = cc in subst (λ x. M.store.Open (live_of (extend l (x ∷ []))) s) (sym h) (live_claim true)
    stays_more (b ∷ b2 ∷ d) after e =
        let h : b ≡ Claim true = cc in let h2 : b2 ≡ Barrier = cc in let rest : d ++ after ≡ ops = cc in
        subst (λ x. M.store.Open (live_of (extend l (x ∷ b2 ∷ d))) s) (sym h) (subst (λ x. M.store.Open (live_of (extend l (Claim true ∷ x ∷ d))) s) (sym h2) (live_behind d after rest))

    serves_from : (earlier between after : List Op) → (earlier ++ between) ++ after ≡ whole → has_barrier earlier ≡ true → AtRest M.store s (extend l earlier) → Images (extend l (earlier ++ between)) (λ f. M.store.Served f s s)
    serves_from [] between after e barrier rest = never barrier
    serves_from (b ∷ []) between after e barrier rest = let h : b ≡ Claim true = cc in never (subst (λ x. has_barrier (x ∷ []) ≡ true) h barrier)
    serves_from (b ∷ b2 ∷ d) between after e barrier rest =
        let h : b ≡ Claim true = cc in let h2 : b2 ≡ Barrier = cc in let tail : (d ++ between) ++ after ≡ ops = cc in
        let rested = subst (λ (x : Op). AtRest M.store s (extend l (Claim true ∷ x ∷ d))) h2 (subst (λ (x : Op). AtRest M.store s (extend l (x ∷ b2 ∷ d))) h rest) in
        let there = serves d between after tail (subst (AtRest M.store s) (sym (extend-extend l first d)) rested) in
        subst (λ x. Images (extend l (x ∷ b2 ∷ (d ++ between))) (λ f. M.store.Served f s s)) (sym h) (subst (λ x. Images (extend l (Claim true ∷ x ∷ (d ++ between))) (λ f. M.store.Served f s s)) (sym h2)
        (λ f image. there f (subst (λ x. Image x f) (sym (extend-extend l first (d ++ between))) image)))

    serves_more : (before after : List Op) → before ++ after ≡ whole → WasAtRest M.store l s before → Images (extend l before) (λ f. M.store.Served f s s)
    serves_more before after e w =
        subst (λ (x : List Op). Images (extend l x) (λ f. M.store.Served f s s)) w.2
        (serves_from w.0 w.1 after (ap (λ (x : List Op). x ++ after) w.2 ∙ e) w.3 w.4)

    pub opened_more : Opened M l s t whole
    opened_more = record { quiet = kept.quiet; opens = opens_more; serves = serves_more; stays = stays_more; sets = sets; moves = moves }

    pub opened_whole : Ready M.store s (extend (extend l first) ops) → OpenedWhole M l s t whole
    opened_whole ready = record { opened = opened_more; barrier = refl; ready = subst (Ready M.store s) (extend-extend l first ops) ready }
