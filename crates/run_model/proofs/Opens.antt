-- An opening, and then a run of commands, is a whole call.
use Rattle.std.proofs.Common.{◌≡◌, ◌⊎◌, inl, inr, ℕ, suc, ◌<◌, Bool, true, false, ◌||◌, MatchBool, List, [], ◌∷◌, ◌++◌, length, Option, Some, None, IfSome, refl, sym, ◌∙◌, ap, subst, append_assoc, append-nil, arith}
use Rattle.ap_host.specs.declared.host.Op.{Op}
use Rattle.ap_host.specs.Disk.{Files, Log, Image, Images, extended, live_of, said}
use Rattle.ap_host.specs.Changes.{EachOp}
use Rattle.ap_host.proofs.ListLemmas.{cut, cut_at}
use Rattle.ap_host.proofs.LegalLemmas.{law_of_live_image}
use Rattle.ap_host.proofs.DiskLemmas.{Throughout-start}
use Rattle.run_model.specs.Run.{Outcome, Store, Machine, state_at, joined, acked, EndsAs, Ran, Stands, StandsAt, AtRest, Lawful}
use Rattle.run_model.specs.Call.{Opened, OpenedWhole, RanAll, Entry, SetsLate, WasAtRest, has_barrier, HandsOver, HandOverLaw, fresh}
use Rattle.run_model.proofs.Indexes.{turned, turned_rises, turned_at}
use Rattle.run_model.proofs.Joins.{extend, said-append, extend-extend, acked_none, each_none}
use Rattle.run_model.proofs.Openings.{barrier_more}
use Rattle.run_model.proofs.Says.{both_nil}
use Rattle.run_model.proofs.Whole.{whole_more}

module _ {K S C R : Type 0} (M : Machine K S C R) (lawful : Lawful M) (k : K) (l : Log) (s t : S) where
  quiet_front : (ops before after : List Op) → said ops ≡ [] → before ++ after ≡ ops → said before ≡ []
  quiet_front ops before after quiet e = (both_nil (said before) (said after) (sym (said-append before after) ∙ ap said e ∙ quiet)).0

  -- of outcomes of which none is acknowledged
  early_stands : (os : List (Outcome S R)) (before : List Op) → acked os (said before) ≡ 0 → M.store.Open (live_of (extend l before)) s → StandsAt M.store l s os before 0
  early_stands os before none here = record { least = omega (arith, none); most = omega arith; stood = here }

  -- what reads give stands for the state that the call begins with
  begins_valid : (ops : List Op) → Opened M l s t ops → M.Valid s
  begins_valid ops a = lawful.valid (live_of l) s (Throughout-start (λ m. M.store.Open (live_of m) s) l ops a.stays)

  -- the call broke off within its opening
  pub broke_opening : (cs : List C) (ops : List Op) → Opened M l s t ops → RanAll M k l s t cs None ops
  broke_opening cs ops a = record {
    outcomes = [];
    runs = tt;
    says = ([], sym a.quiet ∙ sym (append-nil (said ops)));
    goes_on = whole_more M lawful k [] cs s (begins_valid ops a) tt;
    moments = λ before after e f image. both (has_barrier before) f (a.opens before after e f image);
    serves = a.serves;
    sets = a.sets;
    settles = λ before op after e rises. absurd (omega (arith, rises));
    stands = record { index = λ i. 0; rises = λ i j le. omega arith; at = λ before after e. early_stands [] before refl (a.stays before after e) };
    each = (ops, [], append-nil ops, a.quiet, a.moves, inl refl, each_none M lawful k (extended ops l) s cs [] refl);
    ends = tt;
  } where
    both : (b : Bool) (f : Files) → MatchBool b (M.store.Open f s) (M.store.Open f s ⊎ M.store.Open f t) → MatchBool b (M.store.Open f s ⊎ M.store.Open f s) (M.store.Open f s ⊎ M.store.Open f t)
    both true f h = inl h
    both false f h = h

  -- the store was opened, and then the commands ran
  module _ (first : List Op) (o : OpenedWhole M l s t first) (cs : List C) (end : Option (S × Option R)) (ops : List Op) (b : Ran M k (extend l first) s cs end ops) where
    a : Opened M l s t first
    a = o.opened

    said_all : (d : List Op) → said (first ++ d) ≡ said d
    said_all d = said-append first d ∙ ap (λ x. x ++ said d) a.quiet

    said_there : (before d : List Op) → before ≡ first ++ d → said before ≡ said d
    said_there before d e = ap said e ∙ said_all d

    there : (before d : List Op) → before ≡ first ++ d → extend (extend l first) d ≡ extend l before
    there before d e = extend-extend l first d ∙ ap (extend l) (sym e)

    barred : (before d : List Op) → before ≡ first ++ d → has_barrier before ≡ true
    barred before d e = ap has_barrier e ∙ barrier_more first d o.barrier

    unsaid : (before d : List Op) → before ++ d ≡ first → acked b.outcomes (said before) ≡ 0
    unsaid before d e = ap (acked b.outcomes) (quiet_front first before d a.quiet e) ∙ acked_none M lawful k s cs b.outcomes b.runs

    early : (x : Bool) (f : Files) (next : S) → MatchBool x (M.store.Open f s) (M.store.Open f s ⊎ M.store.Open f t) → MatchBool x (M.store.Open f s ⊎ M.store.Open f next) (M.store.Open f s ⊎ M.store.Open f t)
    early true f next h = inl h
    early false f next h = h

    ended : (e : Option (S × Option R)) → IfSome e (λ e. EndsAs cs b.outcomes e.1 × (said ops ≡ joined b.outcomes) × (e.0 ≡ state_at s b.outcomes (length b.outcomes)) × AtRest M.store e.0 (extended ops (extend l first)))
        → IfSome e (λ e. EndsAs cs b.outcomes e.1 × (said (first ++ ops) ≡ joined b.outcomes) × (e.0 ≡ state_at s b.outcomes (length b.outcomes)) × AtRest M.store e.0 (extended (first ++ ops) l))
    ended None h = tt
    ended (Some e) h = (h.0, said_all ops ∙ h.1, h.2, subst (AtRest M.store e.0) (extend-extend l first ops) h.3)

    -- behind the opening
    late_stands : (before d : List Op) → before ≡ first ++ d → (n : ℕ) → StandsAt M.store (extend l first) s b.outcomes d n → StandsAt M.store l s b.outcomes before n
    late_stands before d e n st = record {
      least = omega (arith, ap (acked b.outcomes) (said_there before d e), st.least);
      most = omega (arith, ap (acked b.outcomes) (said_there before d e), st.most);
      stood = subst (λ (x : Log). M.store.Open (live_of x) (state_at s b.outcomes n)) (there before d e) st.stood;
    }

    call_stands : Stands M.store l s b.outcomes (first ++ ops)
    call_stands = record {
      index = turned (length first) (λ i. 0) b.stands.index;
      rises = turned_rises (length first) (λ i. 0) b.stands.index (λ i j le. omega arith) b.stands.rises (λ i j lt. omega arith);
      at = turned_at (StandsAt M.store l s b.outcomes) first ops (λ i. 0) b.stands.index
          (λ before d e. early_stands b.outcomes before (unsaid before d e) (a.stays before d e))
          (λ before d after e behind. late_stands before d e (b.stands.index (length d)) (b.stands.at d after behind));
    }

    -- what is set within the run is set behind the opening
    rested : (before d : List Op) → before ≡ first ++ d → WasAtRest M.store l s before
    rested before d e = (first, d, sym e, o.barrier, λ f image. (o.ready f image).0)

    -- a moment of the opening, or one behind it
    call_serves : (before after : List Op) → before ++ after ≡ first ++ ops → WasAtRest M.store l s before
        → let n = acked b.outcomes (said before) in Images (extended before l) (λ f. M.store.Served f (state_at s b.outcomes n) (state_at s b.outcomes (suc n)))
    call_serves before after e rest = elim (cut before after first ops e) [
      | inl w ↦ λ f image. subst (λ n. M.store.Served f (state_at s b.outcomes n) (state_at s b.outcomes (suc n))) (sym (unsaid before w.0 w.1))
          (lawful.store.serves f s (state_at s b.outcomes 1) (a.serves before w.0 w.1 rest f image))
      | inr w ↦ λ f image. subst (λ x. M.store.Served f (state_at s b.outcomes (acked b.outcomes x)) (state_at s b.outcomes (suc (acked b.outcomes x)))) (sym (said_there before w.0 w.1))
          (b.moments w.0 after w.2 f (subst (λ x. Image x f) (sym (there before w.0 w.1)) image)).1
    ]

    -- what sets the state within the opening, or behind it
    call_sets : SetsLate M l s (first ++ ops)
    call_sets before op after e is = elim (cut_at before op after first ops e) [
      | inl w ↦ a.sets before op w.0 w.1 is
      | inr w ↦ rested before w.0 w.1
    ]

    pub opened_then_ran : RanAll M k l s t cs end (first ++ ops)
    opened_then_ran = record {
      outcomes = b.outcomes;
      runs = b.runs;
      goes_on = whole_more M lawful k b.outcomes cs s (begins_valid first a) b.runs;
      says = (b.says.0, b.says.1 ∙ ap (λ x. x ++ b.says.0) (sym (said_all ops)));
      moments = λ before after e. elim (cut before after first ops e) [
        | inl w ↦ λ f image. subst (λ n. MatchBool (has_barrier before) (M.store.Open f (state_at s b.outcomes n) ⊎ M.store.Open f (state_at s b.outcomes (suc n))) (M.store.Open f s ⊎ M.store.Open f t)) (sym (unsaid before w.0 w.1))
            (early (has_barrier before) f (state_at s b.outcomes 1) (a.opens before w.0 w.1 f image))
        | inr w ↦ λ f image. subst (λ x. MatchBool x (M.store.Open f (state_at s b.outcomes (acked b.outcomes (said before))) ⊎ M.store.Open f (state_at s b.outcomes (suc (acked b.outcomes (said before))))) (M.store.Open f s ⊎ M.store.Open f t)) (sym (barred before w.0 w.1))
            (subst (λ x. M.store.Open f (state_at s b.outcomes (acked b.outcomes x)) ⊎ M.store.Open f (state_at s b.outcomes (suc (acked b.outcomes x)))) (sym (said_there before w.0 w.1))
            (b.moments w.0 after w.2 f (subst (λ x. Image x f) (sym (there before w.0 w.1)) image)).0)
      ];
      serves = call_serves;
      sets = call_sets;
      settles = λ before op after e rises. elim (cut_at before op after first ops e) [
        | inl w ↦ absurd (omega (arith, rises, unsaid (before ++ op ∷ []) w.0 (append_assoc before (op ∷ []) w.0 ∙ w.1)))
        | inr w ↦ let grown : List Op = before ++ op ∷ [] in
            let at : grown ≡ first ++ (w.0 ++ op ∷ []) = ap (λ x. x ++ op ∷ []) w.1 ∙ append_assoc first w.0 (op ∷ []) in
            λ f image. subst (λ x. M.store.Settled f (state_at s b.outcomes (acked b.outcomes x))) (sym (said_there grown (w.0 ++ op ∷ []) at))
            (b.settles w.0 op after w.2 (subst (λ x. acked b.outcomes x < acked b.outcomes (said (w.0 ++ op ∷ []))) (said_there before w.0 w.1) (subst (λ x. acked b.outcomes (said before) < acked b.outcomes x) (said_there grown (w.0 ++ op ∷ []) at) rises))
            f (subst (λ x. Image x f) (sym (there grown (w.0 ++ op ∷ []) at)) image))
      ];
      stands = call_stands;
      each = (first, ops, refl, a.quiet, a.moves, inr o.ready, b.each);
      ends = ended end b.ends;
    }

  either : (m : Log) (x y : S) → Images m (λ f. M.store.Open f x ⊎ M.store.Open f y) → Entry M.store m x y ⊎ Entry M.store m y x
  either m x y here = elim (here (live_of m) (law_of_live_image m)) [
    | inl z ↦ inl (record { now = z; images = here })
    | inr z ↦ inr (record { now = z; images = λ f image. elim (here f image) [ inl w ↦ inr w | inr w ↦ inl w ] })
  ]

  -- the log at the end of a call is where the next may begin
  pub hands_over : (cs : List C) (end : Option (S × Option R)) (ops : List Op) (a : RanAll M k l s t cs end ops) → HandsOver M l s t a.outcomes ops (extend l ops)
  hands_over cs end ops a = go (has_barrier ops) (a.moments ops [] (append-nil ops)) where
    go : (b : Bool) → Images (extend l ops) (λ f. MatchBool b (M.store.Open f (state_at s a.outcomes (acked a.outcomes (said ops))) ⊎ M.store.Open f (state_at s a.outcomes (suc (acked a.outcomes (said ops))))) (M.store.Open f s ⊎ M.store.Open f t))
        → MatchBool b (Entry M.store (extend l ops) (state_at s a.outcomes (acked a.outcomes (said ops))) (state_at s a.outcomes (suc (acked a.outcomes (said ops)))) ⊎ Entry M.store (extend l ops) (state_at s a.outcomes (suc (acked a.outcomes (said ops)))) (state_at s a.outcomes (acked a.outcomes (said ops)))) (Entry M.store (extend l ops) s t ⊎ Entry M.store (extend l ops) t s)
    go true here = either (extend l ops) _ _ here
    go false here = either (extend l ops) s t here

-- a call may begin on files that stand for a state
pub begun : {S : Type 0} (T : Store S) (f : Files) (u : S) → T.Open f u → Entry T (fresh f) u u
begun T f u stands = record { now = stands; images = λ g image. let same : f ≡ g = (λ i p. sym (image p) i) in inl (subst (λ (m : Files). T.Open m u) same stands) }

module _ {K S C R : Type 0} (M : Machine K S C R) where
  both_begun : (b : Bool) (f : Files) (u v s t : S) → MatchBool b (M.store.Open f u ⊎ M.store.Open f v) (M.store.Open f s ⊎ M.store.Open f t)
      → MatchBool b (Entry M.store (fresh f) u u ⊎ Entry M.store (fresh f) v v) (Entry M.store (fresh f) s s ⊎ Entry M.store (fresh f) t t)
  both_begun true f u v s t h = elim h [ inl x ↦ inl (begun M.store f u x) | inr x ↦ inr (begun M.store f v x) ]
  both_begun false f u v s t h = elim h [ inl x ↦ inl (begun M.store f s x) | inr x ↦ inr (begun M.store f t x) ]

  pub hand_over_law : Lawful M → HandOverLaw M
  hand_over_law lawful k l s t cs end ops call = (
    hands_over M lawful k l s t cs end ops call,
    λ before after e f image. both_begun (has_barrier before) f _ _ s t (call.moments before after e f image),
  )
