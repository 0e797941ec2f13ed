-- From a valid state each run goes on to a whole one.
use Rattle.std.proofs.Common.{◌≡◌, List, [], ◌∷◌, ◌++◌, Option, Some, None, MatchOption, refl, sym, ◌∙◌, subst, append-nil}
use Rattle.run_model.specs.Run.{Outcome, Machine, EndsAs, Runs, RunsWhole, Lawful}

module _ {K S C R : Type 0} (M : Machine K S C R) (lawful : Lawful M) (k : K) where
  -- one outcome, and those behind it
  whole_then : (s : S) (c : C) (cs : List C) (o : Outcome S R) (os : List (Outcome S R)) → M.Step k s c o → o.refusal ≡ None → RunsWhole M k o.state cs os → RunsWhole M k s (c ∷ cs) (o ∷ os)
  whole_then s c cs o os step none rest = record {
    runs = (step, subst (λ (x : Option R). MatchOption x (Runs M k o.state cs os) (λ _. os ≡ [])) (sym none) rest.runs);
    last = rest.last;
    ends = subst (λ (x : Option R). MatchOption x (EndsAs cs os rest.last) (λ refusal. (os ≡ []) × (rest.last ≡ Some refusal))) (sym none) rest.ends;
  }

  -- an outcome that is a refusal is the last
  whole_refused : (s : S) (c : C) (cs : List C) (o : Outcome S R) (os : List (Outcome S R)) (r : R) → M.Step k s c o → o.refusal ≡ Some r → os ≡ [] → RunsWhole M k s (c ∷ cs) (o ∷ os)
  whole_refused s c cs o os r step is none = record {
    runs = (step, subst (λ (x : Option R). MatchOption x (Runs M k o.state cs os) (λ _. os ≡ [])) (sym is) none);
    last = Some r;
    ends = let end : Option R = Some r in subst (λ (x : Option R). MatchOption x (EndsAs cs os end) (λ refusal. (os ≡ []) × (end ≡ Some refusal))) (sym is) (none, refl);
  }

  -- what the commands behind a first one come to
  abbrev FromEach : List C → Type 0
  FromEach cs = (s : S) → M.Valid s → (os : List (Outcome S R)) × RunsWhole M k s cs os

  first_and_rest : (s : S) (c : C) (cs : List C) → M.Valid s → FromEach cs → (o : Outcome S R) → M.Step k s c o → (x : Option R) → o.refusal ≡ x → (os : List (Outcome S R)) × RunsWhole M k s (c ∷ cs) os
  first_and_rest s c cs valid behind o step None is = let rest = behind o.state (lawful.keeps k s c o valid step) in (o ∷ rest.0, whole_then s c cs o rest.0 step is rest.1)
  first_and_rest s c cs valid behind o step (Some r) is = (o ∷ [], whole_refused s c cs o [] r step is refl)

  whole_from : (cs : List C) → FromEach cs
  whole_from [] s valid = ([], record { runs = tt; last = None; ends = refl })
  whole_from (c ∷ cs) s valid = let w = lawful.total k s c valid in first_and_rest s c cs valid (whole_from cs) w.0 w.1 w.0.refusal refl

  -- what a run of the commands behind a first one goes on to
  abbrev pub More : List (Outcome S R) → List C → Type 0
  More os cs = (s : S) → M.Valid s → Runs M k s cs os → (more : List (Outcome S R)) × RunsWhole M k s cs (os ++ more)

  first_and_more : (s : S) (c : C) (cs : List C) (o : Outcome S R) (os : List (Outcome S R)) → M.Valid s → More os cs → M.Step k s c o → (x : Option R) → o.refusal ≡ x
      → MatchOption x (Runs M k o.state cs os) (λ _. os ≡ []) → (more : List (Outcome S R)) × RunsWhole M k s (c ∷ cs) (o ∷ (os ++ more))
  first_and_more s c cs o os valid behind step None is rest = let w = behind o.state (lawful.keeps k s c o valid step) rest in (w.0, whole_then s c cs o (os ++ w.0) step is w.1)
  first_and_more s c cs o os valid behind step (Some r) is none = ([], whole_refused s c cs o (os ++ []) r step is (append-nil os ∙ none))

  pub whole_more : (os : List (Outcome S R)) (cs : List C) → More os cs
  whole_more [] cs s valid runs = whole_from cs s valid
  whole_more (o ∷ os) [] s valid runs = absurd runs
  whole_more (o ∷ os) (c ∷ cs) s valid runs = first_and_more s c cs o os valid (whole_more os cs) runs.0 o.refusal refl runs.1
