-- Why a call is refused: the commands say so, whatever host and inbox tell.
use Rattle.std.proofs.Common.{◌≡◌, inl, inr, ℕ, ℤ, zero, suc, ◌<◌, List, [], ◌∷◌, ◌++◌, length, Contains, slice_index_or, Option, Some, None, MatchOption, refl, sym, ◌∙◌, ap, subst, arith}
use Rattle.run_model.specs.Run.{Outcome, Runs, EndsAs}
use Rattle.command_words.specs.Plain.{PlainCommand}
use Rattle.query_eval.specs.Build.{IsNoPattern}
use Rattle.machine_state.specs.declared.refusal.Refusal.{Refusal}
use Rattle.machine_state.specs.declared.refusal.Refusal.TheVariants.{NotBuilt, BadPattern, PatternTooLarge}
use Rattle.machine_state.specs.Values.{StateView}
use Rattle.step_model.specs.Refuses.{IsPatternRefusal}
use Rattle.machine_step.specs.Causes.{IsUnbuilt}
use Rattle.machine_step.specs.Step.{Given, asked_conditions}
use Rattle.machine_step.proofs.StepLaws.{cause, unbuilt}
use Rattle.aptly_core.specs.declared.status.Status.{Status}
use Rattle.aptly_core.specs.declared.status.Status.TheVariants as statuses
use Rattle.aptly_core.specs.Calls.{asked}
use Rattle.aptly_core.specs.Causes.{AsksFor, HasCondition}
use Rattle.aptly_core.specs.Machine.{machine, Steps}
use Rattle.aptly_core.specs.Runs.{EndsWith, EndsFrom, IsEnd}

-- the condition that is told is one of the command, and those before it are patterns
has_condition : (now : ℤ) (large : Option (List ℕ)) (s : StateView) (c : PlainCommand) (query test : ℕ) (refusal : Refusal) (told : IsPatternRefusal large (asked_conditions now s c) refusal) → query ≡ told.condition.query → test ≡ told.condition.test → HasCondition query test told.condition.text c
has_condition now large s c query test refusal told q t =
    (now, s, told.before, told.behind, told.split ∙ (λ i. told.before ++ record { query = sym q i; test = sym t i; text = told.condition.text } ∷ told.behind), told.read)

-- ---- lists of commands
abbrev Found : Given → Option (List ℕ) → List PlainCommand → Refusal → Type 0
Found given large cs r = (s : StateView) × (c : PlainCommand) × (o : Outcome StateView Refusal) × Contains cs c × Steps given large s c o × (o.refusal ≡ Some r)

module _ (given : Given) (large : Option (List ℕ)) where
  found_more : (c : PlainCommand) (cs : List PlainCommand) (r : Refusal) → Found given large cs r → Found given large (c ∷ cs) r
  found_more c cs r w = (w.0, w.1, w.2, (suc w.3.0, omega (arith, w.3.1), w.3.2), w.4, w.5)

  last_one : (s : StateView) (c : PlainCommand) (cs : List PlainCommand) (o : Outcome StateView Refusal) (os : List (Outcome StateView Refusal)) (r : Refusal) (q : Option Refusal) → o.refusal ≡ q → Steps given large s c o
      → MatchOption q (Runs (machine given) large o.state cs os) (λ _. os ≡ []) → MatchOption q (EndsAs cs os (Some r)) (λ refusal. (os ≡ []) × (Some r ≡ Some refusal))
      → (Runs (machine given) large o.state cs os → EndsAs cs os (Some r) → Found given large cs r) → Found given large (c ∷ cs) r
  last_one s c cs o os r None e step runs ends more = found_more c cs r (more runs ends)
  last_one s c cs o os r (Some q) e step runs ends more = (s, c, o, (0, omega arith, refl), step, e ∙ sym ends.1)

  -- the refused command
  last_refused : (s : StateView) (cs : List PlainCommand) (os : List (Outcome StateView Refusal)) (r : Refusal) → Runs (machine given) large s cs os → EndsAs cs os (Some r) → Found given large cs r
  last_refused s [] [] r runs ends = absurd (cc)
  last_refused s [] (o ∷ os) r runs ends = absurd ends
  last_refused s (c ∷ cs) [] r runs ends = absurd ends
  last_refused s (c ∷ cs) (o ∷ os) r runs ends = last_one s c cs o os r o.refusal refl runs.0 runs.1 ends (λ x y. last_refused o.state cs os r x y)

  -- where all were done, each is built
  done_one : (cs : List PlainCommand) (o : Outcome StateView Refusal) (os : List (Outcome StateView Refusal)) (q : Option Refusal) → o.refusal ≡ q
      → MatchOption q (Runs (machine given) large o.state cs os) (λ _. os ≡ []) → MatchOption q (EndsAs cs os None) (λ refusal. (os ≡ []) × (None ≡ Some refusal))
      → (o.refusal ≡ None → Runs (machine given) large o.state cs os → EndsAs cs os None → ⊥) → ⊥
  done_one cs o os None e runs ends more = more e runs ends
  done_one cs o os (Some q) e runs ends more = absurd (let no : None ≡ Some q = ends.1 in cc)

  none_unbuilt : (s : StateView) (cs : List PlainCommand) (os : List (Outcome StateView Refusal)) → Runs (machine given) large s cs os → EndsAs cs os None → (k : ℕ) (c : PlainCommand) → k < length cs → slice_index_or cs k c ≡ c → IsUnbuilt c → ⊥
  none_unbuilt s [] os runs ends k c lt at is = absurd (omega (arith, lt))
  none_unbuilt s (d ∷ cs) [] runs ends k c lt at is = ends
  none_unbuilt s (d ∷ cs) (o ∷ os) runs ends zero c lt at is =
      done_one cs o os o.refusal refl runs.1 ends (λ none x y. let no : None ≡ Some NotBuilt = sym none ∙ unbuilt given large s d o (subst IsUnbuilt (sym at) is) runs.0 in cc)
  none_unbuilt s (d ∷ cs) (o ∷ os) runs ends (suc k) c lt at is = done_one cs o os o.refusal refl runs.1 ends (λ none x y. none_unbuilt o.state cs os x y k c (omega (arith, lt)) at is)

-- ---- calls
module _ (given : Given) (Told : Option (List ℕ) → Type 0) (words : List (List ℕ)) (cs : List PlainCommand) (found : asked words ≡ Some cs) where
  pub too_large : (query test : ℕ) → EndsFrom given Told cs (statuses.Refused (PatternTooLarge query test)) → (text : List ℕ) × Told (Some text) × AsksFor words (HasCondition query test text)
  too_large query test w =
      let last = last_refused given w.2.0 w.0 cs w.2.2 (PatternTooLarge query test) w.2.3 w.2.4 in
      elim (cause given w.2.0 last.0 last.1 last.2 (PatternTooLarge query test) last.4 last.5) [
        | inl own ↦ absurd own
        | inr (inl none) ↦ absurd (let no : PatternTooLarge query test ≡ NotBuilt = none.0 in cc)
        | inr (inr is) ↦ (is.condition.text, subst Told is.told.2 w.2.1, (cs, last.1, found, last.3, has_condition given.now w.2.0 last.0 last.1 query test (PatternTooLarge query test) is is.told.0 is.told.1))
      ]

  pub no_pattern : (query test : ℕ) → EndsFrom given Told cs (statuses.Refused (BadPattern query test)) → (text : List ℕ) × IsNoPattern text × AsksFor words (HasCondition query test text)
  no_pattern query test w =
      let last = last_refused given w.2.0 w.0 cs w.2.2 (BadPattern query test) w.2.3 w.2.4 in
      elim (cause given w.2.0 last.0 last.1 last.2 (BadPattern query test) last.4 last.5) [
        | inl own ↦ absurd own
        | inr (inl none) ↦ absurd (let no : BadPattern query test ≡ NotBuilt = none.0 in cc)
        | inr (inr is) ↦ (is.condition.text, is.told.2, (cs, last.1, found, last.3, has_condition given.now w.2.0 last.0 last.1 query test (BadPattern query test) is is.told.0 is.told.1))
      ]

  pub not_built : EndsFrom given Told cs (statuses.Refused NotBuilt) → AsksFor words IsUnbuilt
  not_built w =
      let last = last_refused given w.2.0 w.0 cs w.2.2 NotBuilt w.2.3 w.2.4 in
      elim (cause given w.2.0 last.0 last.1 last.2 NotBuilt last.4 last.5) [
        | inl own ↦ absurd own
        | inr (inl none) ↦ (cs, last.1, found, last.3, none.1)
        | inr (inr is) ↦ absurd is.told
      ]

  -- a call that is done asked for nothing that isn't built
  pub all_built : EndsFrom given Told cs statuses.Done → AsksFor words IsUnbuilt → ⊥
  all_built w asks =
      let same : Some asks.0 ≡ Some cs = sym asks.2 ∙ found in
      let one : asks.0 ≡ cs = cc in
      let has : Contains cs asks.1 = subst (λ (x : List PlainCommand). Contains x asks.1) one asks.3 in
      none_unbuilt given w.2.0 w.0 cs w.2.2 w.2.3 w.2.4 has.0 asks.1 has.1 has.2 asks.4

  -- and one whose first command isn't built is refused so
  pub unbuilt_first : (status : Status) → IsEnd status → EndsFrom given Told cs status → (c : PlainCommand) (rest : List PlainCommand) → asked words ≡ Some (c ∷ rest) → IsUnbuilt c → status ≡ statuses.Refused NotBuilt
  unbuilt_first status end w c rest asks is = go status end w.2
    where
      same : cs ≡ c ∷ rest
      same = let e : Some cs ≡ Some (c ∷ rest) = sym found ∙ asks in cc

      refused_one : (os : List (Outcome StateView Refusal)) (large : Option (List ℕ)) (r : Option Refusal) → Runs (machine given) large w.0 (c ∷ rest) os → EndsAs (c ∷ rest) os r → r ≡ Some NotBuilt
      refused_one [] large r runs ends = absurd ends
      refused_one (o ∷ os) large r runs ends = (subst (λ (q : Option Refusal). MatchOption q (EndsAs rest os r) (λ refusal. (os ≡ []) × (r ≡ Some refusal))) (unbuilt given large w.0 c o is runs.0) ends).1

      go : (status : Status) → IsEnd status → EndsWith given Told w.0 cs status → status ≡ statuses.Refused NotBuilt
      go statuses.Done end e = let no : None ≡ Some NotBuilt = refused_one e.2 e.0 None (subst (λ (x : List PlainCommand). Runs (machine given) e.0 w.0 x e.2) same e.3) (subst (λ (x : List PlainCommand). EndsAs x e.2 None) same e.4) in absurd (cc)
      go (statuses.Refused r) end e =
          let one : Some r ≡ Some NotBuilt = refused_one e.2 e.0 (Some r) (subst (λ (x : List PlainCommand). Runs (machine given) e.0 w.0 x e.2) same e.3) (subst (λ (x : List PlainCommand). EndsAs x e.2 (Some r)) same e.4) in
          let is : r ≡ NotBuilt = cc in
          ap (λ (x : Refusal). statuses.Refused x) is
      go (statuses.Usage p) end e = absurd end
      go statuses.HostFault end e = absurd end
      go statuses.InboxFault end e = absurd end
      go statuses.OutOfMemory end e = absurd end
      go (statuses.Damaged d) end e = absurd end
      go statuses.Busy end e = absurd end
