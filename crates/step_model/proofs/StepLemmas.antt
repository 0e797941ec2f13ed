-- What the steps of cases come to.
use Rattle.std.proofs.Common.{◌≡◌, ◌≢◌, ◌⊎◌, ℕ, List, [], Option, Some, None, inl, inr, refl, sym, ap, subst, ◌∙◌}
use Rattle.std.specs.Option.{IfSome}
use Rattle.std.proofs.lemmas.List.Elements.{All-contains_itself}
use Rattle.run_model.specs.Run.{Outcome}
use Rattle.machine_state.specs.declared.change.Change.{Change}
use Rattle.machine_state.specs.declared.refusal.Refusal.{Refusal}
use Rattle.machine_state.specs.declared.refusal.Refusal.TheVariants.{NotBuilt}
use Rattle.machine_state.specs.declared.arrived.Arrived.{Arrived}
use Rattle.machine_state.specs.State.{Valid}
use Rattle.machine_state.specs.Values.{StateView}
use Rattle.step_model.specs.Case.{Case, Came, changes, refuses, unbuilt}
use Rattle.step_model.specs.Refuses.{Refuses}
use Rattle.step_model.specs.Steps.{refused, outcome_of, came_to, StepWith}
use Rattle.step_model.specs.Answers.{changed, came, ComesTo, IsRefusedFor}
use Rattle.step_model.specs.Lawful.{IfChanges, IsFrom, LawFor, LawOf}
use Rattle.step_model.proofs.RefusalLemmas.{none_some, passed, plain, refuses_some, Cause, cause}

-- a command that isn't built doesn't go on
pub is_built : (case : Case) → case ≡ unbuilt → case.early ≡ None → ⊥
is_built case e none = none_some NotBuilt (sym none ∙ ap (λ (c : Case). c.early) e)

-- all that is known is from what was known
pub from_known : (state : StateView) (arrived : Arrived) → IsFrom state arrived state
from_known state arrived = (λ k d l. inl (All-contains_itself state.known k d l), λ none. none)

module _ (line : Refusal → List ℕ) where
  -- what a call of a family comes to is a step
  pub step_comes : (large : Option (List ℕ)) (state : StateView) (case : Case) (arrived : Arrived) (change : Change) → ComesTo large case arrived (came state change) → StepWith line large state case arrived (changed state change)
  step_comes large state case arrived change h = record { refusal = None; refuses = h.0; comes = sym (ap (outcome_of line state) h.1) }

  pub step_refused : (large : Option (List ℕ)) (state : StateView) (case : Case) (arrived : Arrived) (refusal : Refusal) → IsRefusedFor large case arrived refusal → StepWith line large state case arrived (refused line state refusal)
  step_refused large state case arrived refusal (inl h) = record { refusal = Some refusal; refuses = h; comes = refl }
  step_refused large state case arrived refusal (inr h) = record { refusal = None; refuses = h.0; comes = sym (ap (outcome_of line state) h.1) }

  -- each case comes to something
  pub step_some : (large : Option (List ℕ)) (state : StateView) (case : Case) (arrived : Arrived) → (outcome : Outcome StateView Refusal) × StepWith line large state case arrived outcome
  step_some large state case arrived =
      let r = refuses_some large case in
      (came_to line state case arrived r.0, record { refusal = r.0; refuses = r.1; comes = refl })

  -- a refused command keeps the state
  abbrev Keeps : StateView → Outcome StateView Refusal → Type 0
  Keeps state outcome = IfSome outcome.refusal (λ refusal. outcome.state ≡ state)

  pub refused_kept : (large : Option (List ℕ)) (state : StateView) (case : Case) (arrived : Arrived) (outcome : Outcome StateView Refusal) → StepWith line large state case arrived outcome → IfSome outcome.refusal (λ refusal. outcome.state ≡ state)
  refused_kept large state case arrived outcome s = subst (Keeps state) (sym s.comes) (by_refusal s.refusal)
    where
      by_came : (c : Came) → Keeps state (outcome_of line state c)
      by_came (changes reply new) = tt
      by_came (refuses refusal) = refl

      by_refusal : (r : Option Refusal) → Keeps state (came_to line state case arrived r)
      by_refusal (Some refusal) = refl
      by_refusal None = by_came (case.comes arrived)

  -- and says its line
  abbrev Says : Outcome StateView Refusal → Type 0
  Says outcome = IfSome outcome.refusal (λ refusal. outcome.reply ≡ line refusal)

  pub refused_says : (large : Option (List ℕ)) (state : StateView) (case : Case) (arrived : Arrived) (outcome : Outcome StateView Refusal) → StepWith line large state case arrived outcome → IfSome outcome.refusal (λ refusal. outcome.reply ≡ line refusal)
  refused_says large state case arrived outcome s = subst Says (sym s.comes) (by_refusal s.refusal)
    where
      by_came : (c : Came) → Says (outcome_of line state c)
      by_came (changes reply new) = tt
      by_came (refuses refusal) = refl

      by_refusal : (r : Option Refusal) → Says (came_to line state case arrived r)
      by_refusal (Some refusal) = refl
      by_refusal None = by_came (case.comes arrived)

  -- which text was too large matters to refusals alone
  pub step_plain : (large other : Option (List ℕ)) (state : StateView) (case : Case) (arrived : Arrived) (outcome : Outcome StateView Refusal) → outcome.refusal ≡ None → StepWith line large state case arrived outcome → StepWith line other state case arrived outcome
  step_plain large other state case arrived outcome none s = record { refusal = s.refusal; refuses = by_refusal s.refusal s.refuses s.comes; comes = s.comes }
    where
      by_refusal : (r : Option Refusal) → Refuses large case r → outcome ≡ came_to line state case arrived r → Refuses other case r
      by_refusal None h e = plain large other case h
      by_refusal (Some refusal) h e = absurd (none_some refusal (sym none ∙ ap (λ (o : Outcome StateView Refusal). o.refusal) e))

  -- why a step refuses
  pub step_cause : (large : Option (List ℕ)) (state : StateView) (case : Case) (arrived : Arrived) (outcome : Outcome StateView Refusal) (refusal : Refusal) → outcome.refusal ≡ Some refusal → StepWith line large state case arrived outcome
      → Cause large case refusal ⊎ ComesTo large case arrived (refuses refusal)
  step_cause large state case arrived outcome refusal some s = by_refusal s.refusal s.refuses (sym some ∙ ap (λ (o : Outcome StateView Refusal). o.refusal) s.comes)
    where
      by_refusal : (r : Option Refusal) → Refuses large case r → Some refusal ≡ (came_to line state case arrived r).refusal → Cause large case refusal ⊎ ComesTo large case arrived (refuses refusal)
      by_refusal (Some other) h e = inl (cause large case refusal (subst (Refuses large case) (sym e) h))
      by_refusal None h e = by_came (case.comes arrived) refl e
        where
          by_came : (c : Came) → case.comes arrived ≡ c → Some refusal ≡ (outcome_of line state c).refusal → Cause large case refusal ⊎ ComesTo large case arrived (refuses refusal)
          by_came (changes reply new) g f = absurd (none_some refusal (sym f))
          by_came (refuses other) g f = inr (h, g ∙ ap refuses (same other f))
            where
              same : (other : Refusal) → Some refusal ≡ Some other → other ≡ refusal
              same other q = cc

  -- a lawful case goes from a valid state over into a valid one
  pub step_valid : (large : Option (List ℕ)) (state : StateView) (MayArrive : Arrived → Type 0) (case : Case) (arrived : Arrived) (outcome : Outcome StateView Refusal) → LawOf state MayArrive case → Valid state
      → (case.early ≡ None → case.late ≡ None → MayArrive arrived) → StepWith line large state case arrived outcome → Valid outcome.state
  step_valid large state MayArrive case arrived outcome law v may s = subst (λ (o : Outcome StateView Refusal). Valid o.state) (sym s.comes) (by_refusal s.refusal s.refuses)
    where
      by_came : (c : Came) → IfChanges c (λ reply new. Valid new) → Valid (outcome_of line state c).state
      by_came (changes reply new) h = h
      by_came (refuses refusal) h = v

      by_law : LawOf state MayArrive case → case.early ≡ None → case.late ≡ None → Valid (outcome_of line state (case.comes arrived)).state
      by_law (inl e) early late = absurd (is_built case e early)
      by_law (inr l) early late = by_came (case.comes arrived) (l.valid v early late arrived (may early late))

      by_refusal : (r : Option Refusal) → Refuses large case r → Valid (came_to line state case arrived r).state
      by_refusal (Some refusal) h = v
      by_refusal None h = let parts = passed large case h in by_law law parts.0 parts.1

  -- its reply has a byte, where the line of each refusal has
  pub step_says : (large : Option (List ℕ)) (state : StateView) (MayArrive : Arrived → Type 0) (case : Case) (arrived : Arrived) (outcome : Outcome StateView Refusal) → LawOf state MayArrive case
      → ((refusal : Refusal) → line refusal ≢ []) → StepWith line large state case arrived outcome → outcome.reply ≢ []
  step_says large state MayArrive case arrived outcome law says s = subst (λ (o : Outcome StateView Refusal). o.reply ≢ []) (sym s.comes) (by_refusal s.refusal s.refuses)
    where
      by_came : (c : Came) → IfChanges c (λ reply new. reply ≢ []) → (outcome_of line state c).reply ≢ []
      by_came (changes reply new) h = h
      by_came (refuses refusal) h = says refusal

      by_law : LawOf state MayArrive case → case.early ≡ None → (outcome_of line state (case.comes arrived)).reply ≢ []
      by_law (inl e) early = absurd (is_built case e early)
      by_law (inr l) early = by_came (case.comes arrived) (l.says arrived)

      by_refusal : (r : Option Refusal) → Refuses large case r → (came_to line state case arrived r).reply ≢ []
      by_refusal (Some refusal) h = says refusal
      by_refusal None h = let parts = passed large case h in by_law law parts.0

  -- what its state knows was known, or arrived
  pub step_knows : (large : Option (List ℕ)) (state : StateView) (MayArrive : Arrived → Type 0) (case : Case) (arrived : Arrived) (outcome : Outcome StateView Refusal) → LawOf state MayArrive case
      → StepWith line large state case arrived outcome → IsFrom state arrived outcome.state
  step_knows large state MayArrive case arrived outcome law s = subst (λ (o : Outcome StateView Refusal). IsFrom state arrived o.state) (sym s.comes) (by_refusal s.refusal s.refuses)
    where
      by_came : (c : Came) → IfChanges c (λ reply new. IsFrom state arrived new) → IsFrom state arrived (outcome_of line state c).state
      by_came (changes reply new) h = h
      by_came (refuses refusal) h = from_known state arrived

      by_law : LawOf state MayArrive case → case.early ≡ None → IsFrom state arrived (outcome_of line state (case.comes arrived)).state
      by_law (inl e) early = absurd (is_built case e early)
      by_law (inr l) early = by_came (case.comes arrived) (l.knows arrived)

      by_refusal : (r : Option Refusal) → Refuses large case r → IsFrom state arrived (came_to line state case arrived r).state
      by_refusal (Some refusal) h = from_known state arrived
      by_refusal None h = let parts = passed large case h in by_law law parts.0

-- what is lawful for all that may arrive is so for this
pub law_for : (state : StateView) (MayArrive : Arrived → Type 0) (case : Case) (arrived : Arrived) → LawOf state MayArrive case → MayArrive arrived → LawFor state arrived case
law_for state MayArrive case arrived (inl e) may = inl e
law_for state MayArrive case arrived (inr l) may = inr (record {
  valid = λ v early late other is. l.valid v early late other (subst MayArrive (sym is) may);
  says = l.says;
  knows = l.knows;
  early = l.early;
  late = l.late;
  comes = λ other is. l.comes other (subst MayArrive (sym is) may);
})
