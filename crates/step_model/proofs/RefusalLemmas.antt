-- Why a command is refused, by how it goes.
use Rattle.std.proofs.Common.{◌≡◌, ℕ, zero, suc, ◌<◌, ◌≤◌, List, [], ◌∷◌, ◌++◌, append_assoc, append-nil, ◌⊎◌, Option, Some, None, subst, refl, sym, ap, ◌∙◌, arith, inl, inr}
use Rattle.std.specs.Option.{IfSome, IsSomeAnd, is_some}
use Rattle.std.specs.Bool.{if◌then◌else◌}
use Rattle.std.specs.Str.{chars}
use Rattle.std.proofs.lemmas.Bool.{cases_lt}
use Rattle.std.proofs.lemmas.List.Elements.{All-nil, All-append}
use Rattle.regex.specs.Patterns.{Re, default_config}
use Rattle.regex_syntax.specs.Brackets.{Nested}
use Rattle.regex_syntax.specs.Grammar.{Names, read}
use Rattle.query_eval.specs.Build.{IsNoPattern}
use Rattle.query_eval.specs.Conditions.{IsPattern}
use Rattle.machine_state.specs.declared.refusal.Refusal.{Refusal}
use Rattle.machine_state.specs.declared.refusal.Refusal.TheVariants.{BadPattern}
use Rattle.step_model.specs.declared.reading.Reading.TheVariants.{Nothing}
use Rattle.step_model.specs.Case.{Case, Condition, or_else}
use Rattle.step_model.specs.Refuses.{ArePatterns, IsPatternRefusal, IsPick, Refuses, reading}

pub none_some : (refusal : Refusal) → None ≡ Some refusal → ⊥
none_some refusal e = cc

-- none of the three refuses
all_none : (a b c : Option Refusal) → None ≡ or_else a (or_else b c) → (a ≡ None) × (b ≡ None) × (c ≡ None)
all_none None None None e = (refl, refl, refl)
all_none None None (Some r) e = absurd (none_some r e)
all_none None (Some r) c e = absurd (none_some r e)
all_none (Some r) b c e = absurd (none_some r e)

-- the first of the three that refuses
which : (a b c : Option Refusal) (refusal : Refusal) → Some refusal ≡ or_else a (or_else b c) → (a ≡ Some refusal) ⊎ (((a ≡ None) × (b ≡ Some refusal)) ⊎ ((a ≡ None) × (b ≡ None) × (c ≡ Some refusal)))
which (Some r) b c refusal e = inl (sym e)
which None (Some r) c refusal e = inr (inl (refl, sym e))
which None None c refusal e = inr (inr (refl, refl, sym e))

-- what is known of a command that goes on
pub passed : (large : Option (List ℕ)) (case : Case) → Refuses large case None → (case.early ≡ None) × (case.late ≡ None) × ArePatterns case.conditions
passed large case h =
    let parts = all_none case.early h.pick case.late h.first in
    (parts.0, parts.2, subst (λ (o : Option Refusal). IsPick large case.conditions o) parts.1 (h.legal parts.0))

-- a command goes on where nothing refuses it
pub goes_on : (large : Option (List ℕ)) (case : Case) → case.early ≡ None → ArePatterns case.conditions → case.late ≡ None → Refuses large case None
goes_on large case e p l = record { pick = None; legal = λ none. p; first = sym l ∙ ap (λ (o : Option Refusal). or_else o case.late) (sym e) }

pub no_conditions : (conditions : List Condition) → conditions ≡ [] → ArePatterns conditions
no_conditions conditions e = subst ArePatterns (sym e) (All-nil (λ (c : Condition). IsPattern c.text))

-- a command without conditions goes on so
pub passes : (large : Option (List ℕ)) (case : Case) → case.early ≡ None → case.conditions ≡ [] → case.late ≡ None → Refuses large case None
passes large case e none l = goes_on large case e (no_conditions case.conditions none) l

-- a refusal before patterns
pub refuses_first : (large : Option (List ℕ)) (case : Case) (refusal : Refusal) → case.early ≡ Some refusal → Refuses large case (Some refusal)
refuses_first large case refusal e = record {
  pick = None;
  legal = λ none. absurd (none_some refusal (sym none ∙ e));
  first = ap (λ (o : Option Refusal). or_else o case.late) (sym e);
}

-- a refusal for a pattern
pub refuses_for : (large : Option (List ℕ)) (case : Case) (refusal : Refusal) → case.early ≡ None → IsPatternRefusal large case.conditions refusal → Refuses large case (Some refusal)
refuses_for large case refusal e p = record {
  pick = Some refusal;
  legal = λ none. p;
  first = ap (λ (o : Option Refusal). or_else o (Some refusal)) (sym e);
}

-- a refusal behind patterns
pub refuses_late : (large : Option (List ℕ)) (case : Case) (refusal : Refusal) → case.early ≡ None → ArePatterns case.conditions → case.late ≡ Some refusal → Refuses large case (Some refusal)
refuses_late large case refusal e p l = record { pick = None; legal = λ none. p; first = sym l ∙ ap (λ (o : Option Refusal). or_else o case.late) (sym e) }

-- what refuses a command that is refused before anything is read
abbrev pub Cause : Option (List ℕ) → Case → Refusal → Type 0
Cause large case refusal = (case.early ≡ Some refusal) ⊎ (((case.early ≡ None) × IsPatternRefusal large case.conditions refusal) ⊎ ((case.early ≡ None) × ArePatterns case.conditions × (case.late ≡ Some refusal)))

pub cause : (large : Option (List ℕ)) (case : Case) (refusal : Refusal) → Refuses large case (Some refusal) → Cause large case refusal
cause large case refusal h = by_which (which case.early h.pick case.late refusal h.first)
  where
    by_which : (case.early ≡ Some refusal) ⊎ (((case.early ≡ None) × (h.pick ≡ Some refusal)) ⊎ ((case.early ≡ None) × (h.pick ≡ None) × (case.late ≡ Some refusal))) → Cause large case refusal
    by_which (inl e) = inl e
    by_which (inr (inl e)) = inr (inl (e.0, subst (λ (o : Option Refusal). IsPick large case.conditions o) e.1 (h.legal e.0)))
    by_which (inr (inr e)) = inr (inr (e.0, subst (λ (o : Option Refusal). IsPick large case.conditions o) e.1 (h.legal e.0), e.2))

-- which text was too large matters to refusals alone
pub plain : (large other : Option (List ℕ)) (case : Case) → Refuses large case None → Refuses other case None
plain large other case h = let parts = passed large case h in goes_on other case parts.0 parts.2 parts.1

-- what is read for a command that goes on
pub reads_on : (case : Case) → case.early ≡ None → case.late ≡ None → reading case ≡ case.reads
reads_on case e l = ap (λ (o : Option Refusal). if is_some (or_else o case.late) then Nothing else case.reads) e ∙ ap (λ (o : Option Refusal). if is_some o then Nothing else case.reads) l

-- each text is a pattern or none
pub decided : (text : List ℕ) → IsPattern text ⊎ IsNoPattern text
decided text = by_reading (read default_config (chars text)) refl
  where
    by_reading : (r : Option (Nested Re × Names)) → read default_config (chars text) ≡ r → IsPattern text ⊎ IsNoPattern text
    by_reading None e = inr (inl e)
    by_reading (Some (re, names)) e =
        elim (cases_lt default_config.nest_limit re.depth) [ inl deep ↦ inr (inr (subst (λ (o : Option (Nested Re × Names)). IfSome o (λ (re, _). default_config.nest_limit < re.depth)) (sym e) deep)) | inr fits ↦ inl (subst (λ (o : Option (Nested Re × Names)). IsSomeAnd o (λ (re, _). re.depth ≤ default_config.nest_limit)) (sym e) fits) ]

one_pattern : (c : Condition) → IsPattern c.text → ArePatterns (c ∷ [])
one_pattern c p zero d l = p
one_pattern c p (suc k) d l = absurd (omega arith)

-- the first condition that is no pattern is told, if there is one
first_bad : (large : Option (List ℕ)) (before conditions : List Condition) → ArePatterns before → (pick : Option Refusal) × IsPick large (before ++ conditions) pick
first_bad large before [] all = (None, subst ArePatterns (sym (append-nil before)) all)
first_bad large before (c ∷ cs) all = by_text (decided c.text) (first_bad large (before ++ c ∷ []) cs)
  where
    by_text : IsPattern c.text ⊎ IsNoPattern c.text → (ArePatterns (before ++ c ∷ []) → (pick : Option Refusal) × IsPick large ((before ++ c ∷ []) ++ cs) pick) → (pick : Option Refusal) × IsPick large (before ++ c ∷ cs) pick
    by_text (inl good) more =
        let found = more (All-append (λ (x : Condition). IsPattern x.text) before (c ∷ []) all (one_pattern c good)) in
        (found.0, subst (λ (l : List Condition). IsPick large l found.0) (append_assoc before (c ∷ []) cs) found.1)
    by_text (inr bad) more = (Some (BadPattern c.query c.test), record { before = before; condition = c; behind = cs; split = refl; read = all; told = (refl, refl, bad) })

pub some_pick : (large : Option (List ℕ)) (conditions : List Condition) → (pick : Option Refusal) × IsPick large conditions pick
some_pick large conditions = first_bad large [] conditions (All-nil (λ (c : Condition). IsPattern c.text))

-- each command is refused before anything is read, or goes on
pub refuses_some : (large : Option (List ℕ)) (case : Case) → (refusal : Option Refusal) × Refuses large case refusal
refuses_some large case =
    let p = some_pick large case.conditions in
    (or_else case.early (or_else p.0 case.late), record { pick = p.0; legal = λ none. p.1; first = refl })
