-- Names one behind another, in the order of their bytes.
use Rattle.std.proofs.Common.{◌≡◌, ℕ, ◌↔◌, Bool, true, false, List, [], ◌∷◌, ◌++◌, IsTrue, All, sym, ◌∙◌, subst, Ordering, Less}
use Rattle.std.specs.Ordering.{nat_cmp, is_lt}
use Rattle.std.specs.Cmp.Lexicographic.{slice_cmp}
use Rattle.std.proofs.lemmas.Bool.{true≢false}
use Rattle.std.proofs.lemmas.Cmp.{nat_list_cmp_total}
use Rattle.std.proofs.lemmas.List.{append_cancel_left}
use Rattle.machine_state.specs.Ascending as names
use Rattle.machine_state.specs.Named.{name_cmp, named_cmp}
use Rattle.catalogue_lines.specs.Lines.{IsLine}
use Rattle.catalogue_lines.specs.PartForms.{IsNext}
use Rattle.catalogue_lines.specs.Reading.{NoLine, Each}
use Rattle.catalogue_lines.proofs.LineLemmas.{line_unique}
use Rattle.catalogue_lines.proofs.OrderLemmas.{key_follows, rising_push, rising_before, rising_each}

module _ {X : Type 0} (name_of : X → List ℕ) where
  abbrev pub NamesBefore : List X → List ℕ → Type 0
  NamesBefore done name = All (λ x. name_cmp name_of x name ≡ Less) done

  pub names_before : (done : List X) (x : X) (xs : List X) → names.IsAscending (named_cmp name_of) (done ++ x ∷ xs) → NamesBefore done (name_of x)
  names_before = rising_before (named_cmp name_of)

  pub names_push : (done : List X) (x : X) → names.IsAscending (named_cmp name_of) done → NamesBefore done (name_of x) → names.IsAscending (named_cmp name_of) (done ++ x ∷ [])
  names_push = rising_push (named_cmp name_of)

  -- what stands one behind another in the order of the names
  pub names_each : (Good : List X → X → Type 0) → ((done : List X) (x : X) → Good done x → NamesBefore done (name_of x)) → (done xs : List X) → names.IsAscending (named_cmp name_of) done → Each Good done xs → names.IsAscending (named_cmp name_of) (done ++ xs)
  names_each = rising_each (named_cmp name_of)

  pub follows_last : (lt : Bool) (o : Ordering) (done front : List X) (last : X) (name : List ℕ) → names.IsAscending (named_cmp name_of) done → done ≡ front ++ last ∷ [] → lt ≡ is_lt o → o ≡ name_cmp name_of last name → IsTrue lt ↔ NamesBefore done name
  follows_last = key_follows name_of (slice_cmp nat_cmp) nat_list_cmp_total

  -- a name that doesn't follow is not the next
  pub not_next : (key : List ℕ) (before : List X) (text rest name : List ℕ) (follows : Bool) → follows ≡ false → (IsTrue follows ↔ NamesBefore before name) → IsLine text (key ++ name) rest → NoLine (λ n. key ++ n) (IsNext name_of before) text
  not_next key before text rest name follows f h l a behind g m =
      let same : name ≡ a = append_cancel_left key name a (line_unique text (key ++ name) (key ++ a) rest behind l m).0 in
      true≢false (sym (h.1 (subst (NamesBefore before) (sym same) g.1)) ∙ f)
