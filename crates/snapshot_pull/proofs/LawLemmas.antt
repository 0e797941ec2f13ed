-- What the cases of snapshots keep to.
use Rattle.std.proofs.Common.{◌≡◌, ◌≢◌, ℕ, ◌<◌, List, [], ◌∷◌, ◌++◌, length, Option, Some, None, Bool, true, false, cond, All, refl, sym, ap, subst, arith, rules, inl}
use Rattle.std.specs.Option.{is_some}
use Rattle.std.specs.Bool.{nat_le, if◌then◌else◌}
use Rattle.std.specs.Str.{bytes_eq}
use Rattle.std.proofs.lemmas.List.{length-append}
use Rattle.std.proofs.lemmas.List.Elements.{All-head, All-tail}
use Rattle.ap_text.specs.Names.{is_name}
use Rattle.package_core.specs.Card.{Card}
use Rattle.machine_state.specs.declared.limit.Kind.TheVariants as kinds
use Rattle.machine_state.specs.declared.limit.Limit.TheVariants as limits
use Rattle.machine_state.specs.declared.refusal.Refusal.{Refusal}
use Rattle.machine_state.specs.declared.refusal.Refusal.TheVariants.{BadName, Exists, Limit, Unknown}
use Rattle.machine_state.specs.declared.snapshot.Snapshot.{Snapshot}
use Rattle.machine_state.specs.declared.arrived.Arrived.{Arrived}
use Rattle.machine_state.specs.Lists.{IsNamedList}
use Rattle.machine_state.specs.Named.{named}
use Rattle.machine_state.specs.State.{Valid, snapshot_name, snapshot_of}
use Rattle.machine_state.specs.Values.{StateView}
use Rattle.machine_state.proofs.ListLemmas.{named_none}
use Rattle.reply_text.specs.Words.{line}
use Rattle.step_model.specs.Case.{Came, asking_case, bad_queries, changes, refuses, plain_case}
use Rattle.step_model.specs.Names.{bad_name}
use Rattle.step_model.specs.Lawful.{IfChanges, IfRefuses, IsFrom, IsLawful, IsOwn}
use Rattle.step_model.proofs.AskingLemmas.{own_queries}
use Rattle.step_model.proofs.OwnLemmas.{Own, OwnOr, first_none, own_else, own_if}
use Rattle.step_model.proofs.StepLemmas.{from_known}
use Rattle.snapshot_pull.specs.Snapshots.{list_in, list_of, made, snapshot_from, taken, unknown, where_room, with_snapshot}
use Rattle.snapshot_pull.proofs.StateLemmas.{valid_more}

-- ---- every reply is some bytes

pub line_some : (text : List ℕ) → line text ≢ []
unfolding line
line_some text e = absurd (omega (arith, ap length e, length-append text (10 ∷ [])))

pub front_some : (xs ys : List ℕ) → xs ≢ [] → xs ++ ys ≢ []
front_some [] ys h e = h refl
front_some (x ∷ xs) ys h e = cc

pub behind_some : (xs ys : List ℕ) → ys ≢ [] → xs ++ ys ≢ []
behind_some [] ys h e = h e
behind_some (x ∷ xs) ys h e = cc

-- ---- refusals by names

pub own_taken : (snapshots : List Snapshot) (name : List ℕ) → Own (taken snapshots name)
own_taken snapshots name = own_if (is_some (snapshot_of name snapshots)) (Some (Exists kinds.Snapshot name)) None tt tt

pub own_unknown : (snapshots : List Snapshot) (name : List ℕ) → Own (unknown snapshots name)
own_unknown snapshots name = own_if (is_some (snapshot_of name snapshots)) None (Some (Unknown kinds.Snapshot name)) tt tt

-- a name of the words is one
pub name_is : (name : List ℕ) → bad_name name ≡ None → is_name name ≡ true
name_is name = by_name (is_name name)
  where
    by_name : (b : Bool) → (if b then None else Some (BadName name)) ≡ None → b ≡ true
    by_name true h = refl
    by_name false h = cc

-- ---- laws of a case

-- what a command that is refused first for this, and comes to this, keeps to
pub record Keeps (state : StateView) (early : Option Refusal) (came : Came) : Type 0 where
  pub valid : Valid state → early ≡ None → IfChanges came (λ reply new. Valid new)
  pub says : IfChanges came (λ reply new. reply ≢ [])
  pub knows : (arrived : Arrived) → IfChanges came (λ reply new. IsFrom state arrived new)
  pub own : Own early
  pub told : (arrived : Arrived) → IfRefuses came (OwnOr arrived)

pub plain_law : (state : StateView) (May : Arrived → Type 0) (early : Option Refusal) (came : Came) → Keeps state early came → IsLawful state May (plain_case early came)
plain_law state May early came k = record {
  valid = λ v e late arrived may. k.valid v e;
  says = λ arrived. k.says;
  knows = k.knows;
  early = k.own;
  late = tt;
  comes = λ arrived may. k.told arrived;
}

pub asking_law : (state : StateView) (May : Arrived → Type 0) (early : Option Refusal) (queries : List (List ℕ)) (came : Came) → Keeps state early came → IsLawful state May (asking_case early queries came)
asking_law state May early queries came k = record {
  valid = λ v e late arrived may. k.valid v (first_none early (bad_queries queries) e);
  says = λ arrived. k.says;
  knows = k.knows;
  early = own_else early (bad_queries queries) k.own (own_queries queries);
  late = tt;
  comes = λ arrived may. k.told arrived;
}

-- a command that tells something and changes nothing
pub telling : (state : StateView) (early : Option Refusal) (reply : List ℕ) → reply ≢ [] → Own early → Keeps state early (changes reply state)
telling state early reply some good = record { valid = λ v e. v; says = some; knows = λ arrived. from_known state arrived; own = good; told = λ arrived. tt }

-- a command that changes the state, and what is known not
pub changing : (state new : StateView) (early : Option Refusal) (reply : List ℕ) → (Valid state → early ≡ None → Valid new) → reply ≢ [] → new.known ≡ state.known → (state.publications ≡ [] → new.publications ≡ []) → Own early → Keeps state early (changes reply new)
changing state new early reply valid some known none good = record {
  valid = valid;
  says = some;
  knows = λ arrived. ((subst (λ (l : List Card). IsFrom state arrived (record state { known = l })) (sym known) (from_known state arrived)).0, none);
  own = good;
  told = λ arrived. tt;
}

-- a command that is refused behind its queries
pub refusing : (state : StateView) (early : Option Refusal) (refusal : Refusal) → IsOwn refusal → Own early → Keeps state early (refuses refusal)
refusing state early refusal is good = record { valid = λ v e. tt; says = tt; knows = λ arrived. tt; own = good; told = λ arrived. inl is }

-- ---- a new snapshot

module _ (state : StateView) (early : Option Refusal) where
  -- what keeps to the law where there is room
  pub room_keeps : (came : Came) → Own early → (length state.snapshots < 10000 → Keeps state early came) → Keeps state early (where_room state came)
  room_keeps came good keeps = by_room (nat_le 10000 (length state.snapshots)) refl
    where
      by_room : (b : Bool) → nat_le 10000 (length state.snapshots) ≡ b → Keeps state early (if b then refuses (Limit limits.Snapshots) else came)
      by_room true e = refusing state early (Limit limits.Snapshots) tt good
      by_room false e = keeps (search rules)

  -- a snapshot more
  pub room_made : (name : List ℕ) → (early ≡ None → is_name name ≡ true) → Own early → (list : List Card) → (Valid state → early ≡ None → IsNamedList state.known list) → (reply : List ℕ) → reply ≢ [] → Keeps state early (made state reply name list)
  room_made name is good list fits reply some =
      room_keeps _ good (λ few. changing state (with_snapshot state (snapshot_from name list)) early reply (λ v e. valid_more state v (snapshot_from name list) (is e) (fits v e) few) some refl (λ none. none) good)

-- ---- the lists that there are

-- what holds of each holds of what is found by its name
pub named_holds : {X : Type 0} (name_of : X → List ℕ) (P : X → Type 0) (name : List ℕ) (xs : List X) (x : X) → All P xs → named name_of name xs ≡ Some x → P x
named_holds name_of P name [] x all h = cc
named_holds name_of P name (y ∷ ys) x all h = by_test (bytes_eq (name_of y) name) h (named_holds name_of P name ys x (All-tail P y ys all))
  where
    by_test : (b : Bool) → cond b (Some y) (named name_of name ys) ≡ Some x → (named name_of name ys ≡ Some x → P x) → P x
    by_test true g more = let s : y ≡ x = cc in subst P s (All-head P y ys all)
    by_test false g more = more g

pub list_named : (state : StateView) (name : List ℕ) → Valid state → IsNamedList state.known (list_of state name)
list_named state name v = by_found (snapshot_of name state.snapshots) refl
  where
    by_found : (o : Option Snapshot) → snapshot_of name state.snapshots ≡ o → IsNamedList state.known (list_in o)
    by_found None e = named_none state.known
    by_found (Some s) e = named_holds snapshot_name (λ (s : Snapshot). IsNamedList state.known s.list) name state.snapshots s v.snapshots.lists e
