-- Refusals that are a command's own, one before the other.
use Rattle.std.proofs.Common.{◌≡◌, ◌⊎◌, List, ℕ, Option, Some, None, Bool, true, false, refl}
use Rattle.std.specs.Option.{IfSome, option_map}
use Rattle.std.specs.Bool.{if◌then◌else◌}
use Rattle.std.specs.Prelude.{find}
use Rattle.ap_text.specs.Names.{is_name}
use Rattle.machine_state.specs.declared.arrived.Arrived.{Arrived}
use Rattle.machine_state.specs.declared.arrived.Arrived.TheVariants as arrivals
use Rattle.machine_state.specs.declared.limit.Kind.{Kind}
use Rattle.machine_state.specs.declared.refusal.Refusal.{Refusal}
use Rattle.machine_state.specs.declared.refusal.Refusal.TheVariants.{BadName, InUse}
use Rattle.machine_state.specs.Sources.{in_use, uses}
use Rattle.machine_state.specs.Values.{PublicationView}
use Rattle.step_model.specs.Case.{Came, asking_case, bad_queries, or_else}
use Rattle.step_model.specs.Lawful.{IsOwn}
use Rattle.step_model.specs.Names.{bad_folder, bad_name, is_folder}
use Rattle.step_model.proofs.AskingLemmas.{own_queries}

-- ---- where nothing refuses

pub first_none : (a b : Option Refusal) → or_else a b ≡ None → a ≡ None
first_none None b h = refl
first_none (Some r) b h = cc

pub second_none : (a b : Option Refusal) → or_else a b ≡ None → b ≡ None
second_none None b h = h
second_none (Some r) b h = cc

pub last_none : (a b c : Option Refusal) → or_else a (or_else b c) ≡ None → c ≡ None
last_none a b c h = second_none b c (second_none a (or_else b c) h)

-- ---- refusals of the command's own

abbrev pub Own : Option Refusal → Type 0
Own o = IfSome o IsOwn

pub own_else : (first second : Option Refusal) → Own first → Own second → Own (or_else first second)
own_else None second a b = b
own_else (Some refusal) second a b = a

pub own_if : (b : Bool) (first second : Option Refusal) → Own first → Own second → Own (if b then first else second)
own_if true first second p q = p
own_if false first second p q = q

pub own_name : (name : List ℕ) → Own (bad_name name)
own_name name = own_if (is_name name) None (Some (BadName name)) tt tt

pub own_folder : (path : List ℕ) → Own (bad_folder path)
own_folder path = own_if (is_folder path) None (Some (BadName path)) tt tt

pub own_asking : (early : Option Refusal) (queries : List (List ℕ)) (came : Came) → Own early → Own (asking_case early queries came).early
own_asking early queries came own = own_else early (bad_queries queries) own (own_queries queries)

pub own_used : (kind : Kind) (name : List ℕ) (publications : List PublicationView) → Own (in_use kind name publications)
own_used kind name publications = by_found (find (uses kind name) publications)
  where
    by_found : (o : Option PublicationView) → Own (option_map (λ (p : PublicationView). InUse kind name p.prefix p.dist) o)
    by_found None = tt
    by_found (Some p) = tt

-- a refusal that is the command's own, or that arrived
abbrev pub OwnOr : Arrived → Refusal → Type 0
OwnOr arrived refusal = IsOwn refusal ⊎ (arrived ≡ arrivals.Refused refusal)
