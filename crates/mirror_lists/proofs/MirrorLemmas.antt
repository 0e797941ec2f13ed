-- What holds of mirrors by name, and of what they fetched.
use Rattle.std.proofs.Common.{◌≡◌, ℕ, List, [], ◌∷◌, Option, Some, None, Bool, true, false, cond, All, ap, subst, sym, ◌∙◌}
use Rattle.std.specs.Option.{IfSome, is_some}
use Rattle.std.specs.Str.{bytes_eq}
use Rattle.std.proofs.lemmas.List.Elements.{All-head, All-tail}
use Rattle.package_core.specs.Card.{Card}
use Rattle.machine_state.specs.declared.change.ChangeFault.{ChangeFault}
use Rattle.machine_state.specs.declared.fetched.Fetched.{Fetched}
use Rattle.machine_state.specs.declared.limit.Kind.TheVariants as kinds
use Rattle.machine_state.specs.declared.refusal.Refusal.TheVariants.{NotUpdated, Unknown}
use Rattle.machine_state.specs.Lists.{IsNamedList}
use Rattle.machine_state.specs.Mirrors.{MirrorLists}
use Rattle.machine_state.specs.State.{Valid, mirror_name, mirror_of}
use Rattle.machine_state.specs.Values.{MirrorView, StateView}
use Rattle.machine_state.proofs.ListLemmas.{named_none}
use Rattle.machine_state.proofs.NamedLemmas.{named_has}
use Rattle.step_model.specs.Answers.{IsFirst}
use Rattle.step_model.specs.Case.{or_else}
use Rattle.step_model.proofs.OwnLemmas.{Own, own_if}
use Rattle.mirror_lists.specs.Mirrors.{fetched_in, fetched_list_in, fetched_list_of, fetched_of, never_in, never_updated, unknown_mirror}

-- ---- refusals are the command's own

pub own_mirror : (mirrors : List MirrorView) (name : List ℕ) → Own (unknown_mirror mirrors name)
own_mirror mirrors name = own_if (is_some (mirror_of name mirrors)) None (Some (Unknown kinds.Mirror name)) tt tt

pub own_updated : (state : StateView) (name : List ℕ) → Own (never_updated state name)
own_updated state name = own_if (is_some (fetched_of state name)) None (Some (NotUpdated name)) tt tt

-- ---- a name that is seen otherwise

pub mirror_along : (mirrors : List MirrorView) (n m : List ℕ) (fault : ChangeFault) → n ≡ m → IsFirst (unknown_mirror mirrors n) fault → IsFirst (unknown_mirror mirrors m) fault
mirror_along mirrors n m fault f h = subst (λ (k : List ℕ). IsFirst (unknown_mirror mirrors k) fault) f h

pub fetched_along : (state : StateView) (n m : List ℕ) (fault : ChangeFault) → n ≡ m → IsFirst (or_else (unknown_mirror state.mirrors n) (never_updated state n)) fault → IsFirst (or_else (unknown_mirror state.mirrors m) (never_updated state m)) fault
fetched_along state n m fault f h = subst (λ (k : List ℕ). IsFirst (or_else (unknown_mirror state.mirrors k) (never_updated state k)) fault) f h

-- ---- a mirror that is found

module _ (state : StateView) (name : List ℕ) (mirror : MirrorView) (found : mirror_of name state.mirrors ≡ Some mirror) where
  pub never_is : never_in mirror.updated mirror.name ≡ never_updated state name
  never_is = ap (never_in mirror.updated) (named_has mirror_name name state.mirrors mirror found) ∙ ap (λ (o : Option MirrorView). never_in (fetched_in o) name) (sym found)

  pub fetched_is : (fetched : Fetched) → mirror.updated ≡ Some fetched → fetched_of state name ≡ Some fetched
  fetched_is fetched e = ap fetched_in found ∙ e

  pub fetched_list_is : (fetched : Fetched) → mirror.updated ≡ Some fetched → fetched_list_of state name ≡ fetched.list
  fetched_list_is fetched e = ap fetched_list_in (fetched_is fetched e)

-- ---- what was fetched is known

fetched_known : (known : List Card) (name : List ℕ) (mirrors : List MirrorView) → All (MirrorLists known) mirrors → IsNamedList known (fetched_list_in (fetched_in (mirror_of name mirrors)))
fetched_known known name [] all = named_none known
fetched_known known name (m ∷ ms) all = by_test (bytes_eq m.name name) (fetched_known known name ms (All-tail (MirrorLists known) m ms all))
  where
    by_fetched : (o : Option Fetched) → IfSome o (λ (f : Fetched). IsNamedList known f.list) → IsNamedList known (fetched_list_in o)
    by_fetched None h = named_none known
    by_fetched (Some f) h = h

    by_test : (b : Bool) → IsNamedList known (fetched_list_in (fetched_in (mirror_of name ms))) → IsNamedList known (fetched_list_in (fetched_in (cond b (Some m) (mirror_of name ms))))
    by_test true more = by_fetched m.updated (All-head (MirrorLists known) m ms all)
    by_test false more = more

pub fetched_list_named : (state : StateView) (name : List ℕ) → Valid state → IsNamedList state.known (fetched_list_of state name)
fetched_list_named state name v = fetched_known state.known name state.mirrors v.mirrors.lists
