-- Which calls of an object in memory are to fail. Calls are counted from 0 on.
use Rattle.std.specs.Prelude.{Result, OnOk, IsErrOf, IsTrue, IsFalse, ℕ, ◌+◌, ◌-◌, ◌^◌, Bool, ◌&&◌, ◌==◌, nat_lt, List, min, if◌then◌else◌}
use Rattle.std.specs.List.{list_any}

-- one more, as long as 64 bits hold it
abbrev pub one_more : ℕ → ℕ
one_more n = min (n + 1) (2 ^ 64 - 1)

pub record Ordinals : Type 0 where
  -- the ordinals of the calls that fail
  pub failing : List ℕ
  -- the ordinal of the next call
  pub next : ℕ
  -- how many calls have failed
  pub faults : ℕ

-- the next call is to fail. No call fails once the ordinals have come to their end
abbrev pub is_due : Ordinals → Bool
is_due o = nat_lt o.next (2 ^ 64 - 1) && list_any (λ k. k == o.next) o.failing

-- after one more call
abbrev pub counted : Ordinals → Ordinals
counted o = record { failing = o.failing; next = one_more o.next; faults = if is_due o then one_more o.faults else o.faults }

-- A call gives this fault exactly where its turn to fail has come, but where memory is wanting.
pub record FailsInTurn {T E : Type 0} (fault : E) (result : Result T E) (calls : Ordinals) : Type 0 where
  pub ok : OnOk result (IsFalse (is_due calls))
  pub failed : IsErrOf result fault → IsTrue (is_due calls)
