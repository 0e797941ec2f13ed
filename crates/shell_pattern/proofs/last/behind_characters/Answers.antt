use Rattle.std.proofs.Common.{rules, ◌≡◌, ◌<◌, ◌≤◌, ◌+◌, ℕ, zero, suc, List, [], ◌∷◌, length, drop, sym, ap, ◌∙◌, add-one, arith}
use Rattle.std.proofs.lemmas.List.{length-drop}
use Rattle.std.specs.Str.{chars}
use Rattle.shell_pattern.proofs.last.behind_characters.Goals as goal

at_end : (i n : ℕ) (cs ds : List ℕ) → i < n → i ≤ length cs → ds ≡ drop i cs → ds ≡ [] → length cs < n
at_end i n cs ds l w h e = omega (arith, length-drop i cs, ap length h, ap length e)

past : (i : ℕ) (cs : List ℕ) (c : ℕ) (ds : List ℕ) → drop i cs ≡ c ∷ ds → ds ≡ drop (suc i) cs
past zero [] c ds h = absurd (cc)
past zero (x ∷ xs) c ds h = cc
past (suc i) [] c ds h = absurd (cc)
past (suc i) (x ∷ xs) c ds h = past i xs c ds h

within : (i : ℕ) (cs : List ℕ) (c : ℕ) (ds : List ℕ) → drop i cs ≡ c ∷ ds → i + 1 ≤ length cs
within i cs c ds h = omega (arith, length-drop i cs, ap length h)

pub returns-in_default : goal.returns-in_default
returns-in_default c = at_end c.loop.counter c.args.count (chars c.args.text.now) (chars c.loop.left.now) c.loop-test.true c.loop.invariant.within c.loop.invariant.dropped c.in_default.ensures

pub loop-preserved : goal.loop-preserved
loop-preserved c =
    let split : drop c.loop.counter (chars c.args.text.now) ≡ c.in-Some.field-0-0 ∷ chars c.in-Some.rest.now = sym c.loop.invariant.dropped ∙ c.in-Some.ensures.0 in
    record {
      is_text = search rules;
      dropped = rw add-one (past c.loop.counter (chars c.args.text.now) c.in-Some.field-0-0 (chars c.in-Some.rest.now) split);
      within = within c.loop.counter (chars c.args.text.now) c.in-Some.field-0-0 (chars c.in-Some.rest.now) split;
    }
