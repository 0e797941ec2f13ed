use Rattle.std.proofs.Common.{rules, ◌≡◌, ◌<◌, ◌≤◌, ◌-◌, ◌++◌, ℕ, List, length, take, drop, Option, Some, None, Bor, sym, ap, ◌∙◌, arith}
use Rattle.std.proofs.lemmas.List.{length-drop, take-append-drop}
use Rattle.std.proofs.lemmas.Str.{chars_from_encodes}
use Rattle.std.specs.Option.{MatchOption}
use Rattle.std.specs.Str.{chars}
use Rattle.shell_pattern.specs.GlobSearch.{IsEnd}
use Rattle.shell_pattern.proofs.last.end_of.Goals as goal

cut : (cs end : List ℕ) (n all : ℕ) → all ≡ length cs → n ≤ all → end ≡ drop (all - n) cs → IsEnd n end cs
cut cs end n all a l e = record {
  front = take (all - n) cs;
  split = sym (take-append-drop (all - n) cs) ∙ ap (λ x. take (all - n) cs ++ x) (sym e);
  counted = omega (arith, length-drop (all - n) cs, ap length e);
}

ended : (cs : List ℕ) (n all : ℕ) (r : Option (Bor (List ℕ))) → all ≡ length cs → n ≤ all → MatchOption r (length cs < all - n) (λ rest. chars rest.now ≡ drop (all - n) cs) → MatchOption r (length cs < n) (λ end. IsEnd n (chars end.now) cs)
ended cs n all None a l h = absurd (omega arith)
ended cs n all (Some rest) a l h = cut cs (chars rest.now) n all a l h

pub returns-then-all-count : goal.returns-then-all-count
returns-then-all-count c =
    let all : c.count-all.result ≡ length (chars c.args.text.now) = search (rules, chars_from_encodes) in
    omega (arith, c.if-all-count.true)

pub returns : goal.returns
returns c =
    let all : c.count-all.result ≡ length (chars c.args.text.now) = search (rules, chars_from_encodes) in
    ended (chars c.args.text.now) c.args.count c.count-all.result c.behind_characters.result all c.if-all-count.false c.behind_characters.ensures
