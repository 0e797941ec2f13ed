use Rattle.std.proofs.Common.{◌≡◌, ◌∷◌, [], List, ℕ, false, sym, ap, ◌∙◌, subst, rules, arith}
use Rattle.std.specs.Str.{chars}
use Rattle.shell_pattern.specs.Glob.{Element, elements_of}
use Rattle.shell_pattern.specs.GlobReading.{covers, any_tail, front, fails}
use Rattle.shell_pattern.proofs.GlobFacts.{tail_whole, tail_star, tail_last, tail_next}
use Rattle.shell_pattern.proofs.glob.first_place.Goals as goal

last : (es : List Element) (cs : List ℕ) → cs ≡ [] → fails ≡ front es cs → any_tail (covers es) cs ≡ false
last es cs e h = ap (any_tail (covers es)) e ∙ tail_last es (subst (λ x. fails ≡ front es x) e h)

next : (es : List Element) (c : ℕ) (cs ds : List ℕ) → cs ≡ c ∷ ds → fails ≡ front es cs → any_tail (covers es) cs ≡ any_tail (covers es) ds
next es c cs ds e h = ap (any_tail (covers es)) e ∙ tail_next es c ds (subst (λ x. fails ≡ front es x) e h)

pub returns-in-Whole-clause-value : goal.returns-in-Whole-clause-value
returns-in-Whole-clause-value c =
    let es = elements_of (chars c.args.pattern.text.now) in
    sym (tail_whole es (chars c.in-Some.start.now) c.in-Whole.ensures.value) ∙ c.in-Some.ensures.value (covers es) c.literal_front-letters.ensures ∙ c.starts.invariant.same

pub returns-in-Star-clause-value : goal.returns-in-Star-clause-value
returns-in-Star-clause-value c =
    let es = elements_of (chars c.args.pattern.text.now) in
    sym (tail_star es (elements_of (chars c.in-Star.behind.text.now)) (chars c.in-Some.start.now) (chars c.in-Star.rest.now) c.in-Star.ensures.value)
    ∙ c.in-Some.ensures.value (covers es) c.literal_front-letters.ensures ∙ c.starts.invariant.same

pub returns-in_default-split_first_char-clause-value : goal.returns-in_default-split_first_char-clause-value
returns-in_default-split_first_char-clause-value c =
    let es = elements_of (chars c.args.pattern.text.now) in
    sym (last es (chars c.in-Some.start.now) c.in_default-split_first_char.ensures c.in-Fails.ensures.value) ∙ c.in-Some.ensures.value (covers es) c.literal_front-letters.ensures ∙ c.starts.invariant.same

pub starts-preserved : goal.starts-preserved
starts-preserved c =
    let es = elements_of (chars c.args.pattern.text.now) in
    record {
      text_is = search rules;
      same = sym (next es c.in-Some-split_first_char.field-0-0 (chars c.in-Some.start.now) (chars c.in-Some-split_first_char.rest.now) c.in-Some-split_first_char.ensures.0 c.in-Fails.ensures.value)
          ∙ c.in-Some.ensures.value (covers es) c.literal_front-letters.ensures ∙ c.starts.invariant.same;
      left = omega (arith, c.in-Some-split_first_char.ensures.1, c.in-Some.ensures.shorter);
    }
