use Rattle.std.proofs.Common.{rules, ◌≡◌, ◌<◌, ◌+◌, ◌-◌, ℕ, List, [], ◌∷◌, length, drop, take, sym, ap, ◌∙◌, arith, get_or, subst, not}
use Rattle.std.specs.List.{take_while}
use Rattle.package_core.specs.Source.{is_gap}
use Rattle.release_file.specs.Words.{words}
use Rattle.release_file.proofs.WordLemmas.{word_end, end_is, first_word, gap_at_end, none_in, shorter}
use Rattle.release_file.proofs.words.next_word.Goals as goal

pub returns-then-is_empty-clause-first : goal.returns-then-is_empty-clause-first
returns-then-is_empty-clause-first c = sym c.without_gaps-rest.ensures.same ∙ none_in c.without_gaps-rest.result.now (search (arith))

pub range-requires-clause-end_boundary : goal.range-requires-clause-end_boundary
range-requires-clause-end_boundary c =
    let text = c.without_gaps-rest.result.now in
    let n = c.word_len-length.result in
    let bytes = c.as_bytes.ensures.value in
    let e : n ≡ word_end text = end_is text n (c.word_len-length.ensures.count ∙ ap (λ (t : List ℕ). length (take_while (λ c. not (is_gap c)) t)) bytes) in
    (omega (arith, c.word_len-length.ensures.inside, ap length bytes), λ inside big. absurd (omega (arith, big, gap_at_end text n e inside)))

pub range_from-requires : goal.range_from-requires
range_from-requires c =
    λ some.
    let text = c.without_gaps-rest.result.now in
    let n = c.word_len-length.result in
    let bytes = c.as_bytes.ensures.value in
    let e : n ≡ word_end text = end_is text n (c.word_len-length.ensures.count ∙ ap (λ (t : List ℕ). length (take_while (λ c. not (is_gap c)) t)) bytes) in
    (omega (arith, c.word_len-length.ensures.inside, ap length bytes), λ inside big. absurd (omega (arith, big, gap_at_end text n e inside)))

pub returns-clause-first : goal.returns-clause-first
returns-clause-first c =
    let text = c.without_gaps-rest.result.now in
    let n = c.word_len-length.result in
    let bytes = c.as_bytes.ensures.value in
    let e : n ≡ word_end text = end_is text n (c.word_len-length.ensures.count ∙ ap (λ (t : List ℕ). length (take_while (λ c. not (is_gap c)) t)) bytes) in
    let first = first_word text c.without_gaps-rest.ensures.starts (search (rules, arith)) in
    let whole : n - 0 ≡ n = omega arith in
    let front : take n text ≡ c.range.result.now = sym (c.range.ensures.value ∙ ap (λ k. take k text) whole) in
    let behind : drop n text ≡ c.range_from.result.now = sym c.range_from.ensures.value in
    sym c.without_gaps-rest.ensures.same ∙ first.is ∙ (λ i. take (sym e i) text ∷ words (drop (sym e i) text)) ∙ (λ i. front i ∷ words (behind i))

pub returns-clause-less : goal.returns-clause-less
returns-clause-less c =
    let text = c.without_gaps-rest.result.now in
    let n = c.word_len-length.result in
    let bytes = c.as_bytes.ensures.value in
    let e : n ≡ word_end text = end_is text n (c.word_len-length.ensures.count ∙ ap (λ (t : List ℕ). length (take_while (λ c. not (is_gap c)) t)) bytes) in
    let first = first_word text c.without_gaps-rest.ensures.starts (search (rules, arith)) in
    let short = shorter text c.range_from.result.now n c.range_from.ensures.value (subst (λ k. 0 < k) (sym e) first.some) (omega (arith, c.word_len-length.ensures.inside, ap length bytes)) in
    omega (arith, short, c.without_gaps-rest.ensures.inside)
