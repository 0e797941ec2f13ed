use Rattle.std.proofs.Common.{◌≤◌, ◌∙◌, arith}
use Rattle.std.specs.Fmt.{decimal}
use Rattle.catalogue_lines.proofs.ValueLemmas.{no_key, no_value, number_utf8}
use Rattle.catalogue_lines.proofs.values.count_line.Goals as goal

pub returns-in-None : goal.returns-in-None
returns-in-None c = no_key decimal (λ n. n ≤ c.args.most) c.args.text.now c.args.key.now c.in-None.ensures

pub returns-in-None-as_text : goal.returns-in-None-as_text
returns-in-None-as_text c =
    no_value decimal (λ n. n ≤ c.args.most) c.args.text.now c.args.key.now c.in-Some.written.now c.in-Some.rest.now c.in-Some.ensures
    (λ n g. number_utf8 c.in-Some.written.now c.in-None-as_text.ensures n (let f = c.ranges.most.fits in omega arith))

pub returns-in-None-count_of : goal.returns-in-None-count_of
returns-in-None-count_of c =
    no_value decimal (λ n. n ≤ c.args.most) c.args.text.now c.args.key.now c.in-Some.written.now c.in-Some.rest.now c.in-Some.ensures
    (λ n g e. c.in-None-count_of.ensures n g (c.in-Some-as_text.ensures.0 ∙ e))
