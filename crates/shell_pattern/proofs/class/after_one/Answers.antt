use Rattle.std.proofs.Common.{◌∷◌, ◌||◌, sym, ap, ◌∙◌}
use Rattle.std.proofs.lemmas.Bool.{ne_eqb}
use Rattle.shell_pattern.specs.Glob.{is_in}
use Rattle.shell_pattern.proofs.ClassFacts.{single_step, dash_step}
use Rattle.shell_pattern.proofs.class.after_one.Goals as goal

pub returns-then-is_dash : goal.returns-then-is_dash
returns-then-is_dash c = λ ls. dash_step c.args.one c.args.letter ls c.args.c (sym c.is_dash.ensures ∙ c.if-is_dash.true)

pub returns : goal.returns
returns c = λ ls.
    let h = single_step c.args.one c.args.letter ls c.args.c (sym c.is_dash.ensures ∙ c.if-is_dash.false) in
    sym (h ∙ ap (λ b. b || is_in (c.args.letter ∷ ls) c.args.c) (ne_eqb _ _ c.if-c-one.false))
