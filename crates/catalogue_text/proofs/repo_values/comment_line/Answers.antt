use Rattle.std.proofs.Common.{codes, sym, ◌∙◌, subst}
use Rattle.machine_state.specs.State.{IsLineText}
use Rattle.machine_state.specs.Words.{blank_and}
use Rattle.catalogue_lines.proofs.ValueLemmas.{no_key, no_value, at_none, settings_apart}
use Rattle.catalogue_text.proofs.repo_values.comment_line.Goals as goal

pub returns-in-None : goal.returns-in-None
returns-in-None c = no_key blank_and IsLineText c.args.text.now (codes "comment") c.in-None.ensures

pub returns-in-None-setting : goal.returns-in-None-setting
returns-in-None-setting c =
    no_value blank_and IsLineText c.args.text.now (codes "comment") c.in-Some.written.now c.in-Some.rest.now c.in-Some.ensures (λ a g. c.in-None-setting.ensures a)

pub returns-in-None-2 : goal.returns-in-None-2
returns-in-None-2 c =
    no_value blank_and IsLineText c.args.text.now (codes "comment") c.in-Some.written.now c.in-Some.rest.now c.in-Some.ensures
    (λ a g e. at_none _ _ _ c.in_ok-line_text_of-in-Some-setting.ensures c.in-None-2.is (subst IsLineText (settings_apart a c.in-Some-setting.value.now (sym e ∙ c.in-Some-setting.ensures)) g))
