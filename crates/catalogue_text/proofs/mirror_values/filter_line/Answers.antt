use Rattle.std.proofs.Common.{codes, sym, ◌∙◌, List, ℕ, Option}
use Rattle.query_tree.specs.Tree.{Tree}
use Rattle.machine_state.specs.Words.{blank_and, filter_text}
use Rattle.catalogue_text.specs.MirrorReading.{IsChoice}
use Rattle.catalogue_lines.proofs.ValueLemmas.{no_key, no_value, at_none, settings_apart}
use Rattle.catalogue_text.proofs.mirror_values.filter_line.Goals as goal

abbrev setting : Option Tree → List ℕ
setting filter = blank_and (filter_text filter)

pub returns-in-None : goal.returns-in-None
returns-in-None c = no_key setting IsChoice c.args.text.now (codes "filter") c.in-None.ensures

pub returns-in-None-setting : goal.returns-in-None-setting
returns-in-None-setting c =
    no_value setting IsChoice c.args.text.now (codes "filter") c.in-Some.written.now c.in-Some.rest.now c.in-Some.ensures (λ a g. c.in-None-setting.ensures (filter_text a))

pub returns-in-None-2 : goal.returns-in-None-2
returns-in-None-2 c =
    no_value setting IsChoice c.args.text.now (codes "filter") c.in-Some.written.now c.in-Some.rest.now c.in-Some.ensures
    (λ a g e. at_none _ _ _ c.in_ok-choice_of-in-Some-setting.ensures c.in-None-2.is a g (settings_apart c.in-Some-setting.value.now (filter_text a) (sym c.in-Some-setting.ensures ∙ e)))
