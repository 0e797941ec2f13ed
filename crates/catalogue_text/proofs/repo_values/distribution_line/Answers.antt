use Rattle.std.proofs.Common.{List, ℕ, [], Option, codes, sym, ◌∙◌}
use Rattle.std.specs.Option.{unwrap_or}
use Rattle.machine_state.specs.Words.{blank_and}
use Rattle.catalogue_text.proofs.RootParts.{IsDistribution}
use Rattle.catalogue_lines.proofs.ValueLemmas.{no_key, no_value, at_none, settings_apart}
use Rattle.catalogue_text.proofs.repo_values.distribution_line.Goals as goal

abbrev setting : Option (List ℕ) → List ℕ
setting name = blank_and (unwrap_or name [])

pub returns-in-None : goal.returns-in-None
returns-in-None c = no_key setting IsDistribution c.args.text.now (codes "distribution") c.in-None.ensures

pub returns-in-None-setting : goal.returns-in-None-setting
returns-in-None-setting c =
    no_value setting IsDistribution c.args.text.now (codes "distribution") c.in-Some.written.now c.in-Some.rest.now c.in-Some.ensures (λ a g. c.in-None-setting.ensures (unwrap_or a []))

pub returns-in-None-2 : goal.returns-in-None-2
returns-in-None-2 c =
    no_value setting IsDistribution c.args.text.now (codes "distribution") c.in-Some.written.now c.in-Some.rest.now c.in-Some.ensures
    (λ a g e. at_none _ _ _ c.in_ok-optional_name-in-Some-setting.ensures c.in-None-2.is a g (settings_apart c.in-Some-setting.value.now (unwrap_or a []) (sym c.in-Some-setting.ensures ∙ e)))
