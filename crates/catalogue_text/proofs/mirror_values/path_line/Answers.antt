use Rattle.std.proofs.Common.{List, ℕ}
use Rattle.machine_state.specs.Texts.{is_path}
use Rattle.catalogue_text.specs.MirrorReading.{IsPath}
use Rattle.catalogue_lines.proofs.ValueLemmas.{no_key, no_value, not_value}
use Rattle.catalogue_text.proofs.mirror_values.path_line.Goals as goal

pub returns-in-None : goal.returns-in-None
returns-in-None c = no_key (λ (p : List ℕ). p) (IsPath c.args.most) c.args.text.now c.args.key.now c.in-None.ensures

pub returns-in-None-2 : goal.returns-in-None-2
returns-in-None-2 c =
    no_value (λ (p : List ℕ). p) (IsPath c.args.most) c.args.text.now c.args.key.now c.in-Some.written.now c.in-Some.rest.now c.in-Some.ensures
    (λ a. not_value (is_path c.args.most) c.in_ok-path_of_bytes-in-Some.field-0 c.in-Some.written.now a c.in_ok-path_of_bytes-in-Some.ensures c.in-None-2.is)
