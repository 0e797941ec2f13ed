use Rattle.std.proofs.Common.{List, ℕ}
use Rattle.ap_text.specs.Names.{is_name}
use Rattle.catalogue_lines.specs.PartForms.{IsName}
use Rattle.catalogue_lines.proofs.ValueLemmas.{no_value, not_value}
use Rattle.catalogue_lines.proofs.values.name_line.Goals as goal

pub returns-in-None : goal.returns-in-None
returns-in-None c = λ a behind g m. c.in-None.ensures a behind m

pub returns-in-None-2 : goal.returns-in-None-2
returns-in-None-2 c =
    no_value (λ (a : List ℕ). a) IsName c.args.text.now c.args.key.now c.in-Some.written.now c.in-Some.rest.now c.in-Some.ensures
    (λ a. not_value is_name c.in_ok-name_of_bytes-in-Some.field-0 c.in-Some.written.now a c.in_ok-name_of_bytes-in-Some.ensures c.in-None-2.is)
