use Rattle.std.proofs.Common.{ap, ◌∙◌, map, string_bytes}
use Rattle.std.specs.Char.{to_ascii_lowercase}
use Rattle.control_stanza.proofs.NameLemmas.{lists_one_more}
use Rattle.control_stanza.proofs.gathered.list_name.Goals as goal

pub returns : goal.returns
returns c =
    let bytes = c.in_ok-in_lower_case.ensures ∙ ap (map to_ascii_lowercase) c.as_str.ensures in
    λ above h name. lists_one_more (string_bytes c.in_ok-in_lower_case.field-0) c.args.names.now c.insert.new.self above c.args.field.now bytes c.in_ok-insert.ensures.updates h name
