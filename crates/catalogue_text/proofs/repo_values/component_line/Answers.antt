use Rattle.std.proofs.Common.{codes, ◌++◌, ◌∙◌}
use Rattle.std.proofs.lemmas.List.{append_cancel_left}
use Rattle.catalogue_lines.proofs.LineLemmas.{line_unique}
use Rattle.catalogue_lines.proofs.ValueLemmas.{component_name, at_none, at_some, no_component}
use Rattle.catalogue_text.proofs.repo_values.component_line.Goals as goal

pub returns-in-None : goal.returns-in-None
returns-in-None c = λ a behind g m. at_none _ _ _ c.in_ok-name_line.ensures c.in-None.is a behind (component_name a g) m

pub returns : goal.returns
returns c = λ a behind g m.
    let read = at_some _ _ _ _ c.in_ok-name_line.ensures c.in-Some.is in
    let same = line_unique c.args.text.now (codes "component " ++ c.in-Some.name) (codes "component " ++ a) c.in-Some.rest.now behind read.1 m in
    no_component a c.as_str.result.now _ g (c.as_str.ensures.text ∙ append_cancel_left (codes "component ") c.in-Some.name a same.0) c.is_component.ensures c.if-is_component.false
