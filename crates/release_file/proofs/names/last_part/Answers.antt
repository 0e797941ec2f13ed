use Rattle.std.proofs.Common.{rules, sym, ◌∙◌, ap, Some, None}
use Rattle.package_core.specs.Fields.{last_of}
use Rattle.package_core.proofs.PathLemmas.{slash_split}
use Rattle.release_file.proofs.names.last_part.Goals as goal

pub loop-behind-preserved : goal.loop-behind-preserved
loop-behind-preserved c =
    let h = slash_split c.loop-behind.rest.now (Some (c.in-Some.field-0-0, c.in-Some.behind)) c.in-Some.ensures.cases in
    (search rules, h.0 ∙ c.loop-behind.invariant.1)

pub loop-behind-smaller : goal.loop-behind-smaller
loop-behind-smaller c = (slash_split c.loop-behind.rest.now (Some (c.in-Some.field-0-0, c.in-Some.behind)) c.in-Some.ensures.cases).1

pub returns : goal.returns
returns c = ap last_of (sym (slash_split c.loop-behind.rest.now None c.in_default.ensures.cases)) ∙ c.loop-behind.invariant.1
