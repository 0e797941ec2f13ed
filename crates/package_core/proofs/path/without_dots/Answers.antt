use Rattle.std.proofs.Common.{rules, sym, ◌∙◌, Some, None}
use Rattle.package_core.proofs.PathLemmas.{dots_stripped}
use Rattle.package_core.proofs.path.without_dots.Goals as goal

pub loop-behind-preserved : goal.loop-behind-preserved
loop-behind-preserved c =
    let h = dots_stripped c.loop-behind.rest.now (Some c.in-Some.behind) c.in-Some.ensures.cases in
    (search rules, h.0 ∙ c.loop-behind.invariant.1)

pub loop-behind-smaller : goal.loop-behind-smaller
loop-behind-smaller c = (dots_stripped c.loop-behind.rest.now (Some c.in-Some.behind) c.in-Some.ensures.cases).1

pub returns : goal.returns
returns c = sym (dots_stripped c.loop-behind.rest.now None c.in_default.ensures.cases) ∙ c.loop-behind.invariant.1
