use Rattle.std.proofs.Common.{sym, ◌∙◌}
use Rattle.std.specs.Str.{chars}
use Rattle.shell_pattern.specs.Glob.{elements_of}
use Rattle.shell_pattern.proofs.GlobFacts.{covers_whole, covers_fails}
use Rattle.shell_pattern.proofs.SearchFacts.{end_missing, end_covered, no_star}
use Rattle.shell_pattern.proofs.glob.covers_end.Goals as goal

pub returns-in_default : goal.returns-in_default
returns-in_default c = end_missing (elements_of (chars c.args.pattern.text.now)) (chars c.args.text.now) c.args.count c.requires c.in_default.ensures

pub returns-in-Whole : goal.returns-in-Whole
returns-in-Whole c =
    let es = elements_of (chars c.args.pattern.text.now) in
    sym (covers_whole es (chars c.in-Some.end.now) c.in-Whole.ensures.value) ∙ end_covered es (chars c.args.text.now) (chars c.in-Some.end.now) c.args.count c.requires c.in-Some.ensures

pub returns-in-Star : goal.returns-in-Star
returns-in-Star c =
    absurd (no_star (elements_of (chars c.args.pattern.text.now)) (chars c.in-Some.end.now) c.args.count (elements_of (chars c.in-Star.field-0.text.now)) (chars c.in-Star.field-1.now) c.requires c.in-Star.ensures.value)

pub returns-in-Fails : goal.returns-in-Fails
returns-in-Fails c =
    let es = elements_of (chars c.args.pattern.text.now) in
    sym (covers_fails es (chars c.in-Some.end.now) c.in-Fails.ensures.value) ∙ end_covered es (chars c.args.text.now) (chars c.in-Some.end.now) c.args.count c.requires c.in-Some.ensures
