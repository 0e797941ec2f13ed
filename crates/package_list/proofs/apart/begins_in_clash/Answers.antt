use Rattle.std.proofs.Common.{◌∙◌, map}
use Rattle.std.specs.Rc.{rc_value}
use Rattle.package_list.proofs.Passed.{begins_in}
use Rattle.package_list.proofs.apart.begins_in_clash.Goals as goal

pub returns : goal.returns
returns c = c.first_has_triple.ensures ∙ begins_in (map rc_value c.args.behind.now) c.args.one.now c.requires.ascending c.requires.above
