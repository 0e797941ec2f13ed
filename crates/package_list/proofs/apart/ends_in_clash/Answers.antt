use Rattle.std.proofs.Common.{sym, ◌∙◌, map}
use Rattle.std.specs.Rc.{rc_value}
use Rattle.std.proofs.lemmas.List.{length-map}
use Rattle.package_list.proofs.Passed.{ends_in}
use Rattle.package_list.proofs.apart.ends_in_clash.Goals as goal

pub returns : goal.returns
returns c = c.last_has_triple.ensures ∙ ends_in (map rc_value c.args.before.now) _ c.args.one.now (sym (length-map c.args.before.now rc_value)) c.requires.ascending c.requires.less
