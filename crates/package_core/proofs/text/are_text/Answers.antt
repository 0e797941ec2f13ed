use Rattle.package_core.proofs.TextLemmas.{file_is_utf8}
use Rattle.package_core.proofs.text.are_text.Goals as goal

pub returns : goal.returns
returns c = file_is_utf8 c.args.path.now c.args.said.now c.as_str.ensures.good c.has_sizes.ensures
