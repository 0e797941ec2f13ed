use Rattle.std.proofs.Common.{◌∙◌, ap}
use Rattle.package_core.specs.Fields.{last_segment}
use Rattle.package_core.proofs.PathLemmas.{last_is_safe}
use Rattle.package_core.proofs.path.file_name.Goals as goal

pub fixed-requires : goal.fixed-requires
fixed-requires c = last_is_safe c.args.path.now _ c.as_str.ensures.good (c.last_segment.ensures.last ∙ ap last_segment c.as_str.ensures.text) c.last_segment.ensures.one
