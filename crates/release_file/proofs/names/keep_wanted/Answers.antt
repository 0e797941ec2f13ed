use Rattle.std.proofs.Common.{rules, tests}
use Rattle.std.proofs.lemmas.List.Elements.{filter_from_retain}
use Rattle.release_file.specs.Release.{is_wanted as wanted}
use Rattle.release_file.proofs.names.keep_wanted.Goals as goal

pub returns : goal.returns
returns c = filter_from_retain _ wanted (λ p x b q k. search (rules, tests)) _ _ _ c.retain.ensures.filtered
