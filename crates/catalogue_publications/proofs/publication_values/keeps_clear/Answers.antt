use Rattle.std.proofs.Common.{◌==◌, not, rules, tests}
use Rattle.std.proofs.lemmas.Iterator.Search.{all_from_yields_List}
use Rattle.std.proofs.lemmas.Iterator.Splits.{YieldsList-from_slice_split}
use Rattle.machine_state.specs.Texts.{is_kept}
use Rattle.catalogue_publications.proofs.publication_values.keeps_clear.Goals as goal

pub returns : goal.returns
returns c =
    all_from_yields_List (λ segment. not (is_kept segment)) _ _ _ c.all.ensures.ran (YieldsList-from_slice_split _ (λ b. b == 47) c.args.path.now c.split.ensures.rest c.split.ensures.done c.split.ensures.closure (λ x b q k. search (rules, tests))) (λ x b q k. search (rules, tests))
