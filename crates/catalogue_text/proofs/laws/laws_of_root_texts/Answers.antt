use Rattle.catalogue_text.proofs.RootTexts.{one_state, one_known, one_line, stops_root, stops_behind, valid_state, known_whole, text_is_root}
use Rattle.catalogue_text.proofs.laws.laws_of_root_texts.Goals as goal

pub returns-clause-one : goal.returns-clause-one
returns-clause-one c = let x = stops_root in let y = stops_behind in let z = valid_state in let u = known_whole in let w = text_is_root in one_state

pub returns-clause-known : goal.returns-clause-known
returns-clause-known c = one_known

pub returns-clause-line : goal.returns-clause-line
returns-clause-line c = one_line
