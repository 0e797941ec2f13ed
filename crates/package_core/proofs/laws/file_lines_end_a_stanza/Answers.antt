use Rattle.std.proofs.Common.{sym}
use Rattle.package_core.proofs.ReadBack.{stanza_is, text_is}
use Rattle.package_core.proofs.WholeLemmas.{no_fault, described, path_said}
use Rattle.package_core.proofs.laws.file_lines_end_a_stanza.Goals as goal

pub returns-clause-stanza : goal.returns-clause-stanza
returns-clause-stanza c = stanza_is

pub returns-clause-text : goal.returns-clause-text
returns-clause-text c = λ path p safe h. sym (text_is path p safe h)

pub returns-clause-good : goal.returns-clause-good
returns-clause-good c = no_fault

pub returns-clause-package : goal.returns-clause-package
returns-clause-package c = described

pub returns-clause-path : goal.returns-clause-path
returns-clause-path c = path_said
