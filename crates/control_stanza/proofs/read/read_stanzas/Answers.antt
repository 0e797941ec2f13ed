use Rattle.std.proofs.Common.{Some}
use Rattle.control_stanza.proofs.Laws.{found_from, only_from, least_from}
use Rattle.control_stanza.specs.declared.read.TheConstants.{MOST_STANZA_BYTES}
use Rattle.control_stanza.proofs.read.read_stanzas.Goals as goal

pub returns-clause-found : goal.returns-clause-found
returns-clause-found c = found_from (Some MOST_STANZA_BYTES) (λ v. v.items) c.args.bytes.now c.read_all.result c.read_all.ensures

pub returns-clause-only : goal.returns-clause-only
returns-clause-only c = only_from (Some MOST_STANZA_BYTES) (λ v. v.items) c.args.bytes.now c.read_all.result c.read_all.ensures

pub returns-clause-least : goal.returns-clause-least
returns-clause-least c = least_from (Some MOST_STANZA_BYTES) (λ v. v.items) c.args.bytes.now c.read_all.result c.read_all.ensures
