use Rattle.depends_field.proofs.Readers.{found_from, only_from, place_from}
use Rattle.depends_field.proofs.Said.{value_from, nothing_from}
use Rattle.depends_field.proofs.read.read.Goals as goal

pub returns-clause-found : goal.returns-clause-found
returns-clause-found c = found_from (λ v. v.items) c.args.kind c.args.text.now c.read_pieces.result c.read_pieces.ensures.groups

pub returns-clause-only : goal.returns-clause-only
returns-clause-only c = only_from (λ v. v.items) c.args.kind c.args.text.now c.read_pieces.result c.read_pieces.ensures.groups c.read_pieces.ensures.fault

pub returns-clause-place : goal.returns-clause-place
returns-clause-place c = place_from c.args.kind c.args.text.now c.read_pieces.result c.read_pieces.ensures.fault

pub returns-clause-value : goal.returns-clause-value
returns-clause-value c = value_from (λ v. v.items) c.args.kind c.args.text.now c.read_pieces.result c.read_pieces.ensures.groups

pub returns-clause-nothing : goal.returns-clause-nothing
returns-clause-nothing c = nothing_from c.args.kind c.args.text.now c.read_pieces.result c.read_pieces.ensures.fault
