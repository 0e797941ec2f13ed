use Rattle.catalogue_publications.specs.PublicationGrammar.{has_source_in}
use Rattle.catalogue_lines.proofs.ValueLemmas.{at_default, at_some}
use Rattle.catalogue_lines.proofs.ReadLemmas.{if_before, if_ok, if_stop}
use Rattle.catalogue_publications.proofs.PublicationRead.{in_head, at_architectures, at_serial, in_contents, publication_read}
use Rattle.catalogue_publications.proofs.publications.read_publication.Goals as goal

pub returns-in-Err-clause-stops : goal.returns-in-Err-clause-stops
returns-in-Err-clause-stops c = if_before _ _ (λ left s apart. in_head c.args.known.now.list (has_source_in c.args.repos.now c.args.snapshots.now) c.args.done.now c.args.text.now left s) c.in-Err.stop c.in-Err.ensures.stops

pub returns-in_default-clause-stops : goal.returns-in_default-clause-stops
returns-in_default-clause-stops c = λ apart.
    at_architectures c.args.known.now.list (has_source_in c.args.repos.now c.args.snapshots.now) c.args.done.now c.args.text.now c.in-Ok.head.1.now c.in-Ok.head.0 c.in-Ok.ensures.read apart (at_default _ _ _ c.in_ok-architectures.ensures c.in_default.not-Some)

pub returns-in_default-serial_line-clause-stops : goal.returns-in_default-serial_line-clause-stops
returns-in_default-serial_line-clause-stops c = λ apart.
    let a = at_some _ _ _ _ c.in_ok-architectures.ensures c.in-Some.is in
    at_serial c.args.known.now.list (has_source_in c.args.repos.now c.args.snapshots.now) c.args.done.now c.args.text.now c.in-Ok.head.1.now c.in-Ok.head.0 c.in-Ok.ensures.read c.in-Some.rest.now c.in-Some.architectures.items a apart c.in_default-serial_line.ensures

pub returns-clause-read : goal.returns-clause-read
returns-clause-read c =
    let a = at_some _ _ _ _ c.in_ok-architectures.ensures c.in-Some.is in
    if_ok _ _ (λ p r. publication_read c.args.known.now.list (has_source_in c.args.repos.now c.args.snapshots.now) c.args.done.now c.args.text.now c.in-Ok.head.1.now c.in-Ok.head.0 c.in-Ok.ensures.read c.in-Some.rest.now c.in-Some.architectures.items a c.in-Some-serial_line.behind.now c.in-Some-serial_line.serial c.in-Some-serial_line.ensures p.0 p.1.now r) c.read_contents.result c.read_contents.ensures.read

pub returns-clause-stops : goal.returns-clause-stops
returns-clause-stops c =
    let a = at_some _ _ _ _ c.in_ok-architectures.ensures c.in-Some.is in
    if_stop _ _ (λ left s apart. in_contents c.args.known.now.list (has_source_in c.args.repos.now c.args.snapshots.now) c.args.done.now c.args.text.now c.in-Ok.head.1.now c.in-Ok.head.0 c.in-Ok.ensures.read c.in-Some.rest.now c.in-Some.architectures.items a c.in-Some-serial_line.behind.now c.in-Some-serial_line.serial c.in-Some-serial_line.ensures apart left (s apart)) c.read_contents.result c.read_contents.ensures.stops
