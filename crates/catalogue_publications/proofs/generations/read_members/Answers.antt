use Rattle.std.proofs.Common.{refl, arith}
use Rattle.catalogue_publications.specs.PublicationGrammar.{MayJoinPart}
use Rattle.catalogue_lines.proofs.KnownParts.{member_pieces}
use Rattle.catalogue_lines.proofs.ValueLemmas.{at_none, at_some}
use Rattle.catalogue_lines.proofs.ReadLemmas.{reads_more}
use Rattle.catalogue_publications.proofs.PublicationRead.{stops_part_member}
use Rattle.catalogue_publications.proofs.generations.read_members.Goals as goal

pub returns-in-None-clause-stops : goal.returns-in-None-clause-stops
returns-in-None-clause-stops c = λ apart.
    let i = c.loop-read.invariant in
    stops_part_member c.args.known.now.list c.args.architectures.now apart c.args.count c.args.text.now c.loop-read.rest.now c.loop-read.list (let e = i.counted in omega arith) i.good i.takes
    (at_none _ _ _ c.in_ok-next_member.ensures c.in-None.is apart)

pub loop-read-preserved : goal.loop-read-preserved
loop-read-preserved c =
    let i = c.loop-read.invariant in
    let h = at_some _ _ _ _ c.in_ok-next_member.ensures c.in-Some.is in
    let r = reads_more member_pieces (MayJoinPart c.args.known.now.list c.args.architectures.now) c.loop-read._read c.args.text.now c.loop-read.rest.now c.in-Some.behind.now c.loop-read.list _ h.0 (record { counted = i.counted; good = i.good; takes = i.takes }) h.1.0 (c.in-Some.behind.now, h.1.1, refl) h.2 in
    record { counted = r.counted; good = r.good; takes = r.takes }
