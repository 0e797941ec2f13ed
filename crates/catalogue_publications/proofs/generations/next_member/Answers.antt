use Rattle.std.proofs.Common.{refl}
use Rattle.catalogue_lines.specs.SetLines.{id_of}
use Rattle.catalogue_lines.proofs.ReadLemmas.{place_inside, joins_not}
use Rattle.catalogue_publications.proofs.PublicationRead.{fits_not, joins_part}
use Rattle.catalogue_publications.proofs.generations.next_member.Goals as goal

pub returns-in_default : goal.returns-in_default
returns-in_default c = λ apart a behind m l. c.in_default.ensures a behind m.join.known_is l

pub is_for_at-requires : goal.is_for_at-requires
is_for_at-requires c = let m = c.in-Some.ensures in place_inside c.args.known.now.list (id_of m.0) c.in-Some.place (m.0, m.1, refl)

pub returns-then-not-is_for_at : goal.returns-then-not-is_for_at
returns-then-not-is_for_at c = λ apart. fits_not c.args.known.now.list c.args.architectures.now c.args.list.now c.args.text.now c.in-Some.rest.now c.in-Some.place c.is_for_at.result c.in-Some.ensures c.requires.sorted c.is_for_at.ensures c.if-not-is_for_at.true apart

pub push_of-requires : goal.push_of-requires
push_of-requires c = let m = c.in-Some.ensures in place_inside c.args.known.now.list (id_of m.0) c.in-Some.place (m.0, m.1, refl)

pub returns-then-branch : goal.returns-then-branch
returns-then-branch c =
    let m = c.in-Some.ensures in
    joins_part c.args.known.now.list c.args.architectures.now c.args.list.now c.push_of.new.self c.args.text.now c.in-Some.rest.now c.in-Some.place c.is_for_at.result c.in_ok-push_of.field-0 m c.requires.sorted c.is_for_at.ensures c.if-not-is_for_at.false c.if-branch.true
    (c.in_ok-push_of.ensures.answer m.0 m.1) (c.in_ok-push_of.ensures.list m.0 m.1)

pub returns-else-branch : goal.returns-else-branch
returns-else-branch c = λ apart a behind k l.
    let m = c.in-Some.ensures in
    joins_not c.args.known.now.list c.args.list.now c.args.text.now (id_of m.0) c.in-Some.rest.now c.in-Some.place c.in_ok-push_of.field-0 (m.0, m.1, refl) c.requires.sorted c.if-branch.false
    (c.in_ok-push_of.ensures.answer m.0 m.1) m.2 apart a behind k.join l
