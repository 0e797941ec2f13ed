use Rattle.std.proofs.Common.{◌≡◌, ◌++◌, All, Less, codes, sym, ◌∙◌, subst}
use Rattle.std.proofs.lemmas.Bool.{true≢false}
use Rattle.std.proofs.lemmas.List.{append_cancel_left}
use Rattle.machine_state.specs.State.{place_cmp}
use Rattle.machine_state.proofs.PlaceLemmas.{Place}
use Rattle.machine_state.specs.Words.{place_text}
use Rattle.catalogue_lines.proofs.LineLemmas.{line_unique}
use Rattle.catalogue_lines.proofs.ValueLemmas.{at_default, at_some}
use Rattle.catalogue_lines.proofs.ReadLemmas.{if_before}
use Rattle.catalogue_publications.proofs.PublicationLineLemmas.{same_place}
use Rattle.catalogue_publications.proofs.PublicationRead.{at_place, at_kind, at_titles, head_read}
use Rattle.catalogue_publications.proofs.publications.read_head.Goals as goal

pub returns-in_default-clause-stops : goal.returns-in_default-clause-stops
returns-in_default-clause-stops c = at_place c.args.done.now c.args.text.now (λ a behind g l. at_default _ _ _ c.in_ok-place.ensures c.in_default.not-Some a behind g.is l)

pub returns-then-not-place_follows-clause-stops : goal.returns-then-not-place_follows-clause-stops
returns-then-not-place_follows-clause-stops c =
    let n = at_some _ _ _ _ c.in_ok-place.ensures c.in-Some.is in
    at_place c.args.done.now c.args.text.now (λ a behind g l.
    let cut = line_unique c.args.text.now (codes "publication " ++ place_text c.in-Some.place) (codes "publication " ++ place_text a) c.in-Some.behind.now behind n.0.1 l in
    let same = same_place c.in-Some.place a n.0.0 g.is (append_cancel_left (codes "publication ") (place_text c.in-Some.place) (place_text a) cut.0) in
    true≢false (sym (c.place_follows.ensures.1 (subst (λ (p : Place). All (λ one. place_cmp one p.0 p.1 ≡ Less) c.args.done.now) (sym same) g.after)) ∙ c.if-not-place_follows.true))

pub returns-in_default-kind_line-clause-stops : goal.returns-in_default-kind_line-clause-stops
returns-in_default-kind_line-clause-stops c =
    let n = at_some _ _ _ _ c.in_ok-place.ensures c.in-Some.is in
    at_kind c.args.done.now c.args.text.now c.in-Some.behind.now c.in-Some.place (record { is = n.0.0; after = c.place_follows.ensures.0 c.if-not-place_follows.false }, n.0.1) c.in_default-kind_line.ensures

pub read_titles-requires-clause-place : goal.read_titles-requires-clause-place
read_titles-requires-clause-place c = (at_some _ _ _ _ c.in_ok-place.ensures c.in-Some.is).0.0

pub read_titles-requires-clause-written : goal.read_titles-requires-clause-written
read_titles-requires-clause-written c = (at_some _ _ _ _ c.in_ok-place.ensures c.in-Some.is).1

pub returns-in-Err-clause-stops : goal.returns-in-Err-clause-stops
returns-in-Err-clause-stops c =
    let n = at_some _ _ _ _ c.in_ok-place.ensures c.in-Some.is in
    if_before _ _ (λ left s. at_titles c.args.done.now c.args.text.now c.in-Some.behind.now c.in-Some.place (record { is = n.0.0; after = c.place_follows.ensures.0 c.if-not-place_follows.false }, n.0.1) c.in-Some-kind_line.rest.now c.in-Some-kind_line.kind c.in-Some-kind_line.ensures left s) c.in-Err.stop c.in-Err.ensures.stops

pub returns-clause-read : goal.returns-clause-read
returns-clause-read c =
    let n = at_some _ _ _ _ c.in_ok-place.ensures c.in-Some.is in
    head_read c.args.done.now c.args.text.now c.in-Some.behind.now c.in-Some.place (record { is = n.0.0; after = c.place_follows.ensures.0 c.if-not-place_follows.false }, n.0.1) c.in-Some-kind_line.rest.now c.in-Some-kind_line.kind c.in-Some-kind_line.ensures c.in-Ok.rest.now c.in-Ok.titles c.in-Ok.ensures.read
