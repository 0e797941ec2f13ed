use Rattle.std.proofs.Common.{arith, sym, ◌++◌, ◌≡◌, ℕ, List, length}
use Rattle.package_core.specs.Card.{Card, package_text}
use Rattle.catalogue_lines.specs.Pieces.{packed, Begins}
use Rattle.catalogue_lines.proofs.KnownLemmas.{front_short, front_line, rest_of, own_text, begins_with, textual, read_text_is, read_only}
use Rattle.catalogue_lines.proofs.known.package_at.Goals as goal

pub returns-in_default : goal.returns-in_default
returns-in_default c = λ p behind b.
    let f = front_short c.args.text.now behind p b.1 in
    let small = c.size_of-most.ensures.small in
    c.in_default.ensures (length (package_text p)) (package_text p ++ behind) (let s = c.size_of-most.ensures.same in omega arith) (front_line c.args.text.now behind p (omega arith) b.1)

pub returns-in_default-front_of : goal.returns-in_default-front_of
returns-in_default-front_of c = λ p behind b.
    let read = c.in-Some.ensures in
    let small = c.size_of-most.ensures.small in
    let r = rest_of c.args.text.now c.in-Some.rest.now behind c.in-Some.size p small (let s = c.size_of-most.ensures.same in omega (arith, read.0)) read.1 b.1 in
    c.in_default-front_of.ensures (package_text p) behind r.0 r.1

pub returns-in-None : goal.returns-in-None
returns-in-None c = λ p behind b.
    let read = c.in-Some.ensures in
    let small = c.size_of-most.ensures.small in
    let r = rest_of c.args.text.now c.in-Some.rest.now behind c.in-Some.size p small (let s = c.size_of-most.ensures.same in omega (arith, read.0)) read.1 b.1 in
    textual c.in_ok-read_text.field-0 c.in-Some-front_of.own.now p c.in-None.is c.in_ok-read_text.ensures.only b.0 (own_text c.in-Some-front_of.own.now c.in-Some.rest.now behind c.in-Some-front_of.behind.now c.in-Some.size p c.in-Some-front_of.ensures.0 c.in-Some-front_of.ensures.1 r.0 r.1)

pub returns-in-Some-2 : goal.returns-in-Some-2
returns-in-Some-2 c =
    let read = c.in-Some.ensures in
    let t = read_text_is c.in_ok-read_text.field-0 c.in-Some-front_of.own.now c.in-Some-2.package c.in-Some-2.is c.in_ok-read_text.ensures.found in
    (begins_with c.args.text.now c.in-Some.rest.now c.in-Some-front_of.own.now c.in-Some-front_of.behind.now c.in-Some.size c.in-Some-2.package read.1 c.in-Some-front_of.ensures.0 c.in-Some-front_of.ensures.1 t, sym t.text, only)
  where
    only : (p : Card) (behind : List ℕ) → Begins c.args.text.now (packed p) behind → p ≡ c.in-Some-2.package
    only p behind b =
        let read = c.in-Some.ensures in
        let small = c.size_of-most.ensures.small in
        let r = rest_of c.args.text.now c.in-Some.rest.now behind c.in-Some.size p small (let s = c.size_of-most.ensures.same in omega (arith, read.0)) read.1 b.1 in
        read_only c.in_ok-read_text.field-0 c.in-Some-front_of.own.now p c.in-Some-2.package c.in-Some-2.is c.in_ok-read_text.ensures.only b.0 (own_text c.in-Some-front_of.own.now c.in-Some.rest.now behind c.in-Some-front_of.behind.now c.in-Some.size p c.in-Some-front_of.ensures.0 c.in-Some-front_of.ensures.1 r.0 r.1)
