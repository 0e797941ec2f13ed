use Rattle.std.proofs.Common.{List, ℕ, ◌∙◌, sym, subst}
use Rattle.std.specs.Str.{IsUtf8}
use Rattle.machine_state.specs.Texts.{IsTitle}
use Rattle.catalogue_publications.specs.PublicationLines.{origin_line, label_line, suite_line, codename_line}
use Rattle.catalogue_lines.specs.Reading.{NoLine, ReadsLine}
use Rattle.catalogue_lines.proofs.ValueLemmas.{at_default, at_some}
use Rattle.catalogue_publications.proofs.PublicationLineLemmas.{place_is_text}
use Rattle.catalogue_publications.proofs.PublicationRead.{at_origin, at_label, at_suite, at_codename, titles_read}
use Rattle.catalogue_publications.proofs.publications.read_titles.Goals as goal

pub returns-in_default-clause-stops : goal.returns-in_default-clause-stops
returns-in_default-clause-stops c =
    at_origin c.args.place.now c.args.text.now c.args.text.now c.args.text.now (subst (λ (d : List ℕ). NoLine origin_line (IsTitle d) c.args.text.now) c.requires.written (at_default _ _ _ c.in_ok-origin.ensures c.in_default.not-Some))

pub returns-in_default-2-clause-stops : goal.returns-in_default-2-clause-stops
returns-in_default-2-clause-stops c =
    let a = subst (λ (d : List ℕ). ReadsLine origin_line (IsTitle d) c.args.text.now c.in-Some.origin c.in-Some.behind.now) c.requires.written (at_some _ _ _ _ c.in_ok-origin.ensures c.in-Some.is) in
    at_label c.args.place.now c.args.text.now c.in-Some.behind.now c.in-Some.origin a (subst (λ (d : List ℕ). NoLine label_line (IsTitle d) c.in-Some.behind.now) c.requires.written (at_default _ _ _ c.in_ok-label.ensures c.in_default-2.not-Some))

pub returns-in_default-3-clause-stops : goal.returns-in_default-3-clause-stops
returns-in_default-3-clause-stops c =
    let dist = c.as_bytes-dist.ensures.value ∙ c.as_str.ensures.text in
    let a = subst (λ (d : List ℕ). ReadsLine origin_line (IsTitle d) c.args.text.now c.in-Some.origin c.in-Some.behind.now) c.requires.written (at_some _ _ _ _ c.in_ok-origin.ensures c.in-Some.is) in
    let b = subst (λ (d : List ℕ). ReadsLine label_line (IsTitle d) c.in-Some.behind.now c.in-Some-2.label c.in-Some-2.rest.now) c.requires.written (at_some _ _ _ _ c.in_ok-label.ensures c.in-Some-2.is) in
    at_suite c.args.place.now c.args.text.now c.in-Some.behind.now c.in-Some.origin c.in-Some-2.rest.now c.in-Some-2.label a b (subst (λ (d : List ℕ). NoLine suite_line (IsTitle d) c.in-Some-2.rest.now) dist (at_default _ _ _ c.in_ok-suite.ensures c.in_default-3.not-Some))

pub returns-in_default-4-clause-stops : goal.returns-in_default-4-clause-stops
returns-in_default-4-clause-stops c =
    let dist = c.as_bytes-dist.ensures.value ∙ c.as_str.ensures.text in
    let a = subst (λ (d : List ℕ). ReadsLine origin_line (IsTitle d) c.args.text.now c.in-Some.origin c.in-Some.behind.now) c.requires.written (at_some _ _ _ _ c.in_ok-origin.ensures c.in-Some.is) in
    let b = subst (λ (d : List ℕ). ReadsLine label_line (IsTitle d) c.in-Some.behind.now c.in-Some-2.label c.in-Some-2.rest.now) c.requires.written (at_some _ _ _ _ c.in_ok-label.ensures c.in-Some-2.is) in
    let e = subst (λ (d : List ℕ). ReadsLine suite_line (IsTitle d) c.in-Some-2.rest.now c.in-Some-3.suite c.in-Some-3.behind.now) dist (at_some _ _ _ _ c.in_ok-suite.ensures c.in-Some-3.is) in
    at_codename c.args.place.now c.args.text.now c.in-Some.behind.now c.in-Some.origin c.in-Some-2.rest.now c.in-Some-2.label c.in-Some-3.behind.now c.in-Some-3.suite a b e (subst (λ (d : List ℕ). NoLine codename_line (IsTitle d) c.in-Some-3.behind.now) dist (at_default _ _ _ c.in_ok-codename.ensures c.in_default-4.not-Some))

pub returns-clause-read : goal.returns-clause-read
returns-clause-read c =
    let dist = c.as_bytes-dist.ensures.value ∙ c.as_str.ensures.text in
    let a = subst (λ (d : List ℕ). ReadsLine origin_line (IsTitle d) c.args.text.now c.in-Some.origin c.in-Some.behind.now) c.requires.written (at_some _ _ _ _ c.in_ok-origin.ensures c.in-Some.is) in
    let b = subst (λ (d : List ℕ). ReadsLine label_line (IsTitle d) c.in-Some.behind.now c.in-Some-2.label c.in-Some-2.rest.now) c.requires.written (at_some _ _ _ _ c.in_ok-label.ensures c.in-Some-2.is) in
    let e = subst (λ (d : List ℕ). ReadsLine suite_line (IsTitle d) c.in-Some-2.rest.now c.in-Some-3.suite c.in-Some-3.behind.now) dist (at_some _ _ _ _ c.in_ok-suite.ensures c.in-Some-3.is) in
    let f = subst (λ (d : List ℕ). ReadsLine codename_line (IsTitle d) c.in-Some-3.behind.now c.in-Some-4.codename c.in-Some-4.rest.now) dist (at_some _ _ _ _ c.in_ok-codename.ensures c.in-Some-4.is) in
    titles_read c.args.place.now c.args.text.now c.in-Some.behind.now c.in-Some.origin c.in-Some-2.rest.now c.in-Some-2.label c.in-Some-3.behind.now c.in-Some-3.suite c.in-Some-4.rest.now c.in-Some-4.codename a b e f

pub title_line-requires : goal.title_line-requires
title_line-requires c = subst IsUtf8 (sym c.requires.written) (place_is_text c.args.place.now c.requires.place)

pub title_line-requires-2 : goal.title_line-requires-2
title_line-requires-2 c = subst IsUtf8 (sym c.requires.written) (place_is_text c.args.place.now c.requires.place)
