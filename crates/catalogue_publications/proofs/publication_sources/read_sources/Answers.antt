use Rattle.std.proofs.Common.{Option, ℕ, [], subst}
use Rattle.catalogue_publications.specs.PublicationReading.{IsThere, IsCount}
use Rattle.catalogue_publications.specs.PublicationGrammar.{NextSource}
use Rattle.catalogue_lines.specs.PartForms.{Series}
use Rattle.catalogue_lines.specs.Reading.{Stops}
use Rattle.catalogue_lines.proofs.ReadLemmas.{if_stop, if_before}
use Rattle.catalogue_publications.proofs.PublicationRead.{at_sources, past_sources}
use Rattle.catalogue_publications.proofs.publication_sources.read_sources.Goals as goal

pub returns-in_default-clause-stops : goal.returns-in_default-clause-stops
returns-in_default-clause-stops c = at_sources (IsThere c.args.repos.now c.args.snapshots.now c.args.kind) c.args.text.now c.in_default.ensures

pub returns-in-Some-count-clause-stops : goal.returns-in-Some-count-clause-stops
returns-in-Some-count-clause-stops c =
    let n = c.in-Some.ensures in
    let same = subst (λ (o : Option ℕ). IsCount n.0 o) c.in-Some-count.is n.2 in
    if_stop _ _ (λ left s. past_sources (IsThere c.args.repos.now c.args.snapshots.now c.args.kind) c.args.text.now c.in-Some.rest.now n.0 left n.1 (subst (λ k. Stops (Series k (NextSource (IsThere c.args.repos.now c.args.snapshots.now c.args.kind)) []) c.in-Some.rest.now left) same s)) c.read_so_many.result c.read_so_many.ensures.stops

pub returns-in-None-clause-stops : goal.returns-in-None-clause-stops
returns-in-None-clause-stops c =
    let n = c.in-Some.ensures in
    let great = subst (λ (o : Option ℕ). IsCount n.0 o) c.in-None.is n.2 in
    if_before _ _ (λ left s. past_sources (IsThere c.args.repos.now c.args.snapshots.now c.args.kind) c.args.text.now c.in-Some.rest.now n.0 left n.1 (s n.0 great)) c.too_many.result c.too_many.ensures
