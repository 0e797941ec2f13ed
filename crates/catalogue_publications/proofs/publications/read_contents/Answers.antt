use Rattle.std.proofs.Common.{List, ℕ, subst}
use Rattle.std.specs.Prelude.{nat_lt}
use Rattle.machine_state.specs.Publications.{components_of}
use Rattle.catalogue_publications.specs.PublicationLines.{current_line, generation_pieces, previous_pieces}
use Rattle.catalogue_publications.specs.PublicationGrammar.{has_source_in, GenerationPart, PreviousPart}
use Rattle.catalogue_publications.specs.PublicationReading.{GoodGeneration, GoodPrevious}
use Rattle.catalogue_lines.specs.Reading.{Stops, ReadsPart}
use Rattle.catalogue_lines.proofs.ReadLemmas.{if_before}
use Rattle.catalogue_publications.proofs.PublicationRead.{in_sources, in_current, in_previous, contents_read}
use Rattle.catalogue_publications.proofs.publications.read_contents.Goals as goal

pub returns-in-Err-clause-stops : goal.returns-in-Err-clause-stops
returns-in-Err-clause-stops c = if_before _ _ (λ left s apart. in_sources c.args.known.now.list (has_source_in c.args.repos.now c.args.snapshots.now) c.args.head c.args.architectures.items c.args.serial c.args.text.now left s) c.in-Err.stop c.in-Err.ensures.stops

pub returns-in-Err-read_generation-clause-stops : goal.returns-in-Err-read_generation-clause-stops
returns-in-Err-read_generation-clause-stops c =
    if_before _ _ (λ left s apart. in_current c.args.known.now.list (has_source_in c.args.repos.now c.args.snapshots.now) c.args.head c.args.architectures.items c.args.serial apart c.args.text.now c.in-Ok.sources.1.now c.in-Ok.sources.0.items c.in-Ok.ensures.read left
    (subst (λ (a : List (List ℕ)). Stops (GenerationPart c.args.known.now.list a (components_of c.in-Ok.sources.0.items) current_line) c.in-Ok.sources.1.now left) c.as_slice-listed.ensures.value
    (subst (λ (s : List (List ℕ × List ℕ)). Stops (GenerationPart c.args.known.now.list c.as_slice-listed.result.now (components_of s) current_line) c.in-Ok.sources.1.now left) c.as_slice-named.ensures.value (s apart))))
    c.in-Err-read_generation.stop c.in-Err-read_generation.ensures.stops

pub returns-in-Err-read_previous-clause-stops : goal.returns-in-Err-read_previous-clause-stops
returns-in-Err-read_previous-clause-stops c =
    let q = subst (λ (a : List (List ℕ)). ReadsPart (generation_pieces current_line) (GoodGeneration c.args.known.now.list a (components_of c.in-Ok.sources.0.items)) c.in-Ok.sources.1.now c.in-Ok-read_generation.current.0 c.in-Ok-read_generation.current.1.now) c.as_slice-listed.ensures.value
    (subst (λ (s : List (List ℕ × List ℕ)). ReadsPart (generation_pieces current_line) (GoodGeneration c.args.known.now.list c.as_slice-listed.result.now (components_of s)) c.in-Ok.sources.1.now c.in-Ok-read_generation.current.0 c.in-Ok-read_generation.current.1.now) c.as_slice-named.ensures.value c.in-Ok-read_generation.ensures.read) in
    if_before _ _ (λ left s apart. in_previous c.args.known.now.list (has_source_in c.args.repos.now c.args.snapshots.now) c.args.head c.args.architectures.items c.args.serial apart c.args.text.now c.in-Ok.sources.1.now c.in-Ok.sources.0.items c.in-Ok.ensures.read c.in-Ok-read_generation.current.1.now c.in-Ok-read_generation.current.0 q left
    (subst (λ (a : List (List ℕ)). Stops (PreviousPart c.args.known.now.list a (components_of c.in-Ok.sources.0.items) (nat_lt 1 c.args.serial)) c.in-Ok-read_generation.current.1.now left) c.as_slice-listed.ensures.value
    (subst (λ (s : List (List ℕ × List ℕ)). Stops (PreviousPart c.args.known.now.list c.as_slice-listed.result.now (components_of s) (nat_lt 1 c.args.serial)) c.in-Ok-read_generation.current.1.now left) c.as_slice-named.ensures.value (s apart))))
    c.in-Err-read_previous.stop c.in-Err-read_previous.ensures.stops

pub returns-clause-read : goal.returns-clause-read
returns-clause-read c =
    let q = subst (λ (a : List (List ℕ)). ReadsPart (generation_pieces current_line) (GoodGeneration c.args.known.now.list a (components_of c.in-Ok.sources.0.items)) c.in-Ok.sources.1.now c.in-Ok-read_generation.current.0 c.in-Ok-read_generation.current.1.now) c.as_slice-listed.ensures.value
    (subst (λ (s : List (List ℕ × List ℕ)). ReadsPart (generation_pieces current_line) (GoodGeneration c.args.known.now.list c.as_slice-listed.result.now (components_of s)) c.in-Ok.sources.1.now c.in-Ok-read_generation.current.0 c.in-Ok-read_generation.current.1.now) c.as_slice-named.ensures.value c.in-Ok-read_generation.ensures.read) in
    let p = subst (λ (a : List (List ℕ)). ReadsPart previous_pieces (GoodPrevious c.args.known.now.list a (components_of c.in-Ok.sources.0.items) (nat_lt 1 c.args.serial)) c.in-Ok-read_generation.current.1.now c.in-Ok-read_previous.previous c.in-Ok-read_previous.rest.now) c.as_slice-listed.ensures.value
    (subst (λ (s : List (List ℕ × List ℕ)). ReadsPart previous_pieces (GoodPrevious c.args.known.now.list c.as_slice-listed.result.now (components_of s) (nat_lt 1 c.args.serial)) c.in-Ok-read_generation.current.1.now c.in-Ok-read_previous.previous c.in-Ok-read_previous.rest.now) c.as_slice-named.ensures.value c.in-Ok-read_previous.ensures.read) in
    contents_read c.args.known.now.list (has_source_in c.args.repos.now c.args.snapshots.now) c.args.head c.args.architectures.items c.args.serial c.args.text.now c.in-Ok.sources.1.now c.in-Ok-read_generation.current.1.now c.in-Ok-read_previous.rest.now c.in-Ok.sources.0.items c.in-Ok-read_generation.current.0 c.in-Ok-read_previous.previous _ c.in-Ok.ensures.read q p c.published.ensures
