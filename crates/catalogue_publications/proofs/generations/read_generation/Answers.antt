use Rattle.std.proofs.Common.{◌≡◌, pos, w64, to_z, arith}
use Rattle.std.proofs.lemmas.Int.{to_z_pos}
use Rattle.machine_state.specs.Publications.{components_of}
use Rattle.catalogue_lines.proofs.ReadLemmas.{if_before}
use Rattle.catalogue_publications.proofs.PublicationRead.{at_generation, past_generation, generation_read}
use Rattle.catalogue_publications.proofs.generations.read_generation.Goals as goal

pub returns-in_default-clause-stops : goal.returns-in_default-clause-stops
returns-in_default-clause-stops c = λ apart. at_generation c.args.known.now.list c.args.architectures.now (components_of c.args.sources.now) c.args.key.now c.args.text.now c.number-most.result c.number-most.ensures c.in_default.ensures

pub returns-in-Err-clause-stops : goal.returns-in-Err-clause-stops
returns-in-Err-clause-stops c =
    let n = c.in-Some.ensures in
    if_before _ _ (λ left s apart. past_generation c.args.known.now.list c.args.architectures.now (components_of c.args.sources.now) c.args.key.now c.args.text.now c.in-Some.rest.now c.in-Some.moment c.number-most.result left c.number-most.ensures n.0 n.1 (s apart)) c.in-Err.stop c.in-Err.ensures.stops

pub returns-in-Ok-clause-read : goal.returns-in-Ok-clause-read
returns-in-Ok-clause-read c =
    let n = c.in-Some.ensures in
    let most = c.number-most.ensures in
    let few = n.0 in
    let moment : to_z w64 c.in-Some.moment ≡ pos c.in-Some.moment = to_z_pos w64 c.in-Some.moment (omega arith) in
    generation_read c.args.known.now.list c.args.architectures.now (components_of c.args.sources.now) c.args.key.now c.args.text.now c.in-Some.rest.now c.in-Ok.rest.now c.in-Some.moment c.number-most.result c.in-Ok.parts.items _ c.number-most.ensures n.0 n.1 c.in-Ok.ensures.read (λ i. record { moment = moment i; parts = c.in-Ok.parts.items })
