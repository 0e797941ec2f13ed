use Rattle.std.proofs.Common.{sym, ◌∙◌}
use Rattle.hash_pool.proofs.AnswerLemmas.{differs_in_size, refused_for_size, found_whole}
use Rattle.hash_pool.proofs.taking.body.Goals as goal

pub returns-then-length-said-clause-told : goal.returns-then-length-said-clause-told
returns-then-length-said-clause-told g c f told =
    refused_for_size (f c.args.path.now) c.args.said.now c.in-Some.length c.in_ok-other_size.field-0 (sym c.in-Some.is ∙ c.in_ok-length.ensures.length f told) c.if-length-said.true c.in_ok-other_size.ensures

pub returns-then-length-said-clause-differs : goal.returns-then-length-said-clause-differs
returns-then-length-said-clause-differs g c =
    differs_in_size c.args.said.now c.in-Some.length c.in_ok-other_size.field-0 c.if-length-said.true c.in_ok-other_size.ensures

pub returns-clause-told : goal.returns-clause-told
returns-clause-told g c f told =
    found_whole (f c.args.path.now) c.in-Some.length c.in_ok-read_input.field-0 (sym c.in-Some.is ∙ c.in_ok-length.ensures.length f told) (c.in_ok-read_input.ensures.told f (c.length.ensures.map ∙ told))
