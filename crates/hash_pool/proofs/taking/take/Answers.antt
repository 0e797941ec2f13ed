use Rattle.std.proofs.Common.{◌≡◌, ℕ, List, Some, refl, sym, ◌∙◌, ap}
use Rattle.std.proofs.lemmas.Result.{err_from_is_err_and}
use Rattle.ap_host.proofs.ChangeLemmas.{GoesOn-map, GoesOn-none}
use Rattle.hash_pool.specs.Answers.{IsPut, IsTaken}
use Rattle.hash_pool.proofs.AnswerLemmas.{facts_of}
use Rattle.hash_pool.proofs.LodgeLemmas.{lodges_err, lodges_given}
use Rattle.hash_pool.proofs.taking.take.Goals as goal

pub returns-in_err-bytes-clause-log : goal.returns-in_err-bytes-clause-log
returns-in_err-bytes-clause-log g c =
    let e = err_from_is_err_and c.from_residual.result c.from_residual.ensures.1 in
    GoesOn-none _ _ _ refl (λ l. lodges_err (IsTaken (g.I.Inbox.map c.args.inbox.now) c.args.path.now c.args.said.now c.from_residual.result) c.args.said.now.sha256 c.args.stage.now _ e.0 l e.1)

pub returns-clause-log : goal.returns-clause-log
returns-clause-log g c =
    let map = g.I.Inbox.map c.args.inbox.now in
    let path = c.args.path.now in
    let said = c.args.said.now in
    let r = c.put.result in
    let slice = c.as_slice.result.now in
    let same : slice ≡ c.in_ok-bytes.bytes = c.as_slice.ensures in
    let given : (b : List ℕ) → IsPut slice said b → IsTaken map path said r b = λ b put. record {
      input = λ f told. c.in_ok-bytes.ensures.told f told ∙ ap (λ (x : List ℕ). Some x) (sym (put.0 ∙ same));
      same = put.1;
      facts = facts_of said slice r c.put.ensures.answer b put.0;
    } in
    GoesOn-map _ _ _ _ c.put.ensures.log (λ l a h. lodges_given (IsPut slice said) said.sha256 (IsTaken map path said r) given c.args.stage.now c.put.new.stage r l a h)
