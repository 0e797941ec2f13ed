use Rattle.std.proofs.Common.{◌≡◌, refl}
use Rattle.std.proofs.lemmas.Result.{err_from_is_err_and}
use Rattle.ap_host.proofs.ChangeLemmas.{GoesOn-map, GoesOn-none}
use Rattle.hash_pool.specs.Answers.{IsPut}
use Rattle.hash_pool.proofs.LodgeLemmas.{lodges_err, lodges_ok, lodges_fails, lodges_given}
use Rattle.hash_pool.proofs.AnswerLemmas.{sha_of, same_of, no_difference}
use Rattle.hash_pool.proofs.lodging.put.Goals as goal

pub returns-in_err-digests-clause-log : goal.returns-in_err-digests-clause-log
returns-in_err-digests-clause-log g c =
    let e = err_from_is_err_and c.from_residual.result c.from_residual.ensures.1 in
    GoesOn-none _ _ _ refl (λ l. lodges_err (IsPut c.args.bytes.now c.args.said.now) c.args.said.now.sha256 c.args.stage.now _ e.0 l e.1)

pub lodge-requires : goal.lodge-requires
lodge-requires g c = sha_of c.args.said.now c.args.bytes.now c.in_ok-digests.digests c.in_ok-digests.ensures.answer

pub returns-in_err-lodge-clause-log : goal.returns-in_err-lodge-clause-log
returns-in_err-lodge-clause-log g c =
    let e = err_from_is_err_and c.from_residual-in_err-lodge.result c.from_residual-in_err-lodge.ensures.1 in
    let bytes = c.args.bytes.now in
    let said = c.args.said.now in
    let Put = IsPut bytes said in
    let given = same_of said bytes c.in_ok-digests.digests c.in_ok-digests.ensures.answer in
    GoesOn-map _ _ _ _ c.lodge.ensures.log
    (λ l a h. lodges_fails Put said.sha256 c.args.stage.now c.lodge.new.stage c.lodge.result _ e.0 l a e.1 (lodges_given (λ b. b ≡ bytes) said.sha256 Put given c.args.stage.now c.lodge.new.stage c.lodge.result l a h))

pub returns-clause-log : goal.returns-clause-log
returns-clause-log g c =
    let bytes = c.args.bytes.now in
    let said = c.args.said.now in
    let Put = IsPut bytes said in
    let given = same_of said bytes c.in_ok-digests.digests c.in_ok-digests.ensures.answer in
    GoesOn-map _ _ _ _ c.in_ok-lodge.ensures.log
    (λ l a h. lodges_ok Put said.sha256 c.args.stage.now c.lodge.new.stage tt c.in_ok-digests.digests l a (lodges_given (λ b. b ≡ bytes) said.sha256 Put given c.args.stage.now c.lodge.new.stage _ l a h))

pub returns-in_err-lodge-clause-still : goal.returns-in_err-lodge-clause-still
returns-in_err-lodge-clause-still g c differs =
    absurd (differs (no_difference c.args.said.now c.args.bytes.now c.in_ok-digests.digests c.in_ok-digests.ensures.answer))

pub returns-clause-still : goal.returns-clause-still
returns-clause-still g c differs =
    absurd (differs (no_difference c.args.said.now c.args.bytes.now c.in_ok-digests.digests c.in_ok-digests.ensures.answer))
