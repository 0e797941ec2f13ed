use Rattle.std.proofs.Common.{◌≡◌, None, IsSome, refl, sym, ◌∙◌, subst}
use Rattle.std.proofs.lemmas.Result.{err_from_is_err_and}
use Rattle.ap_host.specs.Disk.{Path, live_of}
use Rattle.ap_host.specs.Changes.{GoesOn}
use Rattle.ap_host.proofs.ChangeLemmas.{GoesOn-map, GoesOn-given, GoesOn-none}
use Rattle.hash_pool.specs.Names.{pool_name}
use Rattle.hash_pool.specs.Lodging.{Sets}
use Rattle.hash_pool.proofs.LodgeLemmas.{GoesOn-still, lodges_err, lodges_there, lodges_set, absent_of, there_of}
use Rattle.hash_pool.proofs.lodging.lodge.Goals as goal

pub returns-in_err-path-clause-log : goal.returns-in_err-path-clause-log
returns-in_err-path-clause-log g c =
    let e = err_from_is_err_and c.from_residual.result c.from_residual.ensures.1 in
    GoesOn-none _ _ _ refl (λ l. lodges_err (λ b. b ≡ c.args.bytes.now) c.args.sha256.now c.args.stage.now _ e.0 l e.1)

pub returns-in_err-length-clause-log : goal.returns-in_err-length-clause-log
returns-in_err-length-clause-log g c =
    let e = err_from_is_err_and c.from_residual-in_err-length.result c.from_residual-in_err-length.ensures.1 in
    GoesOn-none _ _ _ c.length.ensures.log (λ l. lodges_err (λ b. b ≡ c.args.bytes.now) c.args.sha256.now c.args.stage.now _ e.0 l e.1)

pub returns-then-is_some-clause-log : goal.returns-then-is_some-clause-log
returns-then-is_some-clause-log g c =
    let name = pool_name c.args.sha256.now in
    let yes = sym c.is_some.ensures ∙ c.if-is_some.true in
    GoesOn-still _ _ _ (λ l. IsSome (live_of l name)) c.length.ensures.log
    (λ l told. subst (λ (p : Path). IsSome (live_of l p)) c.in_ok-path.ensures (there_of _ _ (c.in_ok-length.ensures.length l told) yes))
    (λ l some. lodges_there (λ b. b ≡ c.args.bytes.now) c.args.sha256.now c.args.bytes.now c.args.stage.now tt l refl c.requires some)

pub returns-clause-log : goal.returns-clause-log
returns-clause-log g c =
    let name = pool_name c.args.sha256.now in
    let no_file = sym c.is_some.ensures ∙ c.if-is_some.false in
    let r = c.set.result in
    let set = subst (λ (p : Path). GoesOn (g.H.Host.log c.length.new.self) (g.H.Host.log c.set.new.host) (Sets p c.args.bytes.now c.args.stage.now c.set.new.stage r)) c.in_ok-path.ensures c.set.ensures.log in
    let from = subst (λ x. GoesOn x (g.H.Host.log c.set.new.host) (Sets name c.args.bytes.now c.args.stage.now c.set.new.stage r)) c.length.ensures.log set in
    GoesOn-map _ _ _ _
    (GoesOn-given _ _ _ (λ l. live_of l name ≡ None) from (λ l told. subst (λ (p : Path). live_of l p ≡ None) c.in_ok-path.ensures (absent_of _ _ (c.in_ok-length.ensures.length l told) no_file)))
    (λ l a x. lodges_set c.args.bytes.now c.args.sha256.now c.args.stage.now c.set.new.stage r l a c.requires x.0 x.1)
