use Rattle.std.proofs.Common.{◌≡◌, Some, refl, sym, ap, ◌∙◌}
use Rattle.std.specs.Option.{IfSome, option_map}
use Rattle.std.specs.Rc.{rc_value}
use Rattle.package_core.specs.Card.{Card}
use Rattle.ap_host.specs.Disk.{live_of}
use Rattle.ap_host.proofs.ChangeLemmas.{GoesOn-map, GoesOn-none}
use Rattle.hash_pool.specs.Bodies.{HasBody}
use Rattle.package_intake.specs.Inside.{file_of}
use Rattle.package_intake.proofs.LogLemmas.{nothing_adds, adds_on, reuse_needs, itself_on}
use Rattle.package_intake.proofs.body.made.Goals as goal

pub returns-in-Some-clause-log : goal.returns-in-Some-clause-log
returns-in-Some-clause-log g c =
    let sha = c.args.one.now.said.sha256 in
    let k : Card = c.package.result.now in
    let is : file_of c.args.files.now sha ≡ Some k = ap (option_map rc_value) (sym c.in-Some.ensures.value) ∙ ap Some (sym (c.package.ensures ∙ c.as_ref.ensures)) in
    GoesOn-none _ _ _ refl (λ l. nothing_adds _ _ (λ f. IfSome (file_of c.args.files.now sha) (HasBody f)) c.reused.result _ l (reuse_needs c.reused.result (file_of c.args.files.now sha) k (live_of l) is c.reused.ensures.body))

pub returns-in-None-clause-log : goal.returns-in-None-clause-log
returns-in-None-clause-log g c =
    GoesOn-map _ _ _ _ c.fetched.ensures.log (λ l a h. adds_on _ _ _ (λ f. IfSome (file_of c.args.files.now c.args.one.now.said.sha256) (HasBody f)) c.fetched.result c.fetched.result _ _ l a (λ n. tt) h (itself_on c.fetched.result _ (λ q n grown b. b)))
