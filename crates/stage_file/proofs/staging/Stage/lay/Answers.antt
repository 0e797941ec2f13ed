use Rattle.std.proofs.Common.{List, ℕ, Result, Ok, refl, ap, ◌∙◌, subst}
use Rattle.ap_text.specs.Paths.{numbered}
use Rattle.ap_host.specs.declared.host.HostErr.{HostErr}
use Rattle.ap_host.specs.Changes.{GoesOn}
use Rattle.ap_host.proofs.ChangeLemmas.{GoesOn-map}
use Rattle.stage_file.specs.Stage.{StageState, stage_path, Lays}
use Rattle.stage_file.proofs.StageLemmas.{lays_as}
use Rattle.stage_file.proofs.staging.Stage.lay.Goals as goal

pub returns-clause-log : goal.returns-clause-log
returns-clause-log g c =
    let bytes = c.args.bytes.now in
    let done : Result (Unit {0}) HostErr = Ok tt in
    subst (λ (p : List ℕ). GoesOn (g.H.Host.log c.args.host.now) (g.H.Host.log c.lay_at.new.host) (Lays p bytes (Ok c.in_ok-path.path))) (c.in_ok-path.ensures ∙ ap (λ (f : List ℕ). numbered f c.self.inside.next) c.in_ok-folder.ensures ∙ ap (λ (s : StageState). stage_path s.next) c.self.view_is)
    (GoesOn-map _ _ _ _ c.in_ok-lay_at.ensures.log (λ l a x. lays_as c.in_ok-path.path bytes done (Ok c.in_ok-path.path) l a x tt refl))
