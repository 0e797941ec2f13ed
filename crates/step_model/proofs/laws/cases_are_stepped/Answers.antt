use Rattle.std.proofs.Common.{◌≡◌, refl}
use Rattle.step_model.proofs.StepLemmas.{step_some, refused_kept, refused_says, step_plain, step_valid, step_says, step_knows}
use Rattle.step_model.proofs.laws.cases_are_stepped.Goals as goal

pub returns-clause-total : goal.returns-clause-total
returns-clause-total c = step_some

pub returns-clause-kept : goal.returns-clause-kept
returns-clause-kept c = refused_kept

pub returns-clause-told : goal.returns-clause-told
returns-clause-told c = refused_says

pub returns-clause-plain : goal.returns-clause-plain
returns-clause-plain c = step_plain

pub returns-clause-valid : goal.returns-clause-valid
returns-clause-valid c = λ line large state case arrived outcome law v s. step_valid line large state (λ a. a ≡ arrived) case arrived outcome law v (λ early late. refl) s

pub returns-clause-says : goal.returns-clause-says
returns-clause-says c = λ line large state case arrived outcome law says s. step_says line large state (λ a. a ≡ arrived) case arrived outcome law says s

pub returns-clause-knows : goal.returns-clause-knows
returns-clause-knows c = λ line large state case arrived outcome law s. step_knows line large state (λ a. a ≡ arrived) case arrived outcome law s
