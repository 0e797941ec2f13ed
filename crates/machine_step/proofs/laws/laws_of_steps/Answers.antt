use Rattle.machine_step.proofs.LawLemmas.{valid_step, total_step, refuses_step, kept_step, says_refusal, says_step, plain_step, knows_step, cause_step, unbuilt_step}
use Rattle.machine_step.proofs.CaseLemmas.{readable}
use Rattle.mirror_update.proofs.TotalLemmas.{some_update}
use Rattle.machine_step.proofs.laws.laws_of_steps.Goals as goal

pub returns-clause-valid : goal.returns-clause-valid
returns-clause-valid c = valid_step c.repo_cases_are_lawful.ensures.lawful

pub returns-clause-total : goal.returns-clause-total
returns-clause-total c = total_step c.arrivals_fit.ensures.total some_update

pub returns-clause-refuses : goal.returns-clause-refuses
returns-clause-refuses c = refuses_step c.arrivals_fit.ensures.total some_update

pub returns-clause-kept : goal.returns-clause-kept
returns-clause-kept c = kept_step

pub returns-clause-refused_says : goal.returns-clause-refused_says
returns-clause-refused_says c = says_refusal

pub returns-clause-says : goal.returns-clause-says
returns-clause-says c = says_step c.repo_cases_are_lawful.ensures.lawful

pub returns-clause-plain : goal.returns-clause-plain
returns-clause-plain c = plain_step c.repo_cases_are_lawful.ensures.reads

pub returns-clause-knows : goal.returns-clause-knows
returns-clause-knows c = knows_step c.repo_cases_are_lawful.ensures.lawful

pub returns-clause-cause : goal.returns-clause-cause
returns-clause-cause c = cause_step c.repo_cases_are_lawful.ensures.lawful c.repo_cases_are_lawful.ensures.reads

pub returns-clause-unbuilt : goal.returns-clause-unbuilt
returns-clause-unbuilt c = unbuilt_step

pub returns-clause-reads : goal.returns-clause-reads
returns-clause-reads c = readable c.repo_cases_are_lawful.ensures.reads
