-- The laws of steps, with those of arrivals and of repositories put in.
use Rattle.std.proofs.Common.{◌≡◌, ◌≢◌, ℕ, ℤ, List, [], Option, Some, None}
use Rattle.run_model.specs.Run.{Outcome}
use Rattle.command_words.specs.Plain.{PlainCommand}
use Rattle.machine_state.specs.declared.refusal.Refusal.{Refusal}
use Rattle.machine_state.specs.declared.refusal.Refusal.TheVariants.{NotBuilt}
use Rattle.machine_state.specs.declared.arrived.Arrived.{Arrived}
use Rattle.machine_state.specs.State.{Valid}
use Rattle.machine_state.specs.Values.{StateView}
use Rattle.reply_text.specs.Refusals.{refusal_line}
use Rattle.step_model.specs.Lawful.{IsFrom}
use Rattle.step_model.specs.Refuses.{Refuses}
use Rattle.package_intake.proofs.EntryLemmas.{listed_packages}
use Rattle.package_intake.proofs.LawLemmas.{arrives_fit}
use Rattle.repo_packages.proofs.PackageLaws.{add_law, copy_law, import_law, move_law, remove_law}
use Rattle.local_repo.proofs.LawfulLemmas as repos
use Rattle.package_intake.proofs.TotalLemmas.{some_arrives}
use Rattle.machine_step.specs.Causes.{IsCause, IsUnbuilt}
use Rattle.mirror_update.proofs.TotalLemmas.{some_update}
use Rattle.machine_step.specs.Step.{CanBeRead, Given, Step, StepWith, case_of, read_for, refused}
use Rattle.machine_step.proofs.CaseLemmas as cases
use Rattle.machine_step.proofs.CaseLemmas.{RepoLaw, RepoReads}
use Rattle.machine_step.proofs.LawLemmas.{valid_step, total_step, refuses_step, says_refusal, says_step, plain_step, knows_step, cause_step, unbuilt_step}

repo_law : RepoLaw
repo_law = repos.lawful (add_law (arrives_fit listed_packages)) remove_law copy_law move_law import_law

repo_reads : RepoReads
repo_reads = repos.repo_reads (add_law (arrives_fit listed_packages)) remove_law copy_law move_law import_law

module _ (given : Given) (large : Option (List ℕ)) (state : StateView) (c : PlainCommand) where
  pub total : (outcome : Outcome StateView Refusal) × Step given large state c outcome
  total = total_step some_arrives some_update given large state c

  pub refuses : (refusal : Refusal) → Refuses large (case_of given.now state c) (Some refusal) → Step given large state c (refused state refusal)
  refuses = refuses_step some_arrives some_update given large state c

  module _ (outcome : Outcome StateView Refusal) where
    pub valid : Valid state → Step given large state c outcome → Valid outcome.state
    valid = valid_step repo_law given large state c outcome

    pub says : Step given large state c outcome → outcome.reply ≢ []
    says = says_step repo_law given large state c outcome

    pub says_refusal_of : (refusal : Refusal) → Step given large state c outcome → outcome.refusal ≡ Some refusal → outcome.reply ≡ refusal_line refusal
    says_refusal_of = says_refusal given large state c outcome

    pub cause : (refusal : Refusal) → Step given large state c outcome → outcome.refusal ≡ Some refusal → IsCause given.now large state c refusal
    cause = cause_step repo_law repo_reads given large state c outcome

    pub unbuilt : IsUnbuilt c → Step given large state c outcome → outcome.refusal ≡ Some NotBuilt
    unbuilt = unbuilt_step given large state c outcome

pub plain : (given : Given) (large other : Option (List ℕ)) (state : StateView) (c : PlainCommand) (outcome : Outcome StateView Refusal) → outcome.refusal ≡ None → Step given large state c outcome → Step given other state c outcome
plain = plain_step repo_reads

pub knows : (now : ℤ) (large : Option (List ℕ)) (state : StateView) (c : PlainCommand) (arrived : Arrived) (outcome : Outcome StateView Refusal) → StepWith now large state c arrived outcome → IsFrom state arrived outcome.state
knows = knows_step repo_law

pub readable : (now : ℤ) (state : StateView) (c : PlainCommand) → CanBeRead (case_of now state c) (read_for now state c)
readable = cases.readable repo_reads
