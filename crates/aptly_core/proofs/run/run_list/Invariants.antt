use Rattle.std.proofs.Common.{◌≡◌, ◌≤◌, map}
use Rattle.ap_host.specs.Changes.{GoesOn}
use Rattle.command_words.specs.Plain.{plain}
use Rattle.machine_step.specs.Step.{giving}
use Rattle.aptly_core.proofs.ListLemmas.{ComesFrom, RunsFrom}
use Rattle.aptly_core.proofs.run.run_list.Given as goal

-- a next command may begin for the state so far, and whatever the rest of the commands does from here, all of them do from the start
abbrev pub invariant-loop-command : goal.invariant-loop-command
invariant-loop-command g l = record {
  host_later : g.H.Host.faults l.fn.host ≤ g.H.Host.faults l.host;
  inbox_later : g.I.Inbox.faults l.fn.inbox ≤ g.I.Inbox.faults l.inbox;
  later : g.M.Patterns.refusals l.fn.patterns ≤ g.M.Patterns.refusals l.patterns;
  inbox_map : g.I.Inbox.map l.inbox ≡ g.I.Inbox.map l.fn.inbox;
  comes : ComesFrom (giving (g.I.Inbox.map l.fn.inbox) l.fn.now) l.fn.state (map plain l.commands) l.state l.command-index;
  log : GoesOn (g.H.Host.log l.fn.host) (g.H.Host.log l.host) (RunsFrom (giving (g.I.Inbox.map l.fn.inbox) l.fn.now) l.fn.state (map plain l.commands) l.fn.stage l.state l.command-index l.stage);
}
