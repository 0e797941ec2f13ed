use Rattle.std.proofs.Common.{ap, None}
use Rattle.command_value.specs.Plain.{plain}
use Rattle.step_model.proofs.FaultLemmas.{ok_along, refused_along}
use Rattle.snapshot_ops.specs.Cases.{snapshot_case}
use Rattle.snapshot_ops.proofs.CaseLemmas.{case_along, is_search}
use Rattle.snapshot_ops.proofs.filtering.search.Goals as goal

pub returns-in-SnapshotSearch-clause-ok : goal.returns-in-SnapshotSearch-clause-ok
unfolding snapshot_case
returns-in-SnapshotSearch-clause-ok g c = λ deps follow name query e arrived v.
    ok_along None c.args.state.now _ _ arrived c.search_named.result (case_along c.args.state.now c.args.command.now _ _ e (ap plain c.in-SnapshotSearch.is)) (c.search_named.ensures.ok arrived v)

pub returns-in-SnapshotSearch-clause-fault : goal.returns-in-SnapshotSearch-clause-fault
unfolding snapshot_case
returns-in-SnapshotSearch-clause-fault g c = λ deps follow name query e arrived v.
    refused_along _ _ _ _ _ arrived c.search_named.result (case_along c.args.state.now c.args.command.now _ _ e (ap plain c.in-SnapshotSearch.is)) (c.search_named.ensures.fault arrived v)

pub returns-in_default-clause-fault : goal.returns-in_default-clause-fault
returns-in_default-clause-fault g c = λ deps follow name query e arrived v. absurd (is_search c.args.command.now deps follow name query e c.in_default.not-SnapshotSearch)
