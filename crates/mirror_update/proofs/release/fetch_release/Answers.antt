use Rattle.std.proofs.Common.{◌≡◌, List, Ok, sym, ap, ◌∙◌, subst}
use Rattle.std.proofs.lemmas.Result.{err_from_is_err_and}
use Rattle.std.specs.Result.{MatchResult}
use Rattle.ap_host.specs.Disk.{Path}
use Rattle.release_file.specs.Release.{IsRelease}
use Rattle.machine_state.specs.declared.limit.Limit.TheVariants.{ReleaseBytes}
use Rattle.package_intake.specs.Index.{IsUnreadFault, bytes_within}
use Rattle.package_intake.specs.Steps.{FaultGives}
use Rattle.package_intake.proofs.FaultLemmas.{handed_on}
use Rattle.mirror_update.specs.Fetch.{IsFetched, IsMalformedBy, IsReleaseText}
use Rattle.mirror_update.specs.Answers.{IsReleaseFault}
use Rattle.mirror_update.proofs.FetchLemmas.{absent_release, malformed_of, memory_meets, met_err, release_fault, release_said, some_release, unread_release}
use Rattle.mirror_update.proofs.release.fetch_release.Goals as goal

pub returns-in_err-path-clause-told : goal.returns-in_err-path-clause-told
returns-in_err-path-clause-told g c short f told =
    let e = err_from_is_err_and c.from_residual.result c.from_residual.ensures.1 in
    met_err (IsFetched f c.args.mirror.now) c.from_residual.result e.0 c.in_err-path.field-0.0 e.1 e.2 (memory_meets (IsFetched f c.args.mirror.now) c.in_err-path.field-0.0 (c.in_err-path.ensures.short short))

pub returns-in_err-path-clause-fault : goal.returns-in_err-path-clause-fault
returns-in_err-path-clause-fault g c =
    let e = err_from_is_err_and c.from_residual.result c.from_residual.ensures.1 in
    handed_on c.from_residual.result (IsReleaseFault c.args.mirror.now) e.0 c.in_err-path.field-0.0 e.1 e.2 (absent_release c.args.mirror.now c.in_err-path.field-0.0 c.in_err-path.ensures.fault)

pub returns-in_err-bytes-clause-told : goal.returns-in_err-bytes-clause-told
returns-in_err-bytes-clause-told g c short f told =
    let e = err_from_is_err_and c.from_residual-in_err-bytes.result c.from_residual-in_err-bytes.ensures.1 in
    let fault = c.in_err-bytes.field-0.0 in
    met_err (IsFetched f c.args.mirror.now) c.from_residual-in_err-bytes.result e.0 fault e.1 e.2
    (release_fault f c.args.mirror.now fault (subst (λ (p : Path). FaultGives fault (bytes_within ReleaseBytes p (f p))) c.in_ok-path.ensures.path (c.in_err-bytes.ensures.told f told)))

pub returns-in_err-bytes-clause-fault : goal.returns-in_err-bytes-clause-fault
returns-in_err-bytes-clause-fault g c =
    let e = err_from_is_err_and c.from_residual-in_err-bytes.result c.from_residual-in_err-bytes.ensures.1 in
    let fault = c.in_err-bytes.field-0.0 in
    handed_on c.from_residual-in_err-bytes.result (IsReleaseFault c.args.mirror.now) e.0 fault e.1 e.2
    (unread_release c.args.mirror.now fault (subst (λ (p : Path). IsUnreadFault ReleaseBytes p fault) c.in_ok-path.ensures.path c.in_err-bytes.ensures.fault))

pub returns-clause-told : goal.returns-clause-told
returns-clause-told g c short f told =
    let bytes : List _ = c.as_slice.result.now in
    let path = c.in_ok-path.ensures.path in
    let read = subst (λ (p : Path). bytes_within ReleaseBytes p (f p) ≡ Ok c.in_ok-bytes.bytes) path (c.in_ok-bytes.ensures.told f told) in
    release_said f c.args.mirror.now bytes c.read_text.result (read ∙ ap Ok (sym c.as_slice.ensures))
    (subst (λ (p : Path). MatchResult c.read_text.result (IsRelease bytes) (IsMalformedBy IsReleaseText p bytes)) path c.read_text.ensures.release)

pub returns-clause-said : goal.returns-clause-said
returns-clause-said g c = some_release c.as_slice.result.now c.in_ok-path.path c.read_text.result c.read_text.ensures.release

pub returns-clause-fault : goal.returns-clause-fault
returns-clause-fault g c =
    let bytes = c.as_slice.result.now in
    malformed_of c.args.mirror.now bytes c.read_text.result
    (subst (λ (p : Path). MatchResult c.read_text.result (IsRelease bytes) (IsMalformedBy IsReleaseText p bytes)) c.in_ok-path.ensures.path c.read_text.ensures.release)
