use Rattle.std.proofs.Common.{◌≡◌, Ok, Some, sym, ap, ◌∙◌, subst}
use Rattle.std.specs.Result.{MatchResult}
use Rattle.std.specs.Option.{option_copied}
use Rattle.ap_host.specs.Disk.{Path}
use Rattle.index_text.specs.Index.{Lists}
use Rattle.package_intake.specs.Index.{IsMalformed, stated_bytes}
use Rattle.mirror_update.specs.Wanted.{listed_at}
use Rattle.mirror_update.proofs.IndexLemmas.{one_said}
use Rattle.mirror_update.proofs.indexes.read_one.Goals as goal

pub returns-clause-told : goal.returns-clause-told
returns-clause-told g c short f told =
    let at = c.in_ok-path.ensures.path in
    let found : listed_at c.args.files.now c.args.name.now ≡ Some c.in-Some.file.now = sym c.listed_at.ensures ∙ ap option_copied c.in-Some.is in
    let read = subst (λ (p : Path). stated_bytes p c.stated.result (f p) ≡ Ok c.in_ok-bytes.bytes) at (c.in_ok-bytes.ensures.told f told) in
    one_said f c.args.folder.now c.args.files.now c.args.name.now c.in-Some.file.now c.stated.result c.as_slice.result.now c.read_entries.result found c.stated.ensures (read ∙ ap Ok (sym c.as_slice.ensures))
    (subst (λ (p : Path). MatchResult c.read_entries.result (λ v. Lists c.as_slice.result.now v.items) (IsMalformed p c.as_slice.result.now)) at c.read_entries.ensures.index)
