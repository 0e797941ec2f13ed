use Rattle.std.proofs.Common.{◌≡◌, ◌≤◌, ◌+◌, ◌++◌, ◌∷◌, [], take, drop, sym, ◌∙◌, subst, subst₂, arith, length, take_all, List}
use Rattle.std.specs.List.{Contains}
use Rattle.std.proofs.lemmas.List.Elements.{All-contains_itself}
use Rattle.std.proofs.lemmas.Result.{err_from_is_err_and}
use Rattle.ap_text.specs.Paths.{below_folder}
use Rattle.ap_host.specs.Disk.{Path}
use Rattle.ap_host.proofs.ListLemmas.{round, took}
use Rattle.package_core.specs.Card.{IsPackage}
use Rattle.package_core.specs.Whole.{IsSaid}
use Rattle.index_text.specs.Index.{ArePackages}
use Rattle.package_intake.specs.Index.{AreShort, IndexEntry}
use Rattle.package_intake.proofs.ListLemmas.{all_append}
use Rattle.package_intake.proofs.FaultLemmas.{handed_on}
use Rattle.mirror_update.specs.Indexes.{AreAllRead, AreRead, FaultOfListed, IsIndexRead}
use Rattle.mirror_update.proofs.FetchLemmas.{met_items_err}
use Rattle.mirror_update.proofs.IndexLemmas.{all_read, all_refused, member, of_listed, read_more}
use Rattle.mirror_update.proofs.indexes.read_all.Goals as goal

pub returns-in_err-entries-clause-told : goal.returns-in_err-entries-clause-told
returns-in_err-entries-clause-told g c short f told =
    let e = err_from_is_err_and c.from_residual.result c.from_residual.ensures.1 in
    let names = c.args.names.now in
    let i = c.loop-name.name-index in
    let fault = c.in_err-entries.field-0.0 in
    let folder = c.args.folder.now in
    let files = c.args.files.now in
    let here = member (λ name. length (below_folder folder name) ≤ 1000) names i c.name-item.result short c.loop-name-test.true c.name-item.is in
    met_items_err (AreAllRead f folder files names) c.from_residual.result e.0 fault e.1 e.2
    (all_refused f folder files names (take i names) (drop (i + 1) names) c.name-item.result c.loop-name.all.items fault (sym (round names i c.name-item.result c.loop-name-test.true c.name-item.is)) (c.loop-name.invariant.as_told short f told) (c.in_err-entries.ensures.told here f (c.loop-name.invariant.inbox_same ∙ told)))

pub returns-in_err-entries-clause-mismatch : goal.returns-in_err-entries-clause-mismatch
returns-in_err-entries-clause-mismatch g c =
    let e = err_from_is_err_and c.from_residual.result c.from_residual.ensures.1 in
    let names = c.args.names.now in
    let there = member (Contains names) names c.loop-name.name-index c.name-item.result (All-contains_itself names) c.loop-name-test.true c.name-item.is in
    handed_on c.from_residual.result (FaultOfListed c.args.folder.now c.args.files.now names) e.0 c.in_err-entries.field-0.0 e.1 e.2
    (of_listed c.args.folder.now c.args.files.now names c.name-item.result c.in_err-entries.field-0.0 there c.in_err-entries.ensures.mismatch)

pub loop-name-preserved : goal.loop-name-preserved
loop-name-preserved g c =
    let names = c.args.names.now in
    let i = c.loop-name.name-index in
    let name = c.name-item.result in
    let folder = c.args.folder.now in
    let files = c.args.files.now in
    let more : List IndexEntry = c.in_ok-entries.entries.items in
    let all : List IndexEntry = c.loop-name.all.items in
    let appended : c.append.new.self.items ≡ all ++ more = c.in_ok-append.ensures.items in
    let took : take (i + 1) names ≡ take i names ++ name ∷ [] = took names i name c.loop-name-test.true c.name-item.is in
    record {
      inbox_same = c.read_one.ensures.map ∙ c.loop-name.invariant.inbox_same;
      inbox_later = omega (arith, c.loop-name.invariant.inbox_later, c.read_one.ensures.cause.later);
      packages = subst ArePackages (sym appended) (all_append (λ (e : IndexEntry). IsPackage e.0 × IsSaid e.0.said) all more c.loop-name.invariant.packages c.in_ok-entries.ensures.packages);
      short = subst AreShort (sym appended) (all_append (λ (e : IndexEntry). length e.1 ≤ 700) all more c.loop-name.invariant.short c.in_ok-entries.ensures.short);
      as_told = λ short f told.
          let here = member (λ x. length (below_folder folder x) ≤ 1000) names i name short c.loop-name-test.true c.name-item.is in
          subst₂ (AreRead (IsIndexRead f folder files)) (sym took) (sym appended) (read_more (IsIndexRead f folder files) (take i names) name all more (c.loop-name.invariant.as_told short f told) (c.in_ok-entries.ensures.told here f (c.loop-name.invariant.inbox_same ∙ told)));
    }

pub returns-clause-told : goal.returns-clause-told
returns-clause-told g c short f told =
    all_read f c.args.folder.now c.args.files.now c.args.names.now c.loop-name.all.items
    (subst (λ (ns : List Path). AreRead (IsIndexRead f c.args.folder.now c.args.files.now) ns c.loop-name.all.items) (take_all c.loop-name.name-index c.args.names.now c.loop-name-test.false) (c.loop-name.invariant.as_told short f told))
