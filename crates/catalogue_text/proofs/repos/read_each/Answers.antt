use Rattle.std.proofs.Common.{[], List, sym, subst, arith}
use Rattle.machine_state.specs.declared.repo.Repo.{Repo}
use Rattle.machine_state.specs.Ascending.{IsAscending}
use Rattle.machine_state.specs.State.{repo_name, repo_cmp}
use Rattle.catalogue_text.specs.Root.{repo_pieces}
use Rattle.catalogue_text.specs.Grammar.{NextRepo}
use Rattle.catalogue_lines.specs.Reading.{Stops}
use Rattle.catalogue_text.specs.RootReading.{GoodRepo}
use Rattle.catalogue_lines.proofs.NameLemmas.{names_each}
use Rattle.catalogue_lines.proofs.ReadLemmas.{reads_more, if_before}
use Rattle.catalogue_text.proofs.RootReads.{stops_repos}
use Rattle.catalogue_text.proofs.repos.read_each.Goals as goal

pub read_repo-requires-clause-sorted : goal.read_repo-requires-clause-sorted
read_repo-requires-clause-sorted c = subst (IsAscending repo_cmp) (sym c.deref.ensures.value) (names_each repo_name (GoodRepo c.args.known.now.list) (λ done x g. g.name.1) [] c.loop-read.repos.items tt c.loop-read.invariant.good)

pub returns-in-Err-clause-stops : goal.returns-in-Err-clause-stops
returns-in-Err-clause-stops c =
    let i = c.loop-read.invariant in
    if_before _ _ (λ left s apart. stops_repos c.args.known.now.list apart c.args.count c.args.text.now c.loop-read.rest.now c.loop-read.repos.items left (let e = i.counted in omega arith) i.good i.takes
    (subst (λ (d : List Repo). Stops (NextRepo c.args.known.now.list d) c.loop-read.rest.now left) c.deref.ensures.value (s apart))) c.in-Err.stop c.in-Err.ensures.stops

pub loop-read-preserved : goal.loop-read-preserved
loop-read-preserved c =
    let i = c.loop-read.invariant in
    let h = c.in-Ok.ensures.read in
    let g = subst (λ (d : List Repo). GoodRepo c.args.known.now.list d c.in-Ok.repo) c.deref.ensures.value h.good in
    let r = reads_more repo_pieces (GoodRepo c.args.known.now.list) c.loop-read._read c.args.text.now c.loop-read.rest.now c.in-Ok.behind.now c.loop-read.repos.items _ c.in-Ok.repo (record { counted = i.counted; good = i.good; takes = i.takes }) g h.takes (c.in_ok-push-in-Ok.ensures.items) in
    record { counted = r.counted; good = r.good; takes = r.takes }
