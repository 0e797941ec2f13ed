use Rattle.std.proofs.Common.{List, [], sym, subst}
use Rattle.machine_state.specs.declared.repo.Repo.{Repo}
use Rattle.machine_state.specs.declared.snapshot.Snapshot.{Snapshot}
use Rattle.machine_state.specs.Ascending.{IsAscending}
use Rattle.machine_state.specs.State.{repo_name, repo_cmp, snapshot_name, snapshot_cmp}
use Rattle.catalogue_publications.specs.PublicationLines.{publications_pieces}
use Rattle.catalogue_publications.specs.PublicationGrammar.{PublicationsPart}
use Rattle.catalogue_lines.specs.Reading.{Stops, ReadsPart}
use Rattle.catalogue_text.specs.RootReading.{GoodRepo, GoodSnapshot}
use Rattle.catalogue_publications.specs.PublicationReading.{GoodPublications}
use Rattle.catalogue_lines.proofs.ReadLemmas.{if_before}
use Rattle.catalogue_lines.proofs.NameLemmas.{names_each}
use Rattle.catalogue_text.proofs.StateLemmas.{ReadKnown, ReadMirrors, ReadRepos, ReadSnapshots, ReadPublications, AllRead, stops_in_known, stops_in_mirrors, stops_in_repos, stops_in_snapshots, stops_in_publications, stops_in_last, stops_at_end, found_state}
use Rattle.catalogue_text.proofs.read.read_state.Goals as goal

pub returns-in-Err-clause-stops : goal.returns-in-Err-clause-stops
returns-in-Err-clause-stops c = if_before _ _ (λ left s. stops_in_known c.args.bytes.now left s) c.in-Err.stop c.in-Err.ensures.stops

pub returns-in-Err-read_mirrors-clause-stops : goal.returns-in-Err-read_mirrors-clause-stops
returns-in-Err-read_mirrors-clause-stops c =
    let k : ReadKnown c.args.bytes.now c.in-Ok.head.1.now c.in-Ok.head.0.list = record { known_is = c.in-Ok.ensures.read } in
    if_before _ _ (λ left s. stops_in_mirrors c.args.bytes.now c.in-Ok.head.1.now c.in-Ok.head.0.list k left s) c.in-Err-read_mirrors.stop c.in-Err-read_mirrors.ensures.stops

pub returns-in-Err-read_repos-clause-stops : goal.returns-in-Err-read_repos-clause-stops
returns-in-Err-read_repos-clause-stops c =
    let k : ReadKnown c.args.bytes.now c.in-Ok.head.1.now c.in-Ok.head.0.list = record { known_is = c.in-Ok.ensures.read } in
    let m : ReadMirrors c.args.bytes.now c.in-Ok-read_mirrors.wanted.1.now c.in-Ok.head.0.list c.in-Ok-read_mirrors.wanted.0.items = record { mid = c.in-Ok.head.1.now; before = k; mirrors_are = c.in-Ok-read_mirrors.ensures.read } in
    if_before _ _ (λ left s. stops_in_repos c.args.bytes.now c.in-Ok-read_mirrors.wanted.1.now c.in-Ok.head.0.list c.in-Ok-read_mirrors.wanted.0.items m left s) c.in-Err-read_repos.stop c.in-Err-read_repos.ensures.stops

pub returns-in-Err-read_snapshots-clause-stops : goal.returns-in-Err-read_snapshots-clause-stops
returns-in-Err-read_snapshots-clause-stops c =
    let k : ReadKnown c.args.bytes.now c.in-Ok.head.1.now c.in-Ok.head.0.list = record { known_is = c.in-Ok.ensures.read } in
    let m : ReadMirrors c.args.bytes.now c.in-Ok-read_mirrors.wanted.1.now c.in-Ok.head.0.list c.in-Ok-read_mirrors.wanted.0.items = record { mid = c.in-Ok.head.1.now; before = k; mirrors_are = c.in-Ok-read_mirrors.ensures.read } in
    let r : ReadRepos c.args.bytes.now c.in-Ok-read_repos.body.1.now c.in-Ok.head.0.list c.in-Ok-read_mirrors.wanted.0.items c.in-Ok-read_repos.body.0.items = record { mid = c.in-Ok-read_mirrors.wanted.1.now; before = m; repos_are = c.in-Ok-read_repos.ensures.read } in
    if_before _ _ (λ left s. stops_in_snapshots c.args.bytes.now c.in-Ok-read_repos.body.1.now c.in-Ok.head.0.list c.in-Ok-read_mirrors.wanted.0.items c.in-Ok-read_repos.body.0.items r left s) c.in-Err-read_snapshots.stop c.in-Err-read_snapshots.ensures.stops

pub read_publications-requires-clause-repos : goal.read_publications-requires-clause-repos
read_publications-requires-clause-repos c =
    subst (IsAscending repo_cmp) (sym c.deref.ensures.value) (names_each repo_name (GoodRepo c.in-Ok.head.0.list) (λ done x g. g.name.1) [] c.in-Ok-read_repos.body.0.items tt c.in-Ok-read_repos.ensures.read.good.1)

pub read_publications-requires-clause-snapshots : goal.read_publications-requires-clause-snapshots
read_publications-requires-clause-snapshots c =
    subst (IsAscending snapshot_cmp) (sym c.deref-2.ensures.value) (names_each snapshot_name (GoodSnapshot c.in-Ok.head.0.list) (λ done x g. g.name.1) [] c.in-Ok-read_snapshots.frozen.0.items tt c.in-Ok-read_snapshots.ensures.read.good.1)

pub returns-in-Err-read_publications-clause-stops : goal.returns-in-Err-read_publications-clause-stops
returns-in-Err-read_publications-clause-stops c =
    let k : ReadKnown c.args.bytes.now c.in-Ok.head.1.now c.in-Ok.head.0.list = record { known_is = c.in-Ok.ensures.read } in
    let m : ReadMirrors c.args.bytes.now c.in-Ok-read_mirrors.wanted.1.now c.in-Ok.head.0.list c.in-Ok-read_mirrors.wanted.0.items = record { mid = c.in-Ok.head.1.now; before = k; mirrors_are = c.in-Ok-read_mirrors.ensures.read } in
    let r : ReadRepos c.args.bytes.now c.in-Ok-read_repos.body.1.now c.in-Ok.head.0.list c.in-Ok-read_mirrors.wanted.0.items c.in-Ok-read_repos.body.0.items = record { mid = c.in-Ok-read_mirrors.wanted.1.now; before = m; repos_are = c.in-Ok-read_repos.ensures.read } in
    let s : ReadSnapshots c.args.bytes.now c.in-Ok-read_snapshots.frozen.1.now c.in-Ok.head.0.list c.in-Ok-read_mirrors.wanted.0.items c.in-Ok-read_repos.body.0.items c.in-Ok-read_snapshots.frozen.0.items = record { mid = c.in-Ok-read_repos.body.1.now; before = r; snapshots_are = c.in-Ok-read_snapshots.ensures.read } in
    if_before _ _ (λ left stops. stops_in_publications c.args.bytes.now c.in-Ok-read_snapshots.frozen.1.now c.in-Ok.head.0.list c.in-Ok-read_mirrors.wanted.0.items c.in-Ok-read_repos.body.0.items c.in-Ok-read_snapshots.frozen.0.items s left
    (λ apart. subst (λ (rs : List Repo). Stops (PublicationsPart c.in-Ok.head.0.list rs c.in-Ok-read_snapshots.frozen.0.items) c.in-Ok-read_snapshots.frozen.1.now left) c.deref.ensures.value (subst (λ (ss : List Snapshot). Stops (PublicationsPart c.in-Ok.head.0.list c.deref.result.now ss) c.in-Ok-read_snapshots.frozen.1.now left) c.deref-2.ensures.value (stops apart))))
    c.in-Err-read_publications.stop c.in-Err-read_publications.ensures.stops

pub returns-in-Err-read_last-clause-stops : goal.returns-in-Err-read_last-clause-stops
returns-in-Err-read_last-clause-stops c =
    let k : ReadKnown c.args.bytes.now c.in-Ok.head.1.now c.in-Ok.head.0.list = record { known_is = c.in-Ok.ensures.read } in
    let m : ReadMirrors c.args.bytes.now c.in-Ok-read_mirrors.wanted.1.now c.in-Ok.head.0.list c.in-Ok-read_mirrors.wanted.0.items = record { mid = c.in-Ok.head.1.now; before = k; mirrors_are = c.in-Ok-read_mirrors.ensures.read } in
    let r : ReadRepos c.args.bytes.now c.in-Ok-read_repos.body.1.now c.in-Ok.head.0.list c.in-Ok-read_mirrors.wanted.0.items c.in-Ok-read_repos.body.0.items = record { mid = c.in-Ok-read_mirrors.wanted.1.now; before = m; repos_are = c.in-Ok-read_repos.ensures.read } in
    let s : ReadSnapshots c.args.bytes.now c.in-Ok-read_snapshots.frozen.1.now c.in-Ok.head.0.list c.in-Ok-read_mirrors.wanted.0.items c.in-Ok-read_repos.body.0.items c.in-Ok-read_snapshots.frozen.0.items = record { mid = c.in-Ok-read_repos.body.1.now; before = r; snapshots_are = c.in-Ok-read_snapshots.ensures.read } in
    let p : ReadPublications c.args.bytes.now c.in-Ok-read_publications.published.1.now c.in-Ok.head.0.list c.in-Ok-read_mirrors.wanted.0.items c.in-Ok-read_repos.body.0.items c.in-Ok-read_snapshots.frozen.0.items c.in-Ok-read_publications.published.0.items = record { mid = c.in-Ok-read_snapshots.frozen.1.now; before = s; publications_are = subst (λ (rs : List Repo). ReadsPart publications_pieces (GoodPublications c.in-Ok.head.0.list rs c.in-Ok-read_snapshots.frozen.0.items) c.in-Ok-read_snapshots.frozen.1.now c.in-Ok-read_publications.published.0.items c.in-Ok-read_publications.published.1.now) c.deref.ensures.value (subst (λ (ss : List Snapshot). ReadsPart publications_pieces (GoodPublications c.in-Ok.head.0.list c.deref.result.now ss) c.in-Ok-read_snapshots.frozen.1.now c.in-Ok-read_publications.published.0.items c.in-Ok-read_publications.published.1.now) c.deref-2.ensures.value c.in-Ok-read_publications.ensures.read) } in
    stops_in_last c.args.bytes.now c.in-Ok-read_publications.published.1.now c.in-Ok.head.0.list c.in-Ok-read_mirrors.wanted.0.items c.in-Ok-read_repos.body.0.items c.in-Ok-read_snapshots.frozen.0.items c.in-Ok-read_publications.published.0.items p c.in-Err-read_last.left c.in-Err-read_last.ensures

pub returns-then-not-is_at_end-clause-stops : goal.returns-then-not-is_at_end-clause-stops
returns-then-not-is_at_end-clause-stops c =
    let k : ReadKnown c.args.bytes.now c.in-Ok.head.1.now c.in-Ok.head.0.list = record { known_is = c.in-Ok.ensures.read } in
    let m : ReadMirrors c.args.bytes.now c.in-Ok-read_mirrors.wanted.1.now c.in-Ok.head.0.list c.in-Ok-read_mirrors.wanted.0.items = record { mid = c.in-Ok.head.1.now; before = k; mirrors_are = c.in-Ok-read_mirrors.ensures.read } in
    let r : ReadRepos c.args.bytes.now c.in-Ok-read_repos.body.1.now c.in-Ok.head.0.list c.in-Ok-read_mirrors.wanted.0.items c.in-Ok-read_repos.body.0.items = record { mid = c.in-Ok-read_mirrors.wanted.1.now; before = m; repos_are = c.in-Ok-read_repos.ensures.read } in
    let s : ReadSnapshots c.args.bytes.now c.in-Ok-read_snapshots.frozen.1.now c.in-Ok.head.0.list c.in-Ok-read_mirrors.wanted.0.items c.in-Ok-read_repos.body.0.items c.in-Ok-read_snapshots.frozen.0.items = record { mid = c.in-Ok-read_repos.body.1.now; before = r; snapshots_are = c.in-Ok-read_snapshots.ensures.read } in
    let p : ReadPublications c.args.bytes.now c.in-Ok-read_publications.published.1.now c.in-Ok.head.0.list c.in-Ok-read_mirrors.wanted.0.items c.in-Ok-read_repos.body.0.items c.in-Ok-read_snapshots.frozen.0.items c.in-Ok-read_publications.published.0.items = record { mid = c.in-Ok-read_snapshots.frozen.1.now; before = s; publications_are = subst (λ (rs : List Repo). ReadsPart publications_pieces (GoodPublications c.in-Ok.head.0.list rs c.in-Ok-read_snapshots.frozen.0.items) c.in-Ok-read_snapshots.frozen.1.now c.in-Ok-read_publications.published.0.items c.in-Ok-read_publications.published.1.now) c.deref.ensures.value (subst (λ (ss : List Snapshot). ReadsPart publications_pieces (GoodPublications c.in-Ok.head.0.list c.deref.result.now ss) c.in-Ok-read_snapshots.frozen.1.now c.in-Ok-read_publications.published.0.items c.in-Ok-read_publications.published.1.now) c.deref-2.ensures.value c.in-Ok-read_publications.ensures.read) } in
    let w : AllRead c.args.bytes.now c.in-Ok-read_last.rest.now c.in-Ok.head.0.list c.in-Ok-read_mirrors.wanted.0.items c.in-Ok-read_repos.body.0.items c.in-Ok-read_snapshots.frozen.0.items c.in-Ok-read_publications.published.0.items = record { mid = c.in-Ok-read_publications.published.1.now; before = p; closed = c.in-Ok-read_last.ensures } in
    stops_at_end c.args.bytes.now c.in-Ok-read_last.rest.now c.in-Ok.head.0.list c.in-Ok-read_mirrors.wanted.0.items c.in-Ok-read_repos.body.0.items c.in-Ok-read_snapshots.frozen.0.items c.in-Ok-read_publications.published.0.items w c.is_at_end.result c.if-not-is_at_end.true c.is_at_end.ensures

pub returns-clause-found : goal.returns-clause-found
returns-clause-found c =
    let k : ReadKnown c.args.bytes.now c.in-Ok.head.1.now c.in-Ok.head.0.list = record { known_is = c.in-Ok.ensures.read } in
    let m : ReadMirrors c.args.bytes.now c.in-Ok-read_mirrors.wanted.1.now c.in-Ok.head.0.list c.in-Ok-read_mirrors.wanted.0.items = record { mid = c.in-Ok.head.1.now; before = k; mirrors_are = c.in-Ok-read_mirrors.ensures.read } in
    let r : ReadRepos c.args.bytes.now c.in-Ok-read_repos.body.1.now c.in-Ok.head.0.list c.in-Ok-read_mirrors.wanted.0.items c.in-Ok-read_repos.body.0.items = record { mid = c.in-Ok-read_mirrors.wanted.1.now; before = m; repos_are = c.in-Ok-read_repos.ensures.read } in
    let s : ReadSnapshots c.args.bytes.now c.in-Ok-read_snapshots.frozen.1.now c.in-Ok.head.0.list c.in-Ok-read_mirrors.wanted.0.items c.in-Ok-read_repos.body.0.items c.in-Ok-read_snapshots.frozen.0.items = record { mid = c.in-Ok-read_repos.body.1.now; before = r; snapshots_are = c.in-Ok-read_snapshots.ensures.read } in
    let p : ReadPublications c.args.bytes.now c.in-Ok-read_publications.published.1.now c.in-Ok.head.0.list c.in-Ok-read_mirrors.wanted.0.items c.in-Ok-read_repos.body.0.items c.in-Ok-read_snapshots.frozen.0.items c.in-Ok-read_publications.published.0.items = record { mid = c.in-Ok-read_snapshots.frozen.1.now; before = s; publications_are = subst (λ (rs : List Repo). ReadsPart publications_pieces (GoodPublications c.in-Ok.head.0.list rs c.in-Ok-read_snapshots.frozen.0.items) c.in-Ok-read_snapshots.frozen.1.now c.in-Ok-read_publications.published.0.items c.in-Ok-read_publications.published.1.now) c.deref.ensures.value (subst (λ (ss : List Snapshot). ReadsPart publications_pieces (GoodPublications c.in-Ok.head.0.list c.deref.result.now ss) c.in-Ok-read_snapshots.frozen.1.now c.in-Ok-read_publications.published.0.items c.in-Ok-read_publications.published.1.now) c.deref-2.ensures.value c.in-Ok-read_publications.ensures.read) } in
    let w : AllRead c.args.bytes.now c.in-Ok-read_last.rest.now c.in-Ok.head.0.list c.in-Ok-read_mirrors.wanted.0.items c.in-Ok-read_repos.body.0.items c.in-Ok-read_snapshots.frozen.0.items c.in-Ok-read_publications.published.0.items = record { mid = c.in-Ok-read_publications.published.1.now; before = p; closed = c.in-Ok-read_last.ensures } in
    found_state c.args.bytes.now c.in-Ok-read_last.rest.now c.in-Ok.head.0.list c.in-Ok-read_mirrors.wanted.0.items c.in-Ok-read_repos.body.0.items c.in-Ok-read_snapshots.frozen.0.items c.in-Ok-read_publications.published.0.items w c.is_at_end.result c.if-not-is_at_end.false c.is_at_end.ensures
