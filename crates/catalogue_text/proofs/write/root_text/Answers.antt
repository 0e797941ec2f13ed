use Rattle.std.proofs.Common.{◌∙◌, ◌++◌, ap, string_bytes}
use Rattle.machine_state.specs.Values.{StateView}
use Rattle.catalogue_lines.specs.Pieces.{joined}
use Rattle.catalogue_text.specs.Root.{mirrors_pieces, repos_pieces, snapshots_pieces, root_text}
use Rattle.catalogue_publications.specs.PublicationLines.{publications_pieces}
use Rattle.catalogue_lines.proofs.ReadLemmas.{if_ok}
use Rattle.catalogue_text.proofs.RootWrites.{whole_text}
use Rattle.catalogue_text.proofs.write.root_text.Goals as goal

pub returns : goal.returns
returns c =
    let state : StateView = record { known = c.state.inside.known; mirrors = c.state.inside.mirrors.items; repos = c.state.inside.repos.items; snapshots = c.state.inside.snapshots.items; publications = c.state.inside.publications.items } in
    let mirrors = c.in_ok-put_mirrors.ensures ∙ ap (λ r. string_bytes c.put_known.new.out ++ joined (mirrors_pieces r)) c.deref.ensures.value in
    let repos = c.in_ok-put_repos.ensures ∙ ap (λ r. string_bytes c.put_mirrors.new.out ++ joined (repos_pieces r)) c.deref-2.ensures.value in
    let snapshots = c.in_ok-put_snapshots.ensures ∙ ap (λ s. string_bytes c.put_repos.new.out ++ joined (snapshots_pieces s)) c.deref-3.ensures.value in
    let publications = c.in_ok-put_publications.ensures ∙ ap (λ p. string_bytes c.put_snapshots.new.out ++ joined (publications_pieces p)) c.deref-4.ensures.value in
    if_ok _ _ (λ text e. e ∙ c.as_str.ensures.value ∙ whole_text state (string_bytes c.new-out.result) (string_bytes c.put_known.new.out) (string_bytes c.put_mirrors.new.out) (string_bytes c.put_repos.new.out) (string_bytes c.put_snapshots.new.out) (string_bytes c.put_publications.new.out) (string_bytes c.put_last.new.out)
    c.new-out.ensures.bytes c.in_ok-put_known.ensures mirrors repos snapshots publications c.in_ok-put_last.ensures ∙ ap root_text c.state.view_is)
    c.new.result c.new.ensures.same
