use Rattle.std.proofs.Common.{◌++◌, ◌∙◌, suc, ap}
use Rattle.machine_state.specs.Values.{StateView}
use Rattle.catalogue_lines.specs.Lines.{line_ends}
use Rattle.catalogue_text.specs.Places.{front_pieces, publications_place}
use Rattle.catalogue_lines.specs.Pieces.{joined}
use Rattle.catalogue_lines.specs.KnownForms.{known_pieces}
use Rattle.catalogue_text.specs.Root.{mirrors_pieces, repos_pieces, snapshots_pieces}
use Rattle.catalogue_text.proofs.place.publications_line.Goals as goal

pub returns : goal.returns
unfolding publications_place front_pieces
returns c =
    let known = known_pieces c.state.inside.known in
    let front = ap (λ m. joined (known ++ (mirrors_pieces m ++ (repos_pieces c.deref-2.result.now ++ snapshots_pieces c.deref-3.result.now)))) c.deref.ensures.value
    ∙ ap (λ r. joined (known ++ (mirrors_pieces c.state.inside.mirrors.items ++ (repos_pieces r ++ snapshots_pieces c.deref-3.result.now)))) c.deref-2.ensures.value
    ∙ ap (λ s. joined (known ++ (mirrors_pieces c.state.inside.mirrors.items ++ (repos_pieces c.state.inside.repos.items ++ snapshots_pieces s)))) c.deref-3.ensures.value in
    let text = c.in_ok-put_front.ensures ∙ ap (λ t. t ++ joined (known ++ (mirrors_pieces c.deref.result.now ++ (repos_pieces c.deref-2.result.now ++ snapshots_pieces c.deref-3.result.now)))) c.new-out.ensures.bytes in
    c.next_line.ensures ∙ ap (λ t. suc (line_ends t)) (c.as_bytes.ensures.value ∙ c.as_str.ensures.value ∙ text ∙ front) ∙ ap (λ (s : StateView). publications_place s) c.state.view_is
