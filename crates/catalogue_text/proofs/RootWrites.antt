-- The text of a whole root.
use Rattle.std.proofs.Common.{◌≡◌, ℕ, ◌+◌, List, [], ◌++◌, sym, ap, ◌∙◌}
use Rattle.std.proofs.lemmas.List.Concat.{flat_map-append}
use Rattle.machine_state.specs.Values.{StateView}
use Rattle.catalogue_lines.specs.Pieces.{piece_text, joined}
use Rattle.catalogue_lines.specs.KnownForms.{known_pieces}
use Rattle.catalogue_text.specs.Root.{mirrors_pieces, repos_pieces, snapshots_pieces, last_pieces, root_pieces, root_text}
use Rattle.catalogue_publications.specs.PublicationLines.{publications_pieces}
use Rattle.catalogue_lines.proofs.WriteLemmas.{then_four}

-- ---- the whole root
root_joined : (state : StateView) → root_text state ≡ joined (known_pieces state.known) ++ (joined (mirrors_pieces state.mirrors) ++ (joined (repos_pieces state.repos) ++ (joined (snapshots_pieces state.snapshots) ++ (joined (publications_pieces state.publications) ++ joined last_pieces))))
unfolding root_text root_pieces
root_joined state =
    let publications = flat_map-append piece_text (publications_pieces state.publications) last_pieces in
    let snapshots = flat_map-append piece_text (snapshots_pieces state.snapshots) (publications_pieces state.publications ++ last_pieces) ∙ ap (λ t. joined (snapshots_pieces state.snapshots) ++ t) publications in
    let repos = flat_map-append piece_text (repos_pieces state.repos) (snapshots_pieces state.snapshots ++ (publications_pieces state.publications ++ last_pieces)) ∙ ap (λ t. joined (repos_pieces state.repos) ++ t) snapshots in
    let mirrors = flat_map-append piece_text (mirrors_pieces state.mirrors) (repos_pieces state.repos ++ (snapshots_pieces state.snapshots ++ (publications_pieces state.publications ++ last_pieces))) ∙ ap (λ t. joined (mirrors_pieces state.mirrors) ++ t) repos in
    flat_map-append piece_text (known_pieces state.known) (mirrors_pieces state.mirrors ++ (repos_pieces state.repos ++ (snapshots_pieces state.snapshots ++ (publications_pieces state.publications ++ last_pieces)))) ∙ ap (λ t. joined (known_pieces state.known) ++ t) mirrors

pub whole_text : (state : StateView) (o u v w x y z : List ℕ) → o ≡ [] → u ≡ o ++ joined (known_pieces state.known) → v ≡ u ++ joined (mirrors_pieces state.mirrors) → w ≡ v ++ joined (repos_pieces state.repos) → x ≡ w ++ joined (snapshots_pieces state.snapshots)
    → y ≡ x ++ joined (publications_pieces state.publications) → z ≡ y ++ joined last_pieces → z ≡ root_text state
whole_text state o u v w x y z n e f g h i j =
    then_four u v w x y z _ _ _ _ _ f g h i j
    ∙ ap (λ t. t ++ (joined (mirrors_pieces state.mirrors) ++ (joined (repos_pieces state.repos) ++ (joined (snapshots_pieces state.snapshots) ++ (joined (publications_pieces state.publications) ++ joined last_pieces))))) (e ∙ ap (λ t. t ++ joined (known_pieces state.known)) n)
    ∙ sym (root_joined state)
