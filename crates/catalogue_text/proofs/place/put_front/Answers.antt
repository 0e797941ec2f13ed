use Rattle.std.proofs.Common.{◌++◌, ◌∙◌, ap, sym, string_bytes}
use Rattle.catalogue_lines.specs.KnownForms.{known_pieces}
use Rattle.catalogue_text.specs.Root.{mirrors_pieces, repos_pieces, snapshots_pieces}
use Rattle.catalogue_lines.proofs.WriteLemmas.{join_four, on_ok, then_one, then_two}
use Rattle.catalogue_text.proofs.place.put_front.Goals as goal

pub returns : goal.returns
returns c =
    let out = string_bytes c.args.out.now in
    let u = string_bytes c.put_known.new.out in
    let v = string_bytes c.put_mirrors.new.out in
    let w = string_bytes c.put_repos.new.out in
    on_ok c.put_snapshots.result _ _
    (λ h. then_two out u v (string_bytes c.put_snapshots.new.out) _ _ _ c.in_ok-put_known.ensures c.in_ok-put_mirrors.ensures
    (then_one v w (string_bytes c.put_snapshots.new.out) _ _ c.in_ok-put_repos.ensures h)
    ∙ ap (λ t. out ++ t) (sym (join_four (known_pieces c.args.known.now) (mirrors_pieces c.args.mirrors.now) (repos_pieces c.args.repos.now) (snapshots_pieces c.args.snapshots.now))))
    c.put_snapshots.ensures
