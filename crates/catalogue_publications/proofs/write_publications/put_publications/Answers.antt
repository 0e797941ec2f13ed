use Rattle.std.proofs.Common.{string_bytes}
use Rattle.std.specs.List.{flat_map}
use Rattle.catalogue_lines.specs.Pieces.{joined}
use Rattle.catalogue_publications.specs.PublicationLines.{publication_pieces, publications_pieces}
use Rattle.catalogue_lines.proofs.WriteLemmas.{on_ok, then_one}
use Rattle.catalogue_publications.proofs.write_publications.put_publications.Goals as goal

pub returns : goal.returns
unfolding publications_pieces
returns c =
    on_ok c.put_each.result _ _
    (λ h. then_one (string_bytes c.args.out.now) (string_bytes c.put_count.new.out) _ _ (joined (flat_map publication_pieces c.args.publications.now)) c.in_ok-put_count.ensures h) c.put_each.ensures
