use Rattle.std.proofs.Common.{string_bytes}
use Rattle.std.specs.List.{flat_map}
use Rattle.catalogue_text.specs.Root.{mirror_pieces, mirrors_pieces}
use Rattle.catalogue_lines.specs.Pieces.{joined}
use Rattle.catalogue_lines.proofs.WriteLemmas.{on_ok, then_one}
use Rattle.catalogue_text.proofs.write_mirrors.put_mirrors.Goals as goal

pub returns : goal.returns
unfolding mirrors_pieces
returns c =
    on_ok c.put_each_mirror.result _ _
    (λ h. then_one (string_bytes c.args.out.now) (string_bytes c.put_count.new.out) _ _ (joined (flat_map mirror_pieces c.args.mirrors.now)) c.in_ok-put_count.ensures h) c.put_each_mirror.ensures
