use Rattle.std.proofs.Common.{string_bytes}
use Rattle.std.specs.List.{flat_map}
use Rattle.catalogue_text.specs.Root.{snapshot_pieces, snapshots_pieces}
use Rattle.catalogue_lines.specs.Pieces.{joined}
use Rattle.catalogue_lines.proofs.WriteLemmas.{on_ok, then_one}
use Rattle.catalogue_text.proofs.write.put_snapshots.Goals as goal

pub returns : goal.returns
unfolding snapshots_pieces
returns c =
    on_ok c.put_each_snapshot.result _ _
    (λ h. then_one (string_bytes c.args.out.now) (string_bytes c.put_count.new.out) _ _ (joined (flat_map snapshot_pieces c.args.snapshots.now)) c.in_ok-put_count.ensures h) c.put_each_snapshot.ensures
