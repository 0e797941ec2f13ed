use Rattle.std.proofs.Common.{string_bytes}
use Rattle.catalogue_lines.specs.Pieces.{packed}
use Rattle.catalogue_lines.proofs.WriteLemmas.{put_more}
use Rattle.catalogue_lines.proofs.write_packages.put_packages.Goals as goal

pub loop-i-preserved : goal.loop-i-preserved
loop-i-preserved c = put_more packed c.args.known.now c.loop-i.i c.in-Some.package.now (string_bytes c.args.out.now) (string_bytes c.loop-i.out) _ c.in-Some.ensures c.loop-i.invariant c.in_ok-put_package.ensures
