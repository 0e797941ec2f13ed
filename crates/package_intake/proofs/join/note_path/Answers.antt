use Rattle.std.proofs.Common.{sym}
use Rattle.package_core.proofs.OrderLaws.{package_total}
use Rattle.package_intake.proofs.MapLemmas.{noted_before, noted_now}
use Rattle.package_intake.proofs.join.note_path.Goals as goal

pub returns-then-contains_key : goal.returns-then-contains_key
returns-then-contains_key c q = noted_before package_total c.args.paths.now c.args.one c.args.path q (sym c.if-contains_key.ensures)

pub returns : goal.returns
returns c q = noted_now package_total c.args.paths.now c.insert.new.self c.args.one c.args.path q (sym c.if-contains_key.ensures) (c.in_ok-insert.ensures.updates.0 q)
