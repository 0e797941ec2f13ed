use Rattle.std.proofs.Common.{◌≡◌, ◌++◌, take, map, string_bytes}
use Rattle.std.specs.Rc.{rc_value}
use Rattle.catalogue_lines.specs.Pieces.{alone, joined}
use Rattle.catalogue_lines.specs.SetLines.{id_of}
use Rattle.catalogue_lines.proofs.write_packages.put_ids.Given as goal

abbrev pub invariant-loop-member : goal.invariant-loop-member
invariant-loop-member l = string_bytes l.out ≡ string_bytes l.fn.out ++ joined (map (λ p. alone (id_of p)) (map rc_value (take l.member-index l.member-items)))
