use Rattle.std.proofs.Common.{◌≡◌, ◌⊎◌, ◌↔◌, OnOk, subst}
use Rattle.ap_host.specs.Disk.{Path}
use Rattle.ap_host.specs.Names.{IsOneOf}
use Rattle.ap_host.proofs.names.insert_copy.Goals as goal

pub returns-clause-each : goal.returns-clause-each
returns-clause-each c =
    subst (λ (p : Path). OnOk c.insert_name.result ((q : Path) → IsOneOf q c.insert_name.new.names.items ↔ ((q ≡ p) ⊎ IsOneOf q c.args.names.now.items))) c.in_ok-path.ensures c.insert_name.ensures.each
