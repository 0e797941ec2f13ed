use Rattle.std.proofs.Common.{arith}
use Rattle.control_stanza.proofs.NameLemmas.{lists_go_on, length_go_on}
use Rattle.control_stanza.proofs.gathered.Gathered.with_line.Goals as goal

pub invariant_of-result : goal.invariant_of-result
invariant_of-result c =
    let same = length_go_on c.self.inside.stanza c.args.more.now in
    rw c.in_ok-stanza.ensures (omega (arith, same, c.self.invariant.0), λ name. lists_go_on c.self.inside.names c.self.inside.stanza c.args.more.now c.self.inside.listed c.self.invariant.1 name)
