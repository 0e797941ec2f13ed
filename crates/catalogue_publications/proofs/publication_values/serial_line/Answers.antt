use Rattle.std.proofs.Common.{codes, ◌++◌, arith}
use Rattle.std.specs.Fmt.{decimal}
use Rattle.std.proofs.lemmas.Fmt.{decimal_injective}
use Rattle.std.proofs.lemmas.List.{append_cancel_left}
use Rattle.std.proofs.lemmas.Bool.Decides.{nat_tests}
use Rattle.catalogue_lines.proofs.LineLemmas.{line_unique}
use Rattle.catalogue_publications.proofs.publication_values.serial_line.Goals as goal

pub returns-in-None : goal.returns-in-None
returns-in-None c = λ a behind g l. c.in-None.ensures a behind (let n = c.number.ensures in let m = g.last in omega arith) l

pub returns-then-serial-eq0 : goal.returns-then-serial-eq0
returns-then-serial-eq0 c = λ a behind g l.
    let read = c.in-Some.ensures in
    let n = c.number.ensures in
    let m = g.last in
    let f = g.first in
    let few = read.0 in
    let cut = line_unique c.args.text.now (codes "serial " ++ decimal c.in-Some.serial) (codes "serial " ++ decimal a) c.in-Some.rest.now behind read.1 l in
    let same = decimal_injective c.in-Some.serial a (omega arith) (omega arith) (append_cancel_left (codes "serial ") _ _ cut.0) in
    let z = c.if-serial-eq0.true in
    grind (arith, nat_tests)
