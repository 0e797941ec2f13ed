use Rattle.std.proofs.Common.{◌≡◌, ◌++◌, ◌==◌, cond, drop}
use Rattle.query_tree.specs.Tree.{plains, listed}
use Rattle.query_tree.specs.Written.{alternatives, more_alternatives, members, more_members}
use Rattle.query_tree.proofs.write_tree.+write.Given as goal

abbrev pub invariant-put_alternatives-loop-i : goal.invariant-put_alternatives-loop-i
invariant-put_alternatives-loop-i l =
    l.out.items ++ cond (l.i == 0) (alternatives (listed (plains (drop l.i l.queries)))) (more_alternatives (listed (plains (drop l.i l.queries)))) ≡ l.initial.out.items ++ alternatives (listed (plains l.queries))

abbrev pub invariant-put_members-loop-i : goal.invariant-put_members-loop-i
invariant-put_members-loop-i l =
    l.out.items ++ cond (l.i == 0) (members (listed (plains (drop l.i l.queries)))) (more_members (listed (plains (drop l.i l.queries)))) ≡ l.initial.out.items ++ members (listed (plains l.queries))
