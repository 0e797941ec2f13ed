use Rattle.std.proofs.Common.{ap, sym, ◌∙◌}
use Rattle.query_tree.specs.Tree.{Tree, plain, node_tree}
use Rattle.query_tree.specs.declared.query.Query.TheVariants.{rolls-All}
use Rattle.query_tree.specs.declared.query.Query.TheFolds.{fold-roll-Query}
use Rattle.query_grammar.proofs.level.all_together.Goals as goal

pub returns : goal.returns
returns c = ap plain (sym (rolls-All c.args.members)) ∙ fold-roll-Query Tree node_tree _
