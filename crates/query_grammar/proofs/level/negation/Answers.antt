use Rattle.std.proofs.Common.{ap, sym, ◌∙◌}
use Rattle.query_tree.specs.Tree.{Tree, plain, node_tree, negated}
use Rattle.query_tree.specs.declared.query.Query.TheVariants.{rolls-Not}
use Rattle.query_tree.specs.declared.query.Query.TheFolds.{fold-roll-Query}
use Rattle.query_grammar.proofs.level.negation.Goals as goal

pub returns : goal.returns
returns c =
    ap plain (sym (rolls-Not c.in_ok-new.field-0)) ∙ fold-roll-Query Tree node_tree _
    ∙ ap (λ q. negated (plain q)) c.in_ok-new.ensures.ok
