use Rattle.std.proofs.Common.{◌∙◌, ℕ, List, Ok, Result, None, ap, map, subst, sym}
use Rattle.std.proofs.lemmas.Result.{on_ok_weaker}
use Rattle.query_tree.specs.declared.query.Query.{Query}
use Rattle.query_tree.specs.Tree.{Tree, plains}
use Rattle.step_model.specs.Case.{conditions_behind}
use Rattle.step_model.specs.Refuses.{IsPick}
use Rattle.step_model.proofs.queries.prepared_all.Goals as goal

pub returns-clause-good : goal.returns-clause-good
returns-clause-good g c =
    on_ok_weaker c.prepare_queries.result
    (λ p. (c.in_ok-queries.ensures.good, subst (λ (queries : List (Result Tree ℕ)). IsPick None (conditions_behind 0 queries) None) (ap (λ (queries : List Query). map Ok (plains queries)) c.deref.ensures.value ∙ sym c.in_ok-queries.ensures.trees) p))
    c.prepare_queries.ensures.read
