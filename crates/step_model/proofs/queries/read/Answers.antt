use Rattle.std.proofs.Common.{◌≡◌, List, ℕ, Ok, Err, subst}
use Rattle.query_grammar.specs.declared.fault.QueryFault.{QueryFault}
use Rattle.query_tree.specs.Tree.{plain}
use Rattle.query_grammar.specs.Said.{query_of, Says}
use Rattle.step_model.proofs.QueryLemmas.{bad_place}
use Rattle.step_model.proofs.queries.read.Goals as goal

pub returns-in-Ok-clause-tree : goal.returns-in-Ok-clause-tree
returns-in-Ok-clause-tree c = subst (λ (t : List ℕ). query_of t ≡ Ok (plain c.in-Ok.query)) c.as_str.ensures c.in-Ok.ensures.value

pub returns-in-Err-At-clause-fault : goal.returns-in-Err-At-clause-fault
returns-in-Err-At-clause-fault c =
    bad_place c.args.text.now c.args.number c.in-Err-At.place
    (subst (λ (t : List ℕ). query_of t ≡ Err c.in-Err-At.place) c.as_str.ensures
    (subst (λ (e : QueryFault). Says (query_of c.as_str.result.now) (Err e)) c.in-Err-At.field-0-is c.in-Err-At.ensures.value))
