use Rattle.query_grammar.proofs.Said.{filter_spelled, filter_read, filter_placed, filter_faulty, query_spelled, query_read, query_placed, query_faulty}
use Rattle.query_grammar.proofs.laws.queries_say_their_trees.Goals as goal

pub returns-clause-filter : goal.returns-clause-filter
returns-clause-filter c = λ text t. (filter_spelled text t, filter_read text t)

pub returns-clause-filter_place : goal.returns-clause-filter_place
returns-clause-filter_place c = λ text at. (filter_placed text at, λ h. filter_faulty text at h.0 h.1)

pub returns-clause-query : goal.returns-clause-query
returns-clause-query c = λ text t. (query_spelled text t, query_read text t)

pub returns-clause-query_place : goal.returns-clause-query_place
returns-clause-query_place c = λ text at. (query_placed text at, query_faulty text at)
