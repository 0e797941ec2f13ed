use Rattle.std.proofs.Common.{rules}
use Rattle.std.proofs.lemmas.Fn.{always_returns_same}
use Rattle.machine_state.specs.State.{place_cmp}
use Rattle.machine_state.proofs.publication.place_of_publication.Goals as goal

pub returns-clause-found : goal.returns-clause-found
returns-clause-found c = c.binary_search_by.ensures.position (λ publication. place_cmp publication c.args.prefix.now c.args.dist.now) (always_returns_same _ _ _ (λ a r f' k. (search rules, search rules)))
