use Rattle.std.proofs.Common.{rules}
use Rattle.std.proofs.lemmas.Fn.{always_returns_same}
use Rattle.machine_state.specs.Named.{name_cmp}
use Rattle.machine_state.proofs.named.place_of_name.Goals as goal

pub returns-clause-found : goal.returns-clause-found
returns-clause-found g c = c.binary_search_by.ensures.position (λ item. name_cmp g.T.Named.name_of item c.args.name.now) (always_returns_same _ _ _ (λ a r f' k. (search rules, search rules)))
