use Rattle.hash_pool.proofs.NameLemmas.{law_of_pool_names}
use Rattle.hash_pool.proofs.laws.law_of_pool_names.Goals as goal

pub returns : goal.returns
returns c = law_of_pool_names
