use Rattle.hash_pool.proofs.GrowthLemmas.{law_of_growth}
use Rattle.hash_pool.proofs.laws.law_of_growth.Goals as goal

pub returns : goal.returns
returns c = law_of_growth
