use Rattle.ap_host.proofs.LegalLemmas as legal
use Rattle.ap_host.proofs.laws.law_of_absent.Goals as goal

pub returns : goal.returns
returns c = legal.law_of_absent
