use Rattle.std.proofs.Common.{arith, lit<}
use Rattle.std.proofs.lemmas.Fmt.{length-decimal-le}
use Rattle.ap_text.proofs.JoinLemmas.{name_decimal}
use Rattle.ap_text.proofs.laws.decimals_are_names.Goals as goal

pub returns : goal.returns
returns c = λ n h. (name_decimal n h, length-decimal-le 20 n (lit< tt) (omega arith) h)
