use Rattle.ap_text.proofs.DecimalLemmas.{decimal_is_number, number_is_decimal}
use Rattle.ap_text.proofs.laws.numbers_are_decimals.Goals as goal

pub returns : goal.returns
returns c = record { written = decimal_is_number; only = number_is_decimal }
