use Rattle.dch_script.proofs.Decimals.{number_is_decimal}
use Rattle.dch_script.proofs.numbers.decimal_law.Goals as goal

pub returns : goal.returns
returns c = number_is_decimal
