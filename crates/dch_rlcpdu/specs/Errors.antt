-- The numbers of refusals.
use Rattle.std.specs.Prelude.{ℕ}
use Rattle.dch_rlcpdu.specs.declared.handed.PduError.{PduError}
use Rattle.dch_rlcpdu.specs.declared.handed.PduError.TheVariants.{Short, Reserved, Indicator, Sufi}

-- the number by which it is reported that octets are no PDU
abbrev pub error_number : PduError → ℕ
error_number Short = 1
error_number Reserved = 2
error_number Indicator = 3
error_number Sufi = 4
