-- What a receiver tells, as the half octets of its control PDU (TS 25.322 9.2.1.5, 9.2.2.11).
use Rattle.std.specs.Prelude.{◌-◌, ℕ, List, ◌++◌, Bool, true, false, Option, Some, None}
use Rattle.dch_rlcpdu.specs.Writing.{mrw_ack_text, status_text}
use Rattle.dch_amrecv.specs.Holding.{Holding, lsn_told, pairs_told}

-- what is written where an MRW_ACK, or a status, is due
abbrev pub text_told : Option (ℕ × ℕ) → Bool → ℕ → Holding → List ℕ
text_told None plain bits h = status_text (pairs_told bits h) (lsn_told bits h)
text_told (Some a) false bits h = mrw_ack_text a.1 a.0
text_told (Some a) true bits h = mrw_ack_text a.1 a.0 ++ status_text (pairs_told (bits - 20) h) (lsn_told (bits - 20) h)
