-- What is read of an uplink TTI that is kept as it was sent, or of which few cells are changed.
use Rattle.std.proofs.Common.{◌<◌, ℕ, List, length}
use Rattle.dch_bits.specs.declared.bit.Bit.{Bit}
use Rattle.dch_types.specs.declared.channel.Dir.TheVariants.{Up}
use Rattle.dch_accept.specs.Plans.{IsPlanned, Planned}
use Rattle.dch_tti.specs.RxFrames.{RxFrames}
use Rattle.dch_tti.proofs.Sent.{none_bad}
use Rattle.dch_ulphy.specs.Damaged.{WasDamaged}
use Rattle.dch_ulphy.specs.Read.{IsTtiRead}
use Rattle.dch_ulphy.specs.Sent.{WasSent}
use Rattle.dch_ulphy.proofs.Damaged.{damaged_arrives, damaged_give, none_damaged}
use Rattle.dch_runlaw.specs.SentRead.{IsReadAsSent}

pub uplink_damaged : (planned : Planned) (reader : RxFrames) (i f : ℕ) (blocks : List Bit) → IsPlanned planned → i < length planned.config.uplink.side.channels
    → WasDamaged planned reader i f blocks → IsReadAsSent planned Up (IsTtiRead planned) reader i f blocks
uplink_damaged planned reader i f blocks good inside is = record {
  good = λ n bad. none_bad planned.config.uplink.side reader i f n (damaged_give planned reader i f blocks inside is) bad;
  number = λ held read. (damaged_arrives planned reader i f blocks held good inside is read).0;
  arrives = λ held read. (damaged_arrives planned reader i f blocks held good inside is read).1;
}

pub uplink_sent : (planned : Planned) (reader : RxFrames) (i f : ℕ) (blocks : List Bit) → IsPlanned planned → i < length planned.config.uplink.side.channels
    → WasSent planned reader i f blocks → IsReadAsSent planned Up (IsTtiRead planned) reader i f blocks
uplink_sent planned reader i f blocks good inside was = uplink_damaged planned reader i f blocks good inside (none_damaged planned reader i f blocks good inside was)
