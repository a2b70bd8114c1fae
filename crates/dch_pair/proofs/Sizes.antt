-- A PDU that was read is small.
use Rattle.std.proofs.Common.{◌≤◌, ℕ, List, length, arith, refl}
use Rattle.dch_rlcpdu.specs.declared.am.AmView.{AmView}
use Rattle.dch_rlcpdu.specs.declared.am.AmView.TheVariants.{Payload, Status, Reset, ResetAck}
use Rattle.dch_rlcpdu.specs.Am.{IsAm}
use Rattle.dch_am.specs.Entities.{IsSmall}
use Rattle.dch_amrecv.proofs.Texts.{payload_size}

pub read_small : (p : List ℕ) (v : AmView) (size : ℕ) → IsAm p v → length p ≤ size → IsSmall size v
read_small p (Payload sn poll c piggyback) size is le = (is.number, omega (arith, payload_size p (Payload sn poll c piggyback) sn poll c piggyback refl is, le))
read_small p (Status fields) size is le = tt
read_small p (Reset rsn hfni) size is le = tt
read_small p (ResetAck rsn hfni) size is le = tt
