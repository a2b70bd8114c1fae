-- How many indicators and octets a PDU has.
use Rattle.std.proofs.Common.{◌≡◌, ◌+◌, ℕ, List, [], ◌∷◌, Bool, Option, length, arith, refl, ap, subst, suc, length-append}
use Rattle.dch_rlcpdu.specs.Am.{IsAm}
use Rattle.dch_rlcpdu.specs.Indicators.{indicator_octets}
use Rattle.dch_rlcpdu.specs.Parts.{Content}
use Rattle.dch_rlcpdu.specs.declared.am.AmView.{AmView}
use Rattle.dch_rlcpdu.specs.declared.am.AmView.TheVariants.{Payload}
use Rattle.dch_rlcpdu.specs.Fields.{Field}

length-indicator_octets : (ms : List ℕ) → length (indicator_octets ms) ≡ length ms
length-indicator_octets [] = refl
length-indicator_octets (m ∷ ms) = ap suc (length-indicator_octets ms)

-- the indicators and the octets of a PDU are all but its header
pub payload_size : (p : List ℕ) (v : AmView) (sn : ℕ) (poll : Bool) (c : Content) (piggyback : Option (List Field)) → v ≡ Payload sn poll c piggyback → IsAm p v → length c.indicators + length c.octets + 2 ≡ length p
payload_size p v sn poll c piggyback e is =
    let pdu : IsAm p (Payload sn poll c piggyback) = subst (IsAm p) e is in
    omega (arith, ap length pdu.text, length-append (indicator_octets c.indicators) c.octets, length-indicator_octets c.indicators)
