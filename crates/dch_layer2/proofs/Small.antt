-- A PDU that was read is small.
use Rattle.std.proofs.Common.{◌≡◌, ◌≤◌, ◌+◌, ◌∙◌, ℕ, suc, List, [], ◌∷◌, length, arith, refl, ap, length-append}
use Rattle.dch_bits.specs.declared.bit.Bit.{Bit}
use Rattle.dch_rlcpdu.specs.Indicators.{indicator_octets}
use Rattle.dch_rlcpdu.specs.Um.{IsUm}
use Rattle.dch_rlcpdu.specs.declared.um.UmView.{UmView}
use Rattle.dch_layer2.specs.Octets.{AreOctets, bits_of, octets_of}
use Rattle.dch_layer2.proofs.Octets.{octets_back}

length-indicator_octets : (ms : List ℕ) → length (indicator_octets ms) ≡ length ms
length-indicator_octets [] = refl
length-indicator_octets (m ∷ ms) = ap suc (length-indicator_octets ms)

pub um_small : (p : List ℕ) (v : UmView) → IsUm p v → length p ≤ 125 → length v.body.indicators + length v.body.octets ≤ 124
um_small p v is few = omega (arith, few, ap length is.text, length-append (indicator_octets v.body.indicators) v.body.octets, length-indicator_octets v.body.indicators)

-- bits are the octets that they write
pub read_is : (bits : List Bit) (octets : List ℕ) → bits ≡ bits_of octets → AreOctets octets → octets_of bits ≡ octets
read_is bits octets are small = ap octets_of are ∙ octets_back octets small
