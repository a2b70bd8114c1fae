-- What an unacknowledged bearer makes of the bits of a PDU.
use Rattle.std.proofs.Common.{◌≡◌, ◌∙◌, ℕ, List, [], true, false, Option, Some, None, Result, Ok, Err, sym, ap, subst}
use Rattle.std.specs.Prelude.{IsSome, option_map}
use Rattle.dch_bits.specs.declared.bit.Bit.{Bit}
use Rattle.dch_rlcpdu.specs.Um.{um_reading}
use Rattle.dch_rlcpdu.specs.declared.handed.PduError.{PduError}
use Rattle.dch_rlcpdu.specs.declared.um.UmView.{UmView}
use Rattle.dch_rlcum.specs.Receiving.{Receiving}
use Rattle.dch_layer2.specs.Octets.{AreOctets, bits_of, octets_of}
use Rattle.dch_layer2.specs.BearerValues.{UmRunning, heard_by, lines_in, lines_of, um_heard, um_lines}
use Rattle.dch_layer2.proofs.Small.{read_is}

-- the lines on it
pub lines_are : (v : UmRunning) (r : Receiving) (bits : List Bit) (octets : List ℕ) → bits ≡ bits_of octets → AreOctets octets → v.receiver ≡ Some r →
    um_lines (octets_of bits) v ≡ lines_of v.into v.number (um_reading octets) r
lines_are v r bits octets are small e = ap (λ o. um_lines o v) (read_is bits octets are small) ∙ ap (lines_in v.into v.number octets) e

-- and the receiver after it
pub heard_is : (v : UmRunning) (r now : Receiving) (bits : List Bit) (octets : List ℕ) → bits ≡ bits_of octets → AreOctets octets → v.receiver ≡ Some r →
    now ≡ heard_by (um_reading octets) r → record v { receiver = Some now } ≡ um_heard (octets_of bits) v
heard_is v r now bits octets are small e heard =
    ap (λ (o : Option Receiving). record v { receiver = o }) (ap Some heard ∙ sym (ap (option_map (heard_by (um_reading octets))) e))
    ∙ ap (λ o. um_heard o v) (sym (read_is bits octets are small))

-- one that receives has a receiver
pub has_receiver : (v now : UmRunning) → v ≡ now → v.receiver ≡ None → IsSome now.receiver → ⊥
has_receiver v now same none some =
    let h : false ≡ true = subst (λ (o : Option Receiving). IsSome o) (sym (ap (λ (x : UmRunning). x.receiver) same) ∙ none) some in
    absurd (cc)

-- no unit waits in it
pub heard_settled : (reading : Result UmView PduError) (r now : Receiving) → r.waiting ≡ [] → now ≡ heard_by reading r → now.waiting ≡ []
heard_settled (Ok view) r now settled is = ap (λ (x : Receiving). x.waiting) is
heard_settled (Err e) r now settled is = ap (λ (x : Receiving). x.waiting) is ∙ settled
