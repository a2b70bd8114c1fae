-- The coded bits of a block by their places.
use Rattle.std.proofs.Common.{◌≡◌, ◌+◌, ◌*◌, ◌/◌, ◌%◌, ◌<◌, ℕ, List, length, get_or, arith, ap₂}
use Rattle.std.proofs.lemmas.List.FromFn.{length-map-range_with_len, get_or-map-range_with_len, fill_by_all}
use Rattle.dch_bits.specs.declared.bit.Bit.{Bit}
use Rattle.dch_bits.specs.declared.bit.Bit.TheVariants.{Zero}
use Rattle.dch_bits.specs.Bits.{bit_of_number}
use Rattle.dch_coding.specs.declared.rate.Rate.{Rate}
use Rattle.dch_coding.specs.declared.rate.Rate.TheVariants.{Half, Third}
use Rattle.dch_coding.specs.Conv.{outputs, coded, coded_bit, coded_length, encoded}

pub length-encoded : (rate : Rate) (block : List Bit) → length (encoded rate block) ≡ coded_length rate (length block)
unfolding encoded
length-encoded rate block = length-map-range_with_len (coded_bit rate block) 0 (coded_length rate (length block))

-- what stands at each place
pub encoded-at : (rate : Rate) (block : List Bit) (i : ℕ) → i < coded_length rate (length block) → get_or (encoded rate block) i Zero ≡ coded_bit rate block i
unfolding encoded
encoded-at rate block i within = get_or-map-range_with_len (coded_bit rate block) 0 (coded_length rate (length block)) i i Zero within (omega arith)

-- coded bit t of step k stands at place t of that step
pub coded_bit-at : (rate : Rate) (block : List Bit) (k t i : ℕ) → t < outputs rate → i ≡ outputs rate * k + t → coded_bit rate block i ≡ bit_of_number (coded rate block k t)
coded_bit-at Half block k t i within same =
    let step : i / 2 ≡ k = omega arith in
    let place : i % 2 ≡ t = omega arith in
    ap₂ (λ step place. bit_of_number (coded Half block step place)) step place
coded_bit-at Third block k t i within same =
    let step : i / 3 ≡ k = omega arith in
    let place : i % 3 ≡ t = omega arith in
    ap₂ (λ step place. bit_of_number (coded Third block step place)) step place

-- a list with the coded bit at each place is the code
pub encoded-by_places : (rate : Rate) (block out : List Bit) → length out ≡ coded_length rate (length block) → ((i : ℕ) → i < length out → get_or out i Zero ≡ coded_bit rate block i) → out ≡ encoded rate block
unfolding encoded
encoded-by_places rate block out sized places = fill_by_all (coded_bit rate block) out (coded_length rate (length block)) Zero sized (λ i within. places i (omega arith))
