-- Parts of a frame in octets whose front stayed as it was.
use Rattle.std.proofs.Common.{◌≡◌, ◌+◌, ◌-◌, ◌*◌, ◌/◌, ◌%◌, ◌<◌, ◌≤◌, ℕ, List, length, take, get_or, arith, ap, sym, subst, ◌∙◌}
use Rattle.std.specs.Prelude.{slice_index}
use Rattle.std.specs.Int.{div_ceil}
use Rattle.dch_bits.specs.declared.bit.Bit.{Bit}
use Rattle.dch_types.specs.declared.channel.Side.{Side}
use Rattle.dch_types.specs.Parts.{channel_at}
use Rattle.dch_coding.specs.Parity.{IsCheck, header_polynomial}
use Rattle.dch_accept.specs.HeldSets.{HeldSet, HasFormat, held_at}
use Rattle.dch_accept.specs.Padded.{bits_from, format_octets}
use Rattle.dch_iub.specs.Shape.{ForSet, sum_before, header_octets, number_place, blocks_end, blocks_place, octets_before, format_in}
use Rattle.dch_iub.specs.Forms.{IsHeader}
use Rattle.dch_iub.specs.Steps.{IsFront, AreNamed}
use Rattle.dch_iub.proofs.Fronts.{front_at, front_less, bits_from-front, all_packed_front}
use Rattle.dch_iub.proofs.Sums.{sum_before-fits, channel_octets}

-- the number of a channel of the set stands within the header
pub number_inside : (side : Side) (set i : ℕ) → i < length side.channels → (channel_at side i).set ≡ set → number_place side set i < header_octets side set
number_inside side set i inside member =
    let fits : sum_before side set (λ k. 1) i + 1 ≤ sum_before side set (λ k. 1) (length side.channels) = sum_before-fits side set (λ k. 1) i (length side.channels) inside member in
    omega (arith, fits)

pub named_front : (side : Side) (set : ℕ) (xs ys numbers : List ℕ) → take (header_octets side set) xs ≡ take (header_octets side set) ys
    → AreNamed side set ys numbers (length side.channels) → AreNamed side set xs numbers (length side.channels)
named_front side set xs ys numbers same named i inside member =
    front_at (header_octets side set) xs ys (number_place side set i) 0 (number_inside side set i inside member) same ∙ named i inside member

pub header_front : (side : Side) (set cfn : ℕ) (xs ys numbers : List ℕ) → take (header_octets side set) xs ≡ take (header_octets side set) ys → IsHeader side set ys cfn numbers → IsHeader side set xs cfn numbers
header_front side set cfn xs ys numbers same header =
    let n : ℕ = header_octets side set in
    let first : get_or xs 0 0 ≡ get_or ys 0 0 = front_at n xs ys 0 0 (omega arith) same in
    let bits : bits_from xs 7 (8 * n - 7) ≡ bits_from ys 7 (8 * n - 7) = bits_from-front n xs ys 7 (8 * n - 7) (omega arith) same in record {
      check = subst (λ (o : ℕ). IsCheck header_polynomial (bits_from xs 7 (8 * n - 7)) (o / 2)) (sym first)
          (subst (λ (bs : List Bit). IsCheck header_polynomial bs (get_or ys 0 0 / 2)) (sym bits) header.check);
      is_data = ap (λ o. o % 2) first ∙ header.is_data;
      named = front_at n xs ys 1 0 (omega arith) same ∙ header.named;
      formats = λ i inside member. ap (λ o. o % 32) (front_at n xs ys (number_place side set i) 0 (number_inside side set i inside member) same) ∙ header.formats i inside member;
    }

-- what a front needs to be carried over: the blocks have the formats of these numbers
pub record AreOf (side : Side) (set : ℕ) (numbers : List ℕ) (held : HeldSet) : Type 0 where
  pub numbered : (i : ℕ) → i < length side.channels → slice_index numbers i ≡ (held_at held.blocks i).format
  pub formats : ForSet side set (λ i. HasFormat (channel_at side i) (held_at held.blocks i))

-- the blocks of a channel of the set end before the end of all blocks
pub blocks_inside : (side : Side) (set : ℕ) (numbers : List ℕ) (held : HeldSet) (i : ℕ) → AreOf side set numbers held → i < length side.channels → (channel_at side i).set ≡ set
    → blocks_place side set numbers i + length (held_at held.blocks i).good * div_ceil (held_at held.blocks i).size 8 ≤ blocks_end side set numbers
blocks_inside side set numbers held i known inside member =
    let octets : length (held_at held.blocks i).good * div_ceil (held_at held.blocks i).size 8 ≡ format_octets (format_in side numbers i) =
    channel_octets (channel_at side i) (held_at held.blocks i) (slice_index numbers i) (known.formats i inside member) (sym (known.numbered i inside)) in
    let fits : octets_before side set numbers i + format_octets (format_in side numbers i) ≤ octets_before side set numbers (length side.channels) =
    sum_before-fits side set (λ k. format_octets (format_in side numbers k)) i (length side.channels) inside member in
    omega (arith, octets, fits)

pub front_front : (side : Side) (set cfn n : ℕ) (xs ys numbers : List ℕ) (held : HeldSet) → AreOf side set numbers held → blocks_end side set numbers ≤ n → take n xs ≡ take n ys
    → IsFront side set ys cfn numbers held → IsFront side set xs cfn numbers held
front_front side set cfn n xs ys numbers held known room same front =
    let header : take (header_octets side set) xs ≡ take (header_octets side set) ys = front_less (header_octets side set) n xs ys (omega arith) same in record {
      header = header_front side set cfn xs ys numbers header front.header;
      spare = named_front side set xs ys numbers header front.spare;
      blocks = λ i inside member.
          let fits = blocks_inside side set numbers held i known inside member in
          all_packed_front n xs ys (blocks_place side set numbers i) (length (held_at held.blocks i).good) (held_at held.blocks i) (omega (arith, fits)) same (front.blocks i inside member);
    }
