-- Room for the greatest TTI is room for each.
use Rattle.std.proofs.Common.{◌≡◌, ◌≢◌, ◌+◌, ◌<◌, ◌≤◌, ℕ, zero, suc, length, refl, sym, subst, arith, add-one, inl, inr}
use Rattle.std.proofs.lemmas.Bool.{cases_eq}
use Rattle.dch_types.specs.declared.channel.Coding.{Coding}
use Rattle.dch_types.specs.declared.channel.Coding.TheVariants.{Uncoded, Half, Third}
use Rattle.dch_types.specs.declared.channel.Side.{Side}
use Rattle.dch_types.specs.declared.channel.Trch.{Trch}
use Rattle.dch_types.specs.Lengths.{block_count, block_size, joined_bits}
use Rattle.dch_types.specs.Parts.{channel_at, format_at}
use Rattle.dch_coding.proofs.Sizes.{size_short}
use Rattle.dch_coding.specs.Rooms.{Holds, HoldsSide, channel_room, channels_room, format_room, formats_room, no_room, searched_bits, side_room, wider}
use Rattle.dch_coding.specs.declared.room.CodingRoom.{CodingRoom}

pub formats_room-zero : (channel : Trch) → formats_room channel 0 ≡ no_room
unfolding formats_room
formats_room-zero channel = refl

pub formats_room-more : (channel : Trch) (f : ℕ) → formats_room channel (f + 1) ≡ wider (formats_room channel f) (format_room channel (format_at channel f))
unfolding formats_room
formats_room-more channel f = rw add-one refl

pub channels_room-zero : (side : Side) → channels_room side 0 ≡ no_room
unfolding channels_room
channels_room-zero side = refl

pub channels_room-more : (side : Side) (i : ℕ) → channels_room side (i + 1) ≡ wider (channels_room side i) (channel_room (channel_at side i))
unfolding channels_room
channels_room-more side i = rw add-one refl

pub holds_over : (one other need : CodingRoom) → Holds one other → Holds other need → Holds one need
holds_over one other need over is = record { bits = omega arith; code_block = omega arith }

holds_first : (one other : CodingRoom) → Holds (wider one other) one
holds_first one other = record { bits = omega arith; code_block = omega arith }

holds_second : (one other : CodingRoom) → Holds (wider one other) other
holds_second one other = record { bits = omega arith; code_block = omega arith }

-- of a channel
format_held : (channel : Trch) (f n : ℕ) → f < n → Holds (formats_room channel n) (format_room channel (format_at channel f))
unfolding formats_room
format_held channel f zero inside = absurd (omega arith)
format_held channel f (suc n) inside = elim (cases_eq f n) [
  | inl same ↦ subst (λ k. Holds (wider (formats_room channel n) (format_room channel (format_at channel n))) (format_room channel (format_at channel k))) (sym same)
      (holds_second (formats_room channel n) (format_room channel (format_at channel n)))
  | inr other ↦ holds_over _ (formats_room channel n) _ (holds_first (formats_room channel n) (format_room channel (format_at channel n))) (format_held channel f n (omega (arith, other)))
]

pub holds_channel : (channel : Trch) (f : ℕ) → f < length channel.formats → Holds (channel_room channel) (format_room channel (format_at channel f))
holds_channel channel f inside = format_held channel f (length channel.formats) inside

-- and of a direction
channel_held : (side : Side) (i n : ℕ) → i < n → Holds (channels_room side n) (channel_room (channel_at side i))
unfolding channels_room
channel_held side i zero inside = absurd (omega arith)
channel_held side i (suc n) inside = elim (cases_eq i n) [
  | inl same ↦ subst (λ k. Holds (wider (channels_room side n) (channel_room (channel_at side n))) (channel_room (channel_at side k))) (sym same)
      (holds_second (channels_room side n) (channel_room (channel_at side n)))
  | inr other ↦ holds_over _ (channels_room side n) _ (holds_first (channels_room side n) (channel_room (channel_at side n))) (channel_held side i n (omega (arith, other)))
]

pub holds_channels : (side : Side) (i : ℕ) → i < length side.channels → Holds (side_room side) (channel_room (channel_at side i))
holds_channels side i inside = channel_held side i (length side.channels) inside

pub holds_side : (side : Side) → HoldsSide (side_room side) side
holds_side side i f inside format = holds_over _ _ _ (holds_channels side i inside) (holds_channel (channel_at side i) f format)

-- where code blocks are coded, the searched bits are those of one
pub searched_is : (coding : Coding) (x : ℕ) → coding ≢ Uncoded → searched_bits coding x ≡ block_size x (block_count x coding)
searched_is Uncoded x coded = absurd (coded refl)
searched_is Half x coded = refl
searched_is Third x coded = refl

-- a code block that is coded has at most 504 bits
searched_short : (coding : Coding) (x : ℕ) → searched_bits coding x ≤ 504
searched_short Uncoded x = omega arith
searched_short Half x = size_short x Half (λ other. let none : ⊥ = cc in none)
searched_short Third x = size_short x Third (λ other. let none : ⊥ = cc in none)

formats_short : (channel : Trch) (n : ℕ) → (formats_room channel n).code_block ≤ 504
unfolding formats_room
formats_short channel zero = omega arith
formats_short channel (suc n) = omega (arith, formats_short channel n, searched_short channel.coding (joined_bits channel (format_at channel n)))

channels_short : (side : Side) (n : ℕ) → (channels_room side n).code_block ≤ 504
unfolding channels_room
channels_short side zero = omega arith
channels_short side (suc n) = omega (arith, channels_short side n, formats_short (channel_at side n) (length (channel_at side n).formats))

pub channel_short : (channel : Trch) → (channel_room channel).code_block ≤ 504
channel_short channel = formats_short channel (length channel.formats)

pub side_short : (side : Side) → (side_room side).code_block ≤ 504
side_short side = channels_short side (length side.channels)
