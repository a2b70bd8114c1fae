-- For how large TTIs there is room in the memory of coding and decoding.
use Rattle.std.specs.Prelude.{◌<◌, ◌≤◌, ℕ, zero, suc, max, length}
use Rattle.dch_types.specs.declared.channel.Coding.{Coding}
use Rattle.dch_types.specs.declared.channel.Coding.TheVariants.{Uncoded, Half, Third}
use Rattle.dch_types.specs.declared.channel.Format.{Format}
use Rattle.dch_types.specs.declared.channel.Side.{Side}
use Rattle.dch_types.specs.declared.channel.Trch.{Trch}
use Rattle.dch_types.specs.Lengths.{block_count, block_size, joined_bits, padded, tti_bits}
use Rattle.dch_types.specs.Parts.{channel_at, format_at}
use Rattle.dch_coding.specs.declared.room.CodingRoom.{CodingRoom}

-- the bits of a code block of x joined bits, where they are coded
abbrev pub searched_bits : Coding → ℕ → ℕ
searched_bits Uncoded x = 0
searched_bits Half x = block_size x (block_count x Half)
searched_bits Third x = block_size x (block_count x Third)

-- what a TTI in a format wants: its coded bits padded to whole radio frames, and a code block where it is coded
abbrev pub format_room : Trch → Format → CodingRoom
format_room channel format = record {
  bits = padded (tti_bits channel format) channel.frames;
  code_block = searched_bits channel.coding (joined_bits channel format);
}

abbrev pub no_room : CodingRoom
no_room = record { bits = 0; code_block = 0 }

-- room for what either holds
abbrev pub wider : CodingRoom → CodingRoom → CodingRoom
wider one other = record { bits = max one.bits other.bits; code_block = max one.code_block other.code_block }

-- the greatest TTI of a channel, over its first formats and over all
unfoldable pub formats_room : Trch → ℕ → CodingRoom
formats_room channel zero = no_room
formats_room channel (suc f) = wider (formats_room channel f) (format_room channel (format_at channel f))

abbrev pub channel_room : Trch → CodingRoom
channel_room channel = formats_room channel (length channel.formats)

-- the greatest TTI of a direction, over its first channels and over all
unfoldable pub channels_room : Side → ℕ → CodingRoom
channels_room side zero = no_room
channels_room side (suc i) = wider (channels_room side i) (channel_room (channel_at side i))

abbrev pub side_room : Side → CodingRoom
side_room side = channels_room side (length side.channels)

-- there is room for so much
pub record Holds (room wanted : CodingRoom) : Type 0 where
  pub bits : wanted.bits ≤ room.bits
  pub code_block : wanted.code_block ≤ room.code_block

-- and for each TTI of a direction
abbrev pub HoldsSide : CodingRoom → Side → Type 0
HoldsSide room side =
    (i f : ℕ) → i < length side.channels → f < length (channel_at side i).formats
    → Holds room (format_room (channel_at side i) (format_at (channel_at side i) f))
