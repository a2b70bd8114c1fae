-- The transport blocks of a TTI as the votes for its coded bits are read.
use Rattle.std.specs.Prelude.{◌≡◌, ◌<◌, ◌+◌, ◌↔◌, ℕ, List, Bool, false, length, take, slice_index_or, IsTrue}
use Rattle.dch_bits.specs.declared.bit.Bit.{Bit}
use Rattle.dch_bits.specs.declared.bit.Vote.{Vote}
use Rattle.dch_types.specs.declared.channel.Crc.{Crc}
use Rattle.dch_types.specs.declared.channel.Format.{Format}
use Rattle.dch_types.specs.declared.channel.Trch.{Trch}
use Rattle.dch_types.specs.Lengths.{crc_size, joined_bits}
use Rattle.dch_coding.specs.Parity.{IsAttached}
use Rattle.dch_accept.specs.Blocks.{Held, bits_of, block_at}
use Rattle.dch_coding.specs.Ttis.{part}
use Rattle.dch_tti.specs.JoinedBits.{AreRead}

-- a block is the front of some bits, and good exactly where they end with its parity
pub record IsFront (crc : Crc) (size : ℕ) (attached block : List Bit) (good : Bool) : Type 0 where
  pub front : block ≡ take size attached
  pub fits : IsTrue good ↔ IsAttached crc block attached

-- what is received in a format of a channel: joined bits are read from the votes, and each block is a part of them
pub record IsReceived (channel : Trch) (number : ℕ) (format : Format) (votes : List Vote) (held : Held) : Type 0 where
  pub numbered : held.format ≡ number
  pub sized : held.size ≡ format.size
  pub whole : length held.bits ≡ bits_of format
  pub counted : length held.good ≡ format.number
  pub joined : List Bit
  pub long : length joined ≡ joined_bits channel format
  pub read : AreRead channel.coding votes joined
  pub blocks : (i : ℕ) → i < format.number →
      IsFront channel.crc format.size (part i (format.size + crc_size channel.crc) joined) (block_at held i)
      (slice_index_or held.good i false)

-- just these blocks are received, and all are good
pub record ArrivesAs (blocks : List Bit) (held : Held) : Type 0 where
  pub same : held.bits ≡ blocks
  pub good : (i : ℕ) → i < length held.good → IsTrue (slice_index_or held.good i false)
