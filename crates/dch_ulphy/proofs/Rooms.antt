-- There is room for each TTI of the uplink, where it is coded and where it is read.
use Rattle.std.proofs.Common.{◌≡◌, ◌∙◌, ◌*◌, ◌<◌, ◌≤◌, ℕ, List, length, take, arith, ap, ap₂, sym}
use Rattle.std.specs.Int.{div_ceil}
use Rattle.std.proofs.lemmas.Grind.{div_ceil_times}
use Rattle.std.proofs.lemmas.List.{length-take-le}
use Rattle.dch_bits.specs.declared.bit.Vote.{Vote}
use Rattle.dch_types.specs.declared.channel.Dir.TheVariants.{Up}
use Rattle.dch_types.specs.declared.channel.Format.{Format}
use Rattle.dch_types.specs.declared.channel.Trch.{Trch}
use Rattle.dch_types.specs.Lengths.{padded, tti_bits}
use Rattle.dch_types.specs.Limits.{IsChannel}
use Rattle.dch_types.specs.Parts.{channel_at, format_at}
use Rattle.dch_coding.specs.Rooms.{channel_room}
use Rattle.dch_coding.proofs.Rooms.{holds_channel}
use Rattle.dch_accept.specs.declared.room.TtiRoom.{TtiRoom}
use Rattle.dch_accept.specs.Plans.{Planned}
use Rattle.dch_accept.specs.Rooms.{tti_room}
use Rattle.dch_accept.proofs.Rooms.{frame_held, holds_coding}
use Rattle.dch_collision.specs.Copies.{padded_in}
use Rattle.dch_tti.specs.Read.{coded_in}
use Rattle.dch_tti.specs.RxFrames.{IsReaderOf, RxFrames}
use Rattle.dch_tti.specs.Loaded.{AreWithin, Loaded, loaded_at}
use Rattle.dch_ulphy.specs.Loaded.{IsTtiOf, padded_cells}

-- a TTI of a channel in a format fits into its buffer, and into memory for so many coded bits and cells
pub record TtiFits (channel : Trch) (f most_bits most_cells : ℕ) (loaded : Loaded) : Type 0 where
  pub bits : tti_bits channel (format_at channel f) ≤ most_bits
  pub cells : padded_cells channel f ≤ most_cells
  pub buffer : padded_cells channel f ≤ loaded.room.cells

pub tti_fits : (planned : Planned) (tti : List Loaded) (i f most_bits most_cells : ℕ) (channel : Trch) → IsTtiOf planned tti → AreWithin most_bits most_cells tti → i < length planned.config.uplink.side.channels
    → channel ≡ channel_at planned.config.uplink.side i → IsChannel channel → f < length channel.formats → TtiFits channel f most_bits most_cells (loaded_at tti i)
tti_fits planned tti i f most_bits most_cells channel is within inside same good there =
    let room : (loaded_at tti i).room ≡ tti_room planned Up i = is.rooms i inside in
    let own : channel_room channel ≡ channel_room (channel_at planned.config.uplink.side i) = ap channel_room same in
    let bits : (loaded_at tti i).room.coding.bits ≡ (channel_room channel).bits = ap (λ (room : TtiRoom). room.coding.bits) room ∙ ap (λ (channel : Trch). (channel_room channel).bits) (sym same) in
    let cells : (loaded_at tti i).room.cells ≡ (channel_room channel).bits = ap (λ (room : TtiRoom). room.cells) room ∙ ap (λ (channel : Trch). (channel_room channel).bits) (sym same) in
    let enough = within i (omega (arith, is.channels, inside)) in
    let whole : padded (tti_bits channel (format_at channel f)) channel.frames ≤ (channel_room channel).bits = (holds_channel channel f there).bits in
    let more : tti_bits channel (format_at channel f) ≤ padded (tti_bits channel (format_at channel f)) channel.frames = (div_ceil_times (tti_bits channel (format_at channel f)) channel.frames (omega (arith, good.frames))).0 in
    record {
      bits = omega (arith, more, whole, bits, enough.bits);
      cells = omega (arith, whole, cells, enough.cells);
      buffer = omega (arith, whole, cells);
    }

-- so many rows, for the radio frames of a padded TTI, fit into what a reader has
pub record RowsFit (planned : Planned) (reader : RxFrames) (i f frames rows : ℕ) (out : List Vote) : Type 0 where
  pub one : rows ≤ reader.room.frame_bits
  pub all : rows * frames ≤ length out
  pub taken : length (take (rows * frames) out) ≡ rows * frames
  pub padded : rows * frames ≡ padded_in planned.config.uplink.side i f
  pub coded : coded_in planned.config.uplink.side i f ≤ rows * frames

pub rows_fit : (planned : Planned) (reader : RxFrames) (i f : ℕ) (channel : Trch) (format : Format) (bits rows : ℕ) (out : List Vote) → IsReaderOf planned Up reader → i < length planned.config.uplink.side.channels
    → channel ≡ channel_at planned.config.uplink.side i → IsChannel channel → f < length (channel_at planned.config.uplink.side i).formats → format ≡ format_at channel f → bits ≡ tti_bits channel format
    → rows ≡ div_ceil bits channel.frames → length out ≡ reader.room.coding.bits → RowsFit planned reader i f channel.frames rows out
rows_fit planned reader i f channel format bits rows out is inside same good there kind all each long =
    let own : Trch = channel_at planned.config.uplink.side i in
    let frames : channel.frames ≡ own.frames = ap (λ (channel : Trch). channel.frames) same in
    let some : 0 < own.frames = omega (arith, good.frames, frames) in
    let coded : bits ≡ coded_in planned.config.uplink.side i f = all ∙ ap (tti_bits channel) kind ∙ ap (λ (channel : Trch). tti_bits channel (format_at channel f)) same in
    let row : rows ≡ div_ceil (tti_bits own (format_at own f)) own.frames = each ∙ ap₂ div_ceil coded frames in
    let padded : rows * channel.frames ≡ padded_in planned.config.uplink.side i f = ap₂ (λ rows frames. rows * frames) row frames in
    let inside_out : rows * channel.frames ≤ length out = omega (arith, padded, long, (holds_coding planned Up i f inside there).bits, ap (λ (room : TtiRoom). room.coding.bits) is.room) in record {
      one = omega (arith, row, frame_held planned Up i f inside there some, ap (λ (room : TtiRoom). room.frame_bits) is.room);
      all = inside_out;
      taken = length-take-le (rows * channel.frames) out inside_out;
      padded = padded;
      coded = omega (arith, padded, (div_ceil_times (tti_bits own (format_at own f)) own.frames some).0);
    }
